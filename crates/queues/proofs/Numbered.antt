-- Laws of the pending rounds above a number. Assumes nothing.
use mathlib.Core.Path.{◌≡◌, refl, sym, ap, ◌∙◌, subst}
use mathlib.Core.List.{List}
use Prim.Native.Nat.{ℕ, zero, suc, ◌+◌, ◌*◌, ◌-◌, ◌≤◌, ◌<◌}
use native.Mathlib.Omega.{arith}
use lib.ListN.{length, get_or, set}
use Rattle.protocol.specs.Machine.{Round, above, beyond}
use Rattle.protocol.proofs.Basics.{above_skip, above_stop}
use Rattle.sheet.specs.Sheet.{sheet}
use Rattle.words.specs.Layout.{QUEUE, ROUND, ROUND_CHANGES, PENDING_LENGTH, WAITING_LENGTH, KNOWN, PENDING, WAITING, RECORD}
use Rattle.words.specs.Place.{change_place, Apart, Valid}
use Rattle.record.specs.Reading.{queue, round_at, given_by}
use Rattle.record.proofs.Queues.{queue_first}
use Rattle.record.proofs.Same.{queue_same}
use Rattle.queues.specs.Parts.{round_entry, Movable, Moved, Requeued}
use Rattle.queues.specs.Rounds.{rounds_of, CountedTo, HasPending}
use Rattle.queues.proofs.Entries.{round_local, queue_moved}

-- "removes pending rounds up to the number": those that are left are the last ones.
above_queue : (k s m : ℕ) (f : ℕ → Round sheet) → ((j : ℕ) → j < s → (f j).number ≤ k) → (0 < m → k < (f s).number) → above sheet k (queue (s + m) f) ≡ queue m (λ j. f (s + j))
above_queue k zero zero f u n = unfold queue in refl
above_queue k zero (suc m) f u n =
    let e : 0 + suc m ≡ suc m = omega arith in
    ap (λ (a : ℕ). above sheet k (queue a f)) e ∙ ap (above sheet k) (queue_first m f) ∙ above_stop sheet k (f 0) _ (n (omega arith)) ∙ sym (queue_first m f) ∙ queue_same (suc m) f (λ j. f (0 + j)) (λ j h. let z : j ≡ 0 + j = omega arith in ap f z)
above_queue k (suc s) m f u n =
    let e : suc s + m ≡ suc (s + m) = omega arith in
    ap (λ (a : ℕ). above sheet k (queue a f)) e ∙ ap (above sheet k) (queue_first (s + m) f) ∙ above_skip sheet k (f 0) (queue (s + m) (λ j. f (suc j))) (u 0 (omega arith)) ∙ above_queue k s m (λ j. f (suc j)) (λ j h. u (suc j) (omega arith)) n
    ∙ queue_same m (λ j. f (suc (s + j))) (λ j. f (suc s + j)) (λ j h. let z : suc (s + j) ≡ suc s + j = omega arith in ap f z)

above_counted : (cells : ℕ) (xs : List ℕ) (number s : ℕ) → CountedTo xs number s → above sheet number (rounds_of cells xs PENDING_LENGTH PENDING) ≡ queue (get_or xs PENDING_LENGTH 0 - s) (λ j. round_at cells xs (PENDING + ROUND * s + ROUND * j))
unfolding round_at
above_counted cells xs number s C =
    let l = C.few in
    let e : get_or xs PENDING_LENGTH 0 ≡ s + (get_or xs PENDING_LENGTH 0 - s) = omega arith in
    ap (λ (a : ℕ). above sheet number (queue a (λ j. round_at cells xs (PENDING + ROUND * j)))) e
    ∙ above_queue number s (get_or xs PENDING_LENGTH 0 - s) (λ j. round_at cells xs (PENDING + ROUND * j)) C.up_to (λ h. C.next (omega arith))
    ∙ queue_same _ _ _ (λ j h. let z : PENDING + ROUND * (s + j) ≡ PENDING + ROUND * s + ROUND * j = omega arith in ap (round_at cells xs) z)

-- Where nothing is removed, all stays.
stays : (cells : ℕ) (xs : List ℕ) → HasPending cells xs → Requeued (round_entry cells) xs xs PENDING_LENGTH PENDING (rounds_of cells xs PENDING_LENGTH PENDING)
stays cells xs H = record { now_is = record { is = refl; few = H.few; valid = H.rounds }; kept = λ i n m. refl }

pub forget_nothing : (cells : ℕ) (xs : List ℕ) (word : ℕ) → HasPending cells xs → word ≡ 0 → Requeued (round_entry cells) xs xs PENDING_LENGTH PENDING (beyond sheet (given_by word) (rounds_of cells xs PENDING_LENGTH PENDING))
forget_nothing cells xs word H e = rw e (stays cells xs H)

-- The rounds above the number can be moved where none lands on one that is still to be moved.
module _ (cells : ℕ) (xs : List ℕ) (number s : ℕ) (H : HasPending cells xs) (C : CountedTo xs number s) where
  movable : (to : ℕ) → to + ROUND * QUEUE ≤ RECORD → ((i j : ℕ) → i ≤ j → j < get_or xs PENDING_LENGTH 0 - s → Apart (to + ROUND * i) ROUND (PENDING + ROUND * s + ROUND * j) ROUND) → Movable (round_entry cells) xs to (PENDING + ROUND * s) (get_or xs PENDING_LENGTH 0 - s)
  movable to t ahead =
      let f = H.few in
      let z = H.size in
      let c = C.few in
      record {
        to_fits = omega arith;
        from_fits = omega arith;
        from_valid = λ j h. let e : PENDING + ROUND * (s + j) ≡ PENDING + ROUND * s + ROUND * j = omega arith in subst (λ (o : ℕ). Valid change_place xs (o + ROUND_CHANGES) cells) e (H.rounds (s + j) (omega arith));
        ahead = ahead;
      }

  pub down_movable : (s ≡ 0 → ⊥) → Movable (round_entry cells) xs PENDING (PENDING + ROUND * s) (get_or xs PENDING_LENGTH 0 - s)
  down_movable n = movable PENDING (omega arith) (λ i j l h k p q u v. n (omega arith))

  pub across_movable : Movable (round_entry cells) xs WAITING (PENDING + ROUND * s) (get_or xs PENDING_LENGTH 0 - s)
  across_movable = movable WAITING (omega arith) (λ i j l h k p q u v. omega (arith, H.few, C.few))

  -- and they are the queue then, there or here
  requeued : (l o : ℕ) (ys : List ℕ) → l < KNOWN → PENDING ≤ o → length ys ≡ RECORD → Moved (round_entry cells) xs ys o (get_or xs PENDING_LENGTH 0 - s) (λ j. round_at cells xs (PENDING + ROUND * s + ROUND * j)) → Requeued (round_entry cells) xs (set ys l (get_or xs PENDING_LENGTH 0 - s)) l o (above sheet number (rounds_of cells xs PENDING_LENGTH PENDING))
  requeued l o ys a b len M =
      rw (above_counted cells xs number s C) (queue_moved (round_entry cells) (round_local cells H.few_cells) xs ys l o (get_or xs PENDING_LENGTH 0 - s) _ (omega arith) (omega arith) (omega (arith, H.few)) M)

  pub put_done : (ys : List ℕ) → length ys ≡ RECORD → Moved (round_entry cells) xs ys WAITING (get_or xs PENDING_LENGTH 0 - s) (λ j. round_at cells xs (PENDING + ROUND * s + ROUND * j)) → Requeued (round_entry cells) xs (set ys WAITING_LENGTH (get_or xs PENDING_LENGTH 0 - s)) WAITING_LENGTH WAITING (above sheet number (rounds_of cells xs PENDING_LENGTH PENDING))
  put_done ys = requeued WAITING_LENGTH WAITING ys (omega arith) (omega arith)

  module _ (word : ℕ) (w : number ≡ word - 1) (n : word ≡ 0 → ⊥) where
    gives : (rs : List (Round sheet)) → beyond sheet (given_by word) rs ≡ above sheet number rs
    gives rs = go word w n
      where
        go : (k : ℕ) → number ≡ k - 1 → (k ≡ 0 → ⊥) → beyond sheet (given_by k) rs ≡ above sheet number rs
        go zero e m = absurd (m refl)
        go (suc k) e m = let z : k ≡ number = omega arith in ap (λ (a : ℕ). above sheet a rs) z

    pub forget_some : (ys : List ℕ) → length ys ≡ RECORD → Moved (round_entry cells) xs ys PENDING (get_or xs PENDING_LENGTH 0 - s) (λ j. round_at cells xs (PENDING + ROUND * s + ROUND * j)) → Requeued (round_entry cells) xs (set ys PENDING_LENGTH (get_or xs PENDING_LENGTH 0 - s)) PENDING_LENGTH PENDING (beyond sheet (given_by word) (rounds_of cells xs PENDING_LENGTH PENDING))
    forget_some ys len M = rw (gives (rounds_of cells xs PENDING_LENGTH PENDING)) (requeued PENDING_LENGTH PENDING ys (omega arith) (omega arith) len M)

    -- none is up to the number
    pub forget_none : s ≡ 0 → Requeued (round_entry cells) xs xs PENDING_LENGTH PENDING (beyond sheet (given_by word) (rounds_of cells xs PENDING_LENGTH PENDING))
    forget_none e = rw (gives (rounds_of cells xs PENDING_LENGTH PENDING)) (rw all (stays cells xs H))
      where
        all : above sheet number (rounds_of cells xs PENDING_LENGTH PENDING) ≡ rounds_of cells xs PENDING_LENGTH PENDING
        all =
            let m : get_or xs PENDING_LENGTH 0 - s ≡ get_or xs PENDING_LENGTH 0 = omega arith in
            above_counted cells xs number s C ∙ ap (λ (k : ℕ). queue k (λ j. round_at cells xs (PENDING + ROUND * s + ROUND * j))) m
            ∙ queue_same _ _ _ (λ j h. let z : PENDING + ROUND * s + ROUND * j ≡ PENDING + ROUND * j = omega arith in ap (round_at cells xs) z)
