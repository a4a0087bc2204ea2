-- Laws of queue entries: where words stay, and what a loop over entries makes of a queue. Assumes nothing.
use mathlib.Core.Path.{◌≡◌, refl, sym, ap, ◌∙◌}
use mathlib.Core.List.{List, [], ◌∷◌, ◌++◌}
use Prim.Native.Nat.{ℕ, ◌+◌, ◌*◌, ◌≤◌, ◌<◌}
use native.Mathlib.Numerals.{add-one}
use native.Mathlib.Omega.{arith}
use lib.ListN.{length, get_or, set}
use Rattle.words.specs.Layout.{QUEUE}
use Rattle.words.specs.Place.{Out}
use Rattle.words.proofs.Places.{Same, below_suc, place_below, set_kept, set_new}
use Rattle.record.specs.Reading.{queue}
use Rattle.record.specs.Valid.{InItem}
use Rattle.record.proofs.Same.{queue_same, round_same, round_valid, item_same, item_valid, in_item, in_item_same}
use Rattle.queues.specs.Parts.{Entry, round_entry, item_entry, PutEntry, EntryBeside, Movable, Moved, QueueIs, Requeued}

-- The words of an entry that are in use are all that it depends on, and they lie in its room.
pub record LocalEntry (E : Entry) : Type 0 where
  pub value_same : (xs ys : List ℕ) (o : ℕ) → E.ValidAt xs o → ((i : ℕ) → E.Uses xs o i → get_or ys i 0 ≡ get_or xs i 0) → E.value_at ys o ≡ E.value_at xs o
  pub valid_same : (xs ys : List ℕ) (o : ℕ) → E.ValidAt xs o → ((i : ℕ) → E.Uses xs o i → get_or ys i 0 ≡ get_or xs i 0) → E.ValidAt ys o
  pub uses_same : (xs ys : List ℕ) (o : ℕ) → ((i : ℕ) → E.Uses xs o i → get_or ys i 0 ≡ get_or xs i 0) → (i : ℕ) → E.Uses xs o i → E.Uses ys o i
  pub within : (xs : List ℕ) (o i : ℕ) → E.Uses xs o i → (o ≤ i) × (i < o + E.room)

pub round_local : (cells : ℕ) → cells ≤ 64 → LocalEntry (round_entry cells)
round_local cells c = record {
  value_same = λ xs ys o ok S. round_same cells xs ys o (λ i p q. S i (p, omega arith));
  valid_same = λ xs ys o ok S. round_valid cells xs ys o (λ i p q. S i (p, omega arith)) ok;
  uses_same = λ xs ys o S i u. u;
  within = λ xs o i u. (u.0, omega arith);
}

pub item_local : (devices cells : ℕ) → devices ≤ 8 → cells ≤ 64 → LocalEntry (item_entry devices cells)
item_local devices cells d c = record {
  value_same = λ xs ys o ok S. item_same devices cells xs ys o S ok;
  valid_same = λ xs ys o ok S. item_valid devices cells xs ys o S ok;
  uses_same = λ xs ys o S i u. in_item_same devices cells xs ys o (S o InItem.kind) i u;
  within = λ xs o i u. in_item devices cells xs o i d c u;
}

module _ (E : Entry) (L : LocalEntry E) where
  -- a loop that stores one entry after the other
  module _ (xs : List ℕ) (o : ℕ) (f : ℕ → E.Holds) where
    pub moved_none : Moved E xs xs o 0 f
    moved_none = record { is = λ j h. absurd (omega arith); valid = λ j h. absurd (omega arith); kept = λ i n. refl }

    pub moved_more : (ys zs : List ℕ) (i : ℕ) (v : E.Holds) → Moved E xs ys o i f → PutEntry E ys zs (o + E.room * i) v → v ≡ f i → Moved E xs zs o (i + 1) f
    moved_more ys zs i v M W e = record {
      is = below_suc {P = λ j. E.value_at zs (o + E.room * j) ≡ f j} i (λ j h. L.value_same ys zs (o + E.room * j) (M.valid j h) (before j h) ∙ M.is j h) (W.is ∙ e);
      valid = below_suc {P = λ j. E.ValidAt zs (o + E.room * j)} i (λ j h. L.valid_same ys zs (o + E.room * j) (M.valid j h) (before j h)) W.valid;
      kept = λ k n. W.kept k (n i (omega arith)) ∙ M.kept k (λ j h u. n j (omega arith) (L.uses_same ys zs (o + E.room * j) (before j h) k u));
    }
      where
        before : (j : ℕ) → j < i → (k : ℕ) → E.Uses ys (o + E.room * j) k → get_or zs k 0 ≡ get_or ys k 0
        before j h k u = W.kept k (λ w. let a = L.within ys (o + E.room * j) k u in let b = L.within zs (o + E.room * i) k w in omega (arith, place_below E.room j i h))

  -- the entry that it reads next is as it was
  module _ (xs ys : List ℕ) (to from n i : ℕ) (f : ℕ → E.Holds) (B : Movable E xs to from n) (h : i < n) (M : Moved E xs ys to i f) where
    still : (k : ℕ) → E.Uses xs (from + E.room * i) k → get_or ys k 0 ≡ get_or xs k 0
    still k u = M.kept k (λ j l w.
        let a = L.within xs (from + E.room * i) k u in
        let b = L.within ys (to + E.room * j) k w in
        B.ahead j i (omega arith) h k b.0 b.1 a.0 a.1)

    pub next_value : E.value_at ys (from + E.room * i) ≡ E.value_at xs (from + E.room * i)
    next_value = L.value_same xs ys (from + E.room * i) (B.from_valid i h) still

    pub next_valid : E.ValidAt ys (from + E.room * i)
    next_valid = L.valid_same xs ys (from + E.room * i) (B.from_valid i h) still

    pub next_beside : length ys ≡ length xs → EntryBeside E ys (to + E.room * i) (from + E.room * i)
    next_beside len =
        let r = place_below E.room i n h in
        let t = B.to_fits in
        let f = B.from_fits in
        record { to_fits = omega arith; from_fits = omega arith; from_valid = next_valid; apart = B.ahead i i (omega arith) h }

  -- a queue all of whose room stays
  pub queue_kept : (xs ys : List ℕ) (l o : ℕ) (q : List E.Holds) → get_or ys l 0 ≡ get_or xs l 0 → Same xs ys o (E.room * QUEUE) → QueueIs E xs l o q → QueueIs E ys l o q
  queue_kept xs ys l o q e S Q = record {
    is = ap (λ (n : ℕ). queue n (λ j. E.value_at ys (o + E.room * j))) e ∙ queue_same _ _ _ (λ j h. L.value_same xs ys (o + E.room * j) (Q.valid j h) (part j h)) ∙ Q.is;
    few = rw e Q.few;
    valid = λ j h. let b : j < get_or xs l 0 = omega arith in L.valid_same xs ys (o + E.room * j) (Q.valid j b) (part j b);
  }
    where
      part : (j : ℕ) → j < get_or xs l 0 → (i : ℕ) → E.Uses xs (o + E.room * j) i → get_or ys i 0 ≡ get_or xs i 0
      part j h i u =
          let a = L.within xs (o + E.room * j) i u in
          S i (omega arith) (omega (arith, place_below E.room j QUEUE (omega (arith, Q.few))))

  -- the words outside of its room stay
  pub requeued_outside : (xs ys : List ℕ) (l o : ℕ) (q : List E.Holds) → Requeued E xs ys l o q → (i : ℕ) → (i ≡ l → ⊥) → Out o (E.room * QUEUE) i → get_or ys i 0 ≡ get_or xs i 0
  requeued_outside xs ys l o q Q i n out = Q.kept i n (λ j h u.
      let w = L.within ys (o + E.room * j) i u in
      out (omega arith) (omega (arith, place_below E.room j QUEUE (omega (arith, Q.now_is.few)))))

  -- its length is stored after its n entries
  pub queue_moved : (xs ys : List ℕ) (l o n : ℕ) (f : ℕ → E.Holds) → l < o → l < length ys → n ≤ QUEUE → Moved E xs ys o n f → Requeued E xs (set ys l n) l o (queue n f)
  queue_moved xs ys l o n f a b c M =
      let e = set_new ys l n b in
      record {
        now_is = record {
          is = ap (λ (m : ℕ). queue m (λ j. E.value_at (set ys l n) (o + E.room * j))) e ∙ queue_same n _ _ (λ j h. L.value_same ys (set ys l n) (o + E.room * j) (M.valid j h) (beside j) ∙ M.is j h);
          few = rw e c;
          valid = λ j h. let k : j < n = omega arith in L.valid_same ys (set ys l n) (o + E.room * j) (M.valid j k) (beside j);
        };
        kept = λ i p q. set_kept ys l n i p ∙ M.kept i (λ j h u. q j (omega arith) (L.uses_same ys (set ys l n) (o + E.room * j) (beside j) i u));
      }
    where
      beside : (j i : ℕ) → E.Uses ys (o + E.room * j) i → get_or (set ys l n) i 0 ≡ get_or ys i 0
      beside j i u = let w = L.within ys (o + E.room * j) i u in set_kept ys l n i (λ q. omega arith)

  -- an entry is stored behind the last, and the length after it
  module _ (xs ys : List ℕ) (l o : ℕ) (v : E.Holds) (q : List E.Holds) (Q : QueueIs E xs l o q) (W : PutEntry E xs ys (o + E.room * get_or xs l 0) v) where
    after : ℕ → E.Holds
    after j = E.value_at ys (o + E.room * j)

    same_before : (j : ℕ) → j < get_or xs l 0 → E.value_at xs (o + E.room * j) ≡ after j
    unfolding after
    same_before j h = sym (L.value_same xs ys (o + E.room * j) (Q.valid j h) (λ k u. W.kept k (λ w.
        let a = L.within xs (o + E.room * j) k u in
        let b = L.within ys (o + E.room * get_or xs l 0) k w in
        omega (arith, place_below E.room j (get_or xs l 0) h))))

    one_more : queue (get_or xs l 0 + 1) after ≡ q ++ (v ∷ [])
    unfolding queue after
    one_more =
        ap (λ (n : ℕ). queue n after) (add-one (get_or xs l 0))
        ∙ (λ i. (queue_same (get_or xs l 0) after (λ j. E.value_at xs (o + E.room * j)) (λ j h. sym (same_before j h)) ∙ Q.is) i ++ (W.is i ∷ []))

    pub queue_added : l < o → l < length ys → get_or xs l 0 < QUEUE → Requeued E xs (set ys l (get_or xs l 0 + 1)) l o (q ++ (v ∷ []))
    queue_added a b c =
        let M : Moved E xs xs o (get_or xs l 0) after = record { is = same_before; valid = Q.valid; kept = λ i n. refl } in
        rw one_more at (queue_moved xs ys l o (get_or xs l 0 + 1) after a b (omega arith) (moved_more xs o after xs ys (get_or xs l 0) v M W (unfold after in (sym W.is))))
