-- Laws of rounds in a record's queues: storing, adding and moving them. Assumes nothing.
use mathlib.Core.Path.{◌≡◌, refl, ◌∙◌}
use mathlib.Core.List.{List}
use Prim.Native.Nat.{ℕ, ◌+◌, ◌*◌, ◌≤◌, ◌<◌}
use native.Mathlib.Omega.{arith}
use lib.ListN.{length, get_or, set, length-set}
use Rattle.cells.specs.declared.Change.TheVariants.{Nothing}
use Rattle.protocol.specs.Machine.{Round}
use Rattle.sheet.specs.Sheet.{sheet}
use Rattle.words.specs.Layout.{CHANGE, ROUND, ROUND_CHANGES, LAST, BUFFERED}
use Rattle.words.specs.Place.{change_place, change_at, Beside, Out, Filled}
use Rattle.words.proofs.Places.{Same, set_kept, set_new, change_local}
use Rattle.record.specs.Reading.{round_at}
use Rattle.record.proofs.Loops.{copied}
use Rattle.record.proofs.Same.{places_same, places_valid}
use Rattle.queues.specs.Parts.{round_entry, PutEntry, Movable, Moved, Requeued}
use Rattle.queues.specs.Rounds.{round_from, rounds_of, with_round, Addable}
use Rattle.queues.proofs.Entries.{round_local, next_valid, queue_added}

-- A round is stored: the number, then its changes.
module _ (cells : ℕ) (xs : List ℕ) (o number from : ℕ) (B : Beside change_place change_place xs (o + ROUND_CHANGES) from cells) (out : Out from (CHANGE * cells) o) where
  from_same : Same xs (set xs o number) from (CHANGE * cells)
  from_same i p q = set_kept xs o number i (λ e. out (omega arith) (omega arith))

  pub round_beside : Beside change_place change_place (set xs o number) (o + ROUND_CHANGES) from cells
  round_beside = record {
    to_fits = simp length-set B.to_fits;
    from_fits = simp length-set B.from_fits;
    from_valid = places_valid change_place change_local cells xs (set xs o number) from from_same B.from_valid;
    apart = B.apart;
  }

  pub round_stored : (ys : List ℕ) → Filled change_place (set xs o number) ys (o + ROUND_CHANGES) cells (λ k. change_at (set xs o number) (from + CHANGE * k)) → PutEntry (round_entry cells) xs ys o (round_from cells xs number from)
  unfolding round_at
  round_stored ys F = record {
    is = (λ i. record {
      number = (F.kept o (λ p q. omega arith) ∙ set_new xs o number (omega (arith, B.to_fits))) i;
      delta = (copied cells (set xs o number) ys (o + ROUND_CHANGES) from change_place Nothing F ∙ places_same change_place change_local cells xs (set xs o number) from from_same Nothing) i;
    });
    valid = F.valid;
    kept = λ i n. F.kept i (λ p q. n (omega arith, omega arith)) ∙ set_kept xs o number i (λ e. n (omega arith, omega arith));
  }

-- A round of the push buffer is added.
module _ (cells : ℕ) (xs : List ℕ) (l o : ℕ) (A : Addable cells xs l o) where
  pub add_beside : Beside change_place change_place xs (o + ROUND * get_or xs l 0 + ROUND_CHANGES) BUFFERED cells
  add_beside =
      let c = A.few_cells in
      let p = A.behind in
      let f = A.fits in
      let s = A.size in
      let r = A.room in
      record { to_fits = omega arith; from_fits = omega arith; from_valid = A.buffered; apart = λ i a b d e. omega arith }

  pub add_out : Out BUFFERED (CHANGE * cells) (o + ROUND * get_or xs l 0)
  add_out a b = omega (arith, A.few_cells, A.behind)

  pub round_added : (ys : List ℕ) → l < length ys → PutEntry (round_entry cells) xs ys (o + ROUND * get_or xs l 0) (round_from cells xs (get_or xs LAST 0) BUFFERED) → Requeued (round_entry cells) xs (set ys l (get_or xs l 0 + 1)) l o (with_round cells xs l o)
  round_added ys h W =
      queue_added (round_entry cells) (round_local cells A.few_cells) xs ys l o _ (rounds_of cells xs l o) record { is = refl; few = omega (arith, A.room); valid = A.rounds } W (omega (arith, A.single, A.behind)) h A.room

-- The next round is moved.
module _ (cells : ℕ) (xs ys : List ℕ) (to from n j : ℕ) (f : ℕ → Round sheet) (c : cells ≤ 64) (B : Movable (round_entry cells) xs to from n) (h : j < n) (len : length ys ≡ length xs) (M : Moved (round_entry cells) xs ys to j f) where
  pub move_beside : Beside change_place change_place ys (to + ROUND * j + ROUND_CHANGES) (from + ROUND * j + ROUND_CHANGES) cells
  move_beside =
      let t = B.to_fits in
      let s = B.from_fits in
      record {
        to_fits = omega arith;
        from_fits = omega arith;
        from_valid = next_valid (round_entry cells) (round_local cells c) xs ys to from n j f B h M;
        apart = λ i p q u v. B.ahead j j (omega arith) h i (omega arith) (omega arith) (omega arith) (omega arith);
      }

  pub move_out : Out (from + ROUND * j + ROUND_CHANGES) (CHANGE * cells) (to + ROUND * j)
  move_out p q = B.ahead j j (omega arith) h (to + ROUND * j) (omega arith) (omega arith) (omega arith) (omega arith)

-- A round that is copied with its number.
pub whole_round : (cells : ℕ) (xs : List ℕ) (o : ℕ) → round_from cells xs (get_or xs o 0) (o + ROUND_CHANGES) ≡ round_at cells xs o
unfolding round_at
whole_round cells xs o = refl
