-- What `update` makes of a record. Assumes nothing.
use mathlib.Core.Path.{◌≡◌, refl, ap, ◌∙◌, fun_ext}
use mathlib.Core.Bool.{Bool, true, false}
use mathlib.Core.Logic.{⊎_elim}
use mathlib.Core.List.{List}
use Prim.Native.Nat.{ℕ, ◌+◌, ◌*◌, ◌≤◌, ◌<◌}
use native.Mathlib.Omega.{arith}
use lib.Dec.{eqb}
use lib.ListN.{length, get_or}
use borrow.Author.Tests.{le-leb, lt-leb, lt-ltb, le-ltb, eqb-true, eqb-false}
use Rattle.cells.specs.Cells.{joined, change_of}
use Rattle.cells.specs.Stored.{update_finite, change_finite}
use Rattle.cells.specs.declared.Change.{Change}
use Rattle.cells.specs.declared.Change.TheVariants.{Nothing}
use Rattle.cells.specs.declared.Update.{Update}
use Rattle.cells.proofs.StoredForm.{joined_finite}
use Rattle.protocol.specs.declared.Refusal.TheVariants.{NoCell, NotFinite}
use Rattle.protocol.specs.Machine.{choose, update_at, done, refused}
use Rattle.protocol.specs.Machine as machine
use Rattle.sheet.specs.Changes.{one_change}
use Rattle.sheet.specs.Sheet.{sheet}
use Rattle.words.specs.Layout.{CHANGE, LAST, TAKEN, COVERED, PENDING_LENGTH, WAITING_LENGTH, ITEMS_LENGTH, TRANSACTION, BUFFERED, RECORD}
use Rattle.words.specs.Place.{change_place, change_at, change_ok, Put}
use Rattle.words.proofs.Places.{Same, lt_or_ge, change_local, change_is_finite}
use Rattle.record.specs.Reading.{places_at, changes_at, device_of}
use Rattle.record.specs.Valid.{InUse, IsRecord}
use Rattle.record.specs.Did.{Did}
use Rattle.device.specs.Named.{update_of}
use Rattle.queues.specs.Parts.{PlacesAre}
use Rattle.queues.proofs.Parts.{Parts, did_parts, last_stays, covered_stays, words_stay, known_stays, buffered_stays, received_stays, pending_stays, waiting_stays, items_stay}
use Rattle.record.proofs.Steps.{told}

update_is_finite : (u : Update) → update_finite u ≡ true → change_finite (change_of u) ≡ true
update_is_finite (Update.Set v) e = e
update_is_finite (Update.Add n) e = refl

-- What is joined can be stored.
pub stores_update : (xs : List ℕ) (o : ℕ) (u : Update) {a b r : Change} → change_ok xs o ≡ true → update_finite u ≡ true → a ≡ change_at xs o → b ≡ change_of u → r ≡ joined a b → change_finite r ≡ true
stores_update xs o u ok f p q e = ap change_finite (e ∙ (λ i. joined (p i) (q i))) ∙ joined_finite (change_at xs o) (change_of u) (change_is_finite xs o ok) (update_is_finite u f)

module _ (devices cells : ℕ) (xs : List ℕ) (R : IsRecord devices cells xs) (d cell : ℕ) (u : Update) where
  pub update_no_cell : cells ≤ cell → Did devices cells (update_at sheet cells d (update_of cell u)) xs (refused NoCell) xs
  unfolding update_at
  update_no_cell h = told devices cells (update_at sheet cells d (update_of cell u)) xs (refused NoCell) R (rw (le-leb cells cell h) refl)

  pub update_not_finite : cell < cells → update_finite u ≡ false → Did devices cells (update_at sheet cells d (update_of cell u)) xs (refused NotFinite) xs
  unfolding update_at
  update_not_finite h e = told devices cells (update_at sheet cells d (update_of cell u)) xs (refused NotFinite) R (rw (lt-leb cells cell h, e) refl)

  module _ (ys : List ℕ) (h : cell < cells) (ok : update_finite u ≡ true) (len : length ys ≡ RECORD) (v : Change) (e : v ≡ joined (change_at xs (TRANSACTION + CHANGE * cell)) (change_of u)) (W : Put change_place xs ys (TRANSACTION + CHANGE * cell) v) where
    few : cells ≤ 64
    few = R.few_cells

    ahead : (i : ℕ) → i < TRANSACTION → get_or ys i 0 ≡ get_or xs i 0
    ahead i l = W.kept i (λ p q. omega arith)

    behind : (i : ℕ) → BUFFERED ≤ i → get_or ys i 0 ≡ get_or xs i 0
    behind i l = W.kept i (λ p q. omega (arith, few))

    other : (c : ℕ) → (c ≡ cell → ⊥) → Same xs ys (TRANSACTION + CHANGE * c) CHANGE
    other c n i p q = W.kept i (λ a b. n (omega arith))

    -- the change at a cell: that of the update is joined, every other stays
    at_cell : (c : ℕ) (b : Bool) → eqb c cell ≡ b → c < cells → change_at ys (TRANSACTION + CHANGE * c) ≡ joined (change_at xs (TRANSACTION + CHANGE * c)) (choose b (change_of u) Nothing)
    at_cell c true t l = let q = eqb-true c cell t in rw q (W.is ∙ e)
    at_cell c false t l = change_local.value_same xs ys (TRANSACTION + CHANGE * c) (other c (eqb-false c cell t))

    past : (c : ℕ) (b : Bool) → eqb c cell ≡ b → cells ≤ c → Nothing ≡ joined Nothing (choose b (change_of u) Nothing)
    past c true t l = let q = eqb-true c cell t in absurd (omega arith)
    past c false t l = refl

    transaction_is : PlacesAre change_place Nothing cells ys TRANSACTION (λ c. joined (changes_at cells xs TRANSACTION c) (one_change (update_of cell u) c))
    unfolding places_at
    transaction_is = record {
      is = fun_ext (λ c. ⊎_elim (λ l. rw (lt-ltb c cells l) (at_cell c (eqb c cell) refl l)) (λ g. rw (le-ltb c cells g) (past c (eqb c cell) refl g)) (lt_or_ge c cells));
      valid = λ c l. valid_at c (eqb c cell) refl l;
    }
      where
        valid_at : (c : ℕ) (b : Bool) → eqb c cell ≡ b → c < cells → change_ok ys (TRANSACTION + CHANGE * c) ≡ true
        valid_at c true t l = let q = eqb-true c cell t in rw q W.valid
        valid_at c false t l = change_local.valid_same xs ys (TRANSACTION + CHANGE * c) (other c (eqb-false c cell t)) ∙ R.valid.transaction c l

    parts : Parts devices cells ys (machine.joined sheet (update_of cell u) (device_of devices cells xs))
    parts = record {
      size = len;
      last = last_stays devices cells xs ys R (ahead LAST (omega arith));
      covered = covered_stays devices cells xs ys R (ahead COVERED (omega arith));
      words = words_stay devices cells xs ys R (λ i p q. ahead i (omega arith));
      known = known_stays devices cells xs ys R (λ i p q. ahead i (omega (arith, few)));
      transaction = unfold device_of in transaction_is;
      buffered = buffered_stays devices cells xs ys R (λ i p q. behind i p);
      received = received_stays devices cells xs ys R (λ i p q. behind i (omega arith));
      pending = pending_stays devices cells xs ys R (ahead PENDING_LENGTH (omega arith)) (λ i p q. behind i (omega arith));
      waiting = waiting_stays devices cells xs ys R (ahead WAITING_LENGTH (omega arith)) (λ i p q. behind i (omega arith));
      items = items_stay devices cells xs ys R (ahead ITEMS_LENGTH (omega arith)) (λ i p q. behind i (omega arith));
    }

    pub update_done : Did devices cells (update_at sheet cells d (update_of cell u)) xs done ys
    unfolding update_at
    update_done =
        did_parts devices cells (update_at sheet cells d (update_of cell u)) xs ys (machine.joined sheet (update_of cell u) (device_of devices cells xs)) (rw (lt-leb cells cell h, ok) refl) parts (ahead TAKEN (omega arith))
        (λ i n. W.kept i (λ p q. n (InUse.transaction (omega arith) (omega arith))))
