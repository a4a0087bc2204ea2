-- A table with one device's record replaced: what it says, that it is valid, and what it keeps. Assumes nothing.
use mathlib.Core.Path.{◌≡◌, refl, sym, ap, ◌∙◌, fun_ext}
use mathlib.Core.Bool.{Bool, true, false}
use mathlib.Core.Logic.{◌⊎◌, inl, inr, ⊎_elim}
use mathlib.Core.List.{List}
use Prim.Native.Nat.{ℕ, ◌+◌, ◌*◌, ◌-◌, ◌≤◌, ◌<◌}
use native.Mathlib.Omega.{arith}
use lib.Dec.{eqb}
use lib.ListN.{length, get_or}
use borrow.Author.Tests.{lt-ltb, le-ltb, eq-eqb, ne_eqb, eqb-true, eqb-false}
use Rattle.cells.specs.declared.Cell.TheVariants.{Blank}
use Rattle.protocol.specs.Machine.{Device, put, fresh_device}
use Rattle.sheet.specs.Sheet.{sheet}
use Rattle.words.specs.Layout.{TAKEN, RECORD, DEVICES, CELLS, SHEET, RECORDS}
use Rattle.words.specs.Place.{cell_place}
use Rattle.words.proofs.Places.{lt_or_ge, cell_local}
use Rattle.record.specs.Reading.{below, sheet_at, device_of}
use Rattle.record.specs.Valid.{InUse, ValidRecord}
use Rattle.queues.specs.Parts.{PlacesAre}
use Rattle.queues.proofs.Parts.{places_kept}
use Rattle.table.specs.Table.{record_at, reading, InTable, ValidTable}
use Rattle.table.proofs.Part.{Replaced, record_word, other_record}
use Rattle.table.proofs.Tables.{reading_is, valid_from}

pub eq_or_ne : (a b : ℕ) → (a ≡ b) ⊎ (a ≡ b → ⊥)
eq_or_ne a b = go (eqb a b) refl
  where
    go : (t : Bool) → eqb a b ≡ t → (a ≡ b) ⊎ (a ≡ b → ⊥)
    go true e = inl (eqb-true a b e)
    go false e = inr (eqb-false a b e)

-- A reading below a number, with the value at d replaced.
pub put_below : {A : Type 0} (n d : ℕ) (f g : ℕ → A) (x past : A) → d < n → g d ≡ x → ((e : ℕ) → e < n → (e ≡ d → ⊥) → g e ≡ f e) → below n g past ≡ put d x (below n f past)
put_below n d f g x past h here there = fun_ext (λ e. ⊎_elim
    (λ q. rw (eq-eqb e d q, q, lt-ltb d n h) here)
    (λ ne. rw (ne_eqb e d ne) (⊎_elim (λ l. rw (lt-ltb e n l) (there e l ne)) (λ k. rw (le-ltb e n k) refl) (lt_or_ge e n))) (eq_or_ne e d))

-- A device below the number is read from its record.
pub below_in : {A : Type 0} (n d : ℕ) (f : ℕ → A) (past : A) → d < n → below n f past d ≡ f d
below_in n d f past h = rw (lt-ltb d n h) refl

pub put_same : {A : Type 0} (d : ℕ) (x : A) (f : ℕ → A) → x ≡ f d → put d x f ≡ f
put_same d x f e = fun_ext (λ c. ⊎_elim (λ q. rw (eq-eqb c d q, q) e) (λ n. rw (ne_eqb c d n) refl) (eq_or_ne c d))

module _ (xs ys rs : List ℕ) (d : ℕ) (X : ValidTable xs) (h : d < get_or xs DEVICES 0) (R : Replaced xs ys d rs) where
  devices_same : get_or ys DEVICES 0 ≡ get_or xs DEVICES 0
  devices_same = R.out DEVICES (λ p q. omega arith)

  cells_same : get_or ys CELLS 0 ≡ get_or xs CELLS 0
  cells_same = R.out CELLS (λ p q. omega arith)

  sheet_is : PlacesAre cell_place Blank (get_or xs CELLS 0) ys SHEET (sheet_at (get_or xs CELLS 0) xs SHEET)
  sheet_is = let s = X.sizes in places_kept cell_place cell_local Blank (get_or xs CELLS 0) xs ys SHEET _ (λ i p q. R.out i (λ a b. omega arith)) record { is = refl; valid = X.server }

  abbrev device : List ℕ → Device sheet
  device = device_of (get_or xs DEVICES 0) (get_or xs CELLS 0)

  in_table : (e : ℕ) → e < get_or xs DEVICES 0 → RECORDS + RECORD * e + RECORD ≤ length xs
  in_table e l = let n = X.long in omega arith

  there : (e : ℕ) → e < get_or xs DEVICES 0 → (e ≡ d → ⊥) → record_at ys e ≡ record_at xs e
  there e l n = other_record xs ys d e rs R (in_table e l) n

  here_at : (e : ℕ) → e ≡ d → record_at ys e ≡ rs
  here_at e q = ap (record_at ys) q ∙ R.here

  pub replaced_says : reading ys ≡ record {
    devices = get_or xs DEVICES 0;
    cells = get_or xs CELLS 0;
    sheet = (reading xs).sheet;
    taken = put d (get_or rs TAKEN 0) (reading xs).taken;
    device = put d (device_of (get_or xs DEVICES 0) (get_or xs CELLS 0) rs) (reading xs).device;
  }
  replaced_says = unfold reading in (reading_is ys _ _ _ devices_same cells_same sheet_is (λ e. get_or (record_at ys e) TAKEN 0) (λ e. device (record_at ys e)) (λ e l. refl) (λ e l. refl) ∙ (λ i. record {
    devices = get_or xs DEVICES 0;
    cells = get_or xs CELLS 0;
    sheet = sheet_at (get_or xs CELLS 0) xs SHEET;
    taken = put_below (get_or xs DEVICES 0) d (λ e. get_or (record_at xs e) TAKEN 0) (λ e. get_or (record_at ys e) TAKEN 0) (get_or rs TAKEN 0) 0 h (ap (λ (l : List ℕ). get_or l TAKEN 0) R.here) (λ e l n. ap (λ (l : List ℕ). get_or l TAKEN 0) (there e l n)) i;
    device = put_below (get_or xs DEVICES 0) d (λ e. device (record_at xs e)) (λ e. device (record_at ys e)) (device rs) (fresh_device sheet (λ c. Blank) 0) h (ap device R.here) (λ e l n. ap device (there e l n)) i;
  }))

  pub replaced_valid : ValidRecord (get_or xs DEVICES 0) (get_or xs CELLS 0) rs → ValidTable ys
  replaced_valid ok =
      let l = R.same_length in
      let long = X.long in
      valid_from ys _ _ _ devices_same cells_same sheet_is X.sizes (omega arith) (λ e b. ⊎_elim (λ q. rw (here_at e q) ok) (λ ne. rw (there e b ne) (X.records e b)) (eq_or_ne e d))

  pub replaced_kept : ((k : ℕ) → (InUse (get_or xs DEVICES 0) (get_or xs CELLS 0) rs k → ⊥) → get_or rs k 0 ≡ get_or (record_at xs d) k 0) → (i : ℕ) → (InTable ys i → ⊥) → get_or ys i 0 ≡ get_or xs i 0
  replaced_kept K i n = ⊎_elim (λ l. R.out i (λ p q. omega arith)) (λ g. ⊎_elim (λ b. inside g b) (λ p. R.out i (λ u v. omega arith)) (lt_or_ge i (RECORDS + RECORD * d + RECORD))) (lt_or_ge i (RECORDS + RECORD * d))
    where
      inside : RECORDS + RECORD * d ≤ i → i < RECORDS + RECORD * d + RECORD → get_or ys i 0 ≡ get_or xs i 0
      inside g b =
          let k : ℕ = i - (RECORDS + RECORD * d) in
          let e : i ≡ RECORDS + RECORD * d + k = omega arith in
          let s : k < RECORD = omega arith in
          let free : InUse (get_or xs DEVICES 0) (get_or xs CELLS 0) rs k → ⊥ = λ u. n (InTable.in_record d k (rw devices_same h) (rw (devices_same, cells_same, R.here) u) e) in
          rw e (sym (record_word ys d k s) ∙ ap (λ (l : List ℕ). get_or l k 0) R.here ∙ K k free ∙ record_word xs d k s)
