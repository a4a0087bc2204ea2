-- A table all of whose records the server turned. Assumes nothing.
use mathlib.Core.Path.{◌≡◌, refl, sym, ◌∙◌}
use mathlib.Core.List.{List}
use Prim.Native.Nat.{ℕ, ◌+◌, ◌*◌, ◌<◌}
use native.Mathlib.Omega.{arith}
use lib.ListN.{length, get_or}
use Rattle.cells.specs.declared.Cell.{Cell}
use Rattle.cells.specs.declared.Cell.TheVariants.{Blank}
use Rattle.protocol.specs.Machine.{Table, Device, fresh_device}
use Rattle.sheet.specs.Sheet.{sheet}
use Rattle.words.specs.Layout.{CELL, SHEET, DEVICES, CELLS, RECORD, RECORDS}
use Rattle.words.specs.Place.{cell_place, Kept}
use Rattle.words.proofs.Places.{cell_local}
use Rattle.record.specs.Reading.{below}
use Rattle.record.specs.Valid.{InUse}
use Rattle.queues.specs.Parts.{PlacesAre}
use Rattle.queues.proofs.Parts.{places_kept}
use Rattle.table.specs.Table.{record_at, reading, InTable, ValidTable}
use Rattle.table.specs.Promise.{Became, Each}
use Rattle.table.proofs.Each.{in_some_record, each_ahead}
use Rattle.table.proofs.Part.{record_word}
use Rattle.table.proofs.Tables.{reading_is, valid_from}
use Rattle.link.specs.Turn.{Turned, Sound}
use Rattle.server.specs.Turn.{AllSound}

-- The table xs, whose server's sheet is s in mid, and all of whose records the server then turned.
module _ (xs mid ys : List ℕ) (X : ValidTable xs) (l : length ys ≡ length xs) (s : ℕ → Cell) (S : PlacesAre cell_place Blank (get_or xs CELLS 0) mid SHEET s) (K : Kept xs mid SHEET (CELL * get_or xs CELLS 0)) (g : ℕ → Device sheet) (h : ℕ → ℕ) (E : Each (λ d. Turned (get_or xs DEVICES 0) (get_or xs CELLS 0) (g d) (h d)) mid ys (get_or xs DEVICES 0)) where
  header : (i : ℕ) → i < RECORDS → get_or ys i 0 ≡ get_or mid i 0
  header i b = E.kept i (λ p q. omega arith)

  devices_same : get_or ys DEVICES 0 ≡ get_or xs DEVICES 0
  devices_same = header DEVICES (omega arith) ∙ K DEVICES (λ p q. omega arith)

  cells_same : get_or ys CELLS 0 ≡ get_or xs CELLS 0
  cells_same = header CELLS (omega arith) ∙ K CELLS (λ p q. omega arith)

  sheet_is : PlacesAre cell_place Blank (get_or xs CELLS 0) ys SHEET s
  sheet_is = let z = X.sizes in places_kept cell_place cell_local Blank (get_or xs CELLS 0) mid ys SHEET s (λ i p q. header i (omega arith)) S

  says_is : reading ys ≡ record {
    devices = get_or xs DEVICES 0;
    cells = get_or xs CELLS 0;
    sheet = s;
    taken = below (get_or xs DEVICES 0) h 0;
    device = below (get_or xs DEVICES 0) g (fresh_device sheet (λ c. Blank) 0);
  }
  says_is = reading_is ys _ _ _ devices_same cells_same sheet_is h g (λ d b. (E.each d b).taken) (λ d b. (E.each d b).says)

  valid_is : ValidTable ys
  valid_is = let long = X.long in valid_from ys _ _ _ devices_same cells_same sheet_is X.sizes (omega arith) (λ d b. (E.each d b).valid)

  kept_is : (i : ℕ) → (InTable ys i → ⊥) → get_or ys i 0 ≡ get_or xs i 0
  kept_is i n = in_some_record (get_or xs DEVICES 0) i inside (λ out. E.kept i out ∙ K i (λ p q. n (InTable.sheet_cell p (omega (arith, cells_same)))))
    where
      inside : (d k : ℕ) → d < get_or xs DEVICES 0 → k < RECORD → i ≡ RECORDS + RECORD * d + k → get_or ys i 0 ≡ get_or xs i 0
      inside d k b r e =
          let z = X.sizes in
          let free : InUse (get_or xs DEVICES 0) (get_or xs CELLS 0) (record_at ys d) k → ⊥ = λ u. n (InTable.in_record d k (rw devices_same b) (rw (devices_same, cells_same) u) e) in
          rw e (sym (record_word ys d k r) ∙ (E.each d b).kept k free ∙ record_word mid d k r ∙ K (RECORDS + RECORD * d + k) (λ u v. omega arith))

  pub all_turned : (t : Table sheet) → record { devices = get_or xs DEVICES 0; cells = get_or xs CELLS 0; sheet = s; taken = below (get_or xs DEVICES 0) h 0; device = below (get_or xs DEVICES 0) g (fresh_device sheet (λ c. Blank) 0) } ≡ t → Became xs ys t
  all_turned t e = record { says = says_is ∙ e; valid = valid_is; kept = kept_is; size = l }

-- A record that no turn has reached yet is as it was.
pub ahead_sound : (Q : ℕ → List ℕ → List ℕ → Type 0) (xs ys : List ℕ) (devices cells d : ℕ) → AllSound xs devices cells → length ys ≡ length xs → d < devices → Each Q xs ys d → Sound devices cells (record_at ys d)
ahead_sound Q xs ys devices cells d A l h E = let n = A.long in rw (each_ahead Q xs ys d d l (omega arith) (omega arith) E) (A.records d h)

-- The server's sheet as the words say it.
pub server_sheet : (xs : List ℕ) → ValidTable xs → PlacesAre cell_place Blank (get_or xs CELLS 0) xs SHEET (reading xs).sheet
server_sheet xs X = record { is = unfold reading in refl; valid = X.server }
