-- What `start` and opening make of a slice. Assumes nothing.
use mathlib.Core.Path.{◌≡◌, refl, sym, ap, ◌∙◌, fun_ext}
use mathlib.Core.Logic.{⊎_elim}
use mathlib.Core.List.{List}
use Prim.Native.Nat.{ℕ, ◌+◌, ◌*◌, ◌≤◌, ◌<◌}
use native.Mathlib.Omega.{arith}
use lib.Dec.{ltb}
use lib.ListN.{length, get_or, set, length-set}
use borrow.Author.Tests.{lt-ltb, le-ltb}
use Rattle.cells.specs.declared.Cell.TheVariants.{Blank}
use Rattle.protocol.specs.Machine.{Start, Device, choose, fresh, fresh_device, done, refused}
use Rattle.protocol.specs.Fits.{Sizes}
use Rattle.sheet.specs.Sheet.{sheet, started}
use Rattle.protocol.specs.declared.Refusal.TheVariants.{NoTable, OutsideAllowed}
use Rattle.words.specs.Layout.{RECORD, DEVICES, CELLS, SHEET, RECORDS}
use Rattle.words.specs.Place.{cell_place, Filled}
use Rattle.words.proofs.Places.{set_kept, set_new, lt_or_ge, cell_local}
use Rattle.record.specs.Reading.{device_of}
use Rattle.record.specs.Valid.{InUse}
use Rattle.record.specs.Begun.{Begun}
use Rattle.record.proofs.Same.{below_all, places_filled}
use Rattle.queues.specs.Parts.{PlacesAre}
use Rattle.queues.proofs.Parts.{places_kept}
use Rattle.table.specs.Table.{need, record_at, reading, InTable, ValidTable}
use Rattle.table.specs.Promise.{Became, Begins, Started}
use Rattle.table.proofs.Part.{record_same, record_word}
use Rattle.table.proofs.Tables.{reading_is, valid_from}
use Rattle.table.proofs.Each.{in_some_record}

-- Records begun, the server's sheet stored, and then the header: the table at first that b gives.
module _ (b : Start sheet) (xs y1 y2 : List ℕ) (blank-past : (c : ℕ) → b.cells ≤ c → b.sheet c ≡ Blank) (none-past : (d : ℕ) → b.devices ≤ d → b.numbers d ≡ 0) (Z : Sizes b.devices b.cells) (long : need b.devices ≤ length xs) (l1 : length y1 ≡ length xs) (l2 : length y2 ≡ length xs) (B : Begins b.cells b.sheet b.numbers xs y1 b.devices) (F : Filled cell_place y1 y2 SHEET b.cells b.sheet) where
  y3 : List ℕ
  y3 = set y2 DEVICES b.devices

  end : List ℕ
  end = set y3 CELLS b.cells

  length_is : length end ≡ length xs
  unfolding end y3
  length_is = simp length-set l2

  from_y2 : (i : ℕ) → SHEET ≤ i → get_or end i 0 ≡ get_or y2 i 0
  unfolding end y3
  from_y2 i h = set_kept y3 CELLS b.cells i (λ q. omega arith) ∙ set_kept y2 DEVICES b.devices i (λ q. omega arith)

  devices_is : get_or end DEVICES 0 ≡ b.devices
  unfolding end y3
  devices_is = set_kept y3 CELLS b.cells DEVICES (λ q. omega arith) ∙ set_new y2 DEVICES b.devices (omega arith)

  cells_is : get_or end CELLS 0 ≡ b.cells
  unfolding end y3
  cells_is = set_new y3 CELLS b.cells (simp length-set (omega arith))

  sheet_is : PlacesAre cell_place Blank b.cells end SHEET b.sheet
  sheet_is = places_kept cell_place cell_local Blank b.cells y2 end SHEET b.sheet (λ i p q. from_y2 i p) record { is = places_filled cell_place Blank b.cells y1 y2 SHEET b.sheet F ∙ fun_ext (below_all b.cells b.sheet Blank blank-past); valid = F.valid }

  record_is : (d : ℕ) → d < b.devices → record_at end d ≡ record_at y1 d
  record_is d h = let z = Z.cells_to_64 in record_same y1 end d (omega arith) (length_is ∙ sym l1) (λ i b. from_y2 (RECORDS + RECORD * d + i) (omega arith) ∙ F.kept (RECORDS + RECORD * d + i) (λ p q. omega arith))

  begun_at : (d : ℕ) → d < b.devices → Begun b.cells b.sheet (b.numbers d) (record_at xs d) (record_at end d)
  begun_at d h = rw (record_is d h) (B.each d h)

  -- whether a device is there or not, it is the one at first
  first : ℕ → Device sheet
  first d = fresh_device sheet (choose (ltb d b.devices) b.sheet (λ c. Blank)) (b.numbers d)

  device_is : (d : ℕ) → d < b.devices → device_of b.devices b.cells (record_at end d) ≡ first d
  unfolding first
  device_is d h = rw (lt-ltb d b.devices h) ((begun_at d h).says b.devices)

  nobody : (d : ℕ) → b.devices ≤ d → first d ≡ fresh_device sheet (λ c. Blank) 0
  unfolding first
  nobody d g = rw (le-ltb d b.devices g) (ap (fresh_device sheet (λ c. Blank)) (none-past d g))

  says_is : reading end ≡ fresh sheet b
  unfolding first
  says_is =
      reading_is end _ _ _ devices_is cells_is sheet_is b.numbers first (λ d h. (begun_at d h).taken) device_is
      ∙ (λ i. record { devices = b.devices; cells = b.cells; sheet = b.sheet; taken = fun_ext (below_all b.devices b.numbers 0 none-past) i; device = fun_ext (below_all b.devices first _ nobody) i })

  valid_is : ValidTable end
  valid_is = valid_from end _ _ _ devices_is cells_is sheet_is Z (rw length_is long) (λ d h. (begun_at d h).valid b.devices)

  kept_is : (i : ℕ) → (InTable end i → ⊥) → get_or end i 0 ≡ get_or xs i 0
  kept_is i n = ⊎_elim (λ l. absurd (n (InTable.header l))) (λ g. from_y2 i g ∙ F.kept i (λ p q. n (InTable.sheet_cell p (rw cells_is q))) ∙ in_some_record b.devices i inside (B.kept i)) (lt_or_ge i SHEET)
    where
      inside : (d k : ℕ) → d < b.devices → k < RECORD → i ≡ RECORDS + RECORD * d + k → get_or y1 i 0 ≡ get_or xs i 0
      inside d k there s e =
          let free : InUse b.devices b.cells (record_at end d) k → ⊥ = λ u. n (InTable.in_record d k (rw devices_is there) (rw (devices_is, cells_is) u) e) in
          rw e (sym (record_word y1 d k s) ∙ ap (λ (r : List ℕ). get_or r k 0) (sym (record_is d there)) ∙ (begun_at d there).kept b.devices k free ∙ record_word xs d k s)

  pub started_is : Became xs (set (set y2 DEVICES b.devices) CELLS b.cells) (fresh sheet b)
  started_is = unfold end y3 in did
    where
      did : Became xs end (fresh sheet b)
      did = record { says = says_is; valid = valid_is; kept = kept_is; size = length_is }

-- The three ways in which `start` ends.
pub start_outside : (devices cells : ℕ) (xs : List ℕ) → (Sizes devices cells → ⊥) → Started devices cells xs (refused OutsideAllowed) xs
start_outside devices cells xs n = record { outside = λ m. record { number = refl; untouched = refl }; short = λ z. absurd (n z); begun = λ z. absurd (n z) }

pub start_short : (devices cells : ℕ) (xs : List ℕ) → Sizes devices cells → length xs < need devices → Started devices cells xs (refused NoTable) xs
start_short devices cells xs z h = record { outside = λ n. absurd (n z); short = λ y l. record { number = refl; untouched = refl }; begun = λ y l. absurd (omega arith) }

pub start_done : (devices cells : ℕ) (xs ys : List ℕ) → Sizes devices cells → need devices ≤ length xs → Became xs ys (fresh sheet (started devices cells)) → Started devices cells xs done ys
start_done devices cells xs ys z h B = record { outside = λ n. absurd (n z); short = λ y l. absurd (omega arith); begun = λ y l. (refl, B) }
