-- What `make_prefix` makes of an item's words. Assumes nothing.
use mathlib.Core.Path.{◌≡◌, sym, ap, ◌∙◌, subst}
use mathlib.Core.List.{List}
use Prim.Native.Nat.{ℕ, ◌+◌, ◌*◌, ◌-◌, ◌≤◌, ◌<◌}
use native.Mathlib.Omega.{arith}
use lib.ListN.{length, get_or, set, length-set}
use Rattle.cells.specs.declared.Cell.TheVariants.{Blank}
use Rattle.protocol.specs.Machine.{Item}
use Rattle.words.specs.Layout.{MOST_PUSHES, CELL, ITEM, ITEM_KIND, ITEM_NUMBERS, ITEM_PLACES, PREFIX, TAKEN, SHEET, RECORD, RECORDS, DEVICES, CELLS}
use Rattle.words.specs.Place.{cell_place, cell_at, Across, Filled, Numbers, Valid}
use Rattle.words.proofs.Places.{Same, set_kept, set_new, cell_local}
use Rattle.record.specs.Reading.{below, places_at, sheet_at, numbers_at, item_of, item_at}
use Rattle.record.proofs.Same.{below_same, places_same, places_valid, places_filled}
use Rattle.record.proofs.Conditions.{is_singles}
use Rattle.table.specs.Table.{record_at, reading}
use Rattle.table.proofs.Tables.{record_of}
use Rattle.table.proofs.Part.{record_word}
use Rattle.table.specs.Known.{TableReady}
use Rattle.server.specs.Prefix.{PrefixIs}
use Rattle.server.proofs.GatherAll.{there, few_devices, few_cells}

-- The number taken of a device that is there, in its record and in the table, is in range.
module _ (xs : List ℕ) (devices cells : ℕ) (T : TableReady xs devices cells) (d : ℕ) (h : d < devices) where
  pub taken_word : get_or xs (RECORDS + RECORD * d + TAKEN) 0 ≡ get_or (record_at xs d) TAKEN 0
  taken_word = sym (record_word xs d TAKEN (omega arith))

  pub taken_in_range : get_or (record_at xs d) TAKEN 0 ≤ MOST_PUSHES
  taken_in_range =
      let R = record_of xs T.table d (there xs devices cells T d h) in
      let s = is_singles (get_or xs DEVICES 0) (get_or xs CELLS 0) (record_at xs d) R.valid.size R in
      omega arith

-- The server's sheet can be copied.
pub sheet_ready : (xs ss : List ℕ) (devices cells : ℕ) → TableReady xs devices cells → length ss ≡ ITEM → Across cell_place cell_place ss xs ITEM_PLACES SHEET cells
sheet_ready xs ss devices cells T l =
    let n = few_cells xs devices cells T in
    let long = T.table.valid.long in
    record { to_fits = omega arith; from_fits = omega arith; from_valid = subst (λ (c : ℕ). Valid cell_place xs SHEET c) (sym T.cells_are) T.table.valid.server }

module _ (xs : List ℕ) (devices cells : ℕ) (T : TableReady xs devices cells) (ss y1 y2 : List ℕ) (N : Numbers ss y1 ITEM_NUMBERS devices (λ d. get_or (record_at xs d) TAKEN 0 + 1)) (F : Filled cell_place y1 y2 ITEM_PLACES cells (λ k. cell_at xs (SHEET + CELL * k))) (l : length y2 ≡ ITEM) where
  end : List ℕ
  end = set y2 ITEM_KIND PREFIX

  behind : (i : ℕ) → ITEM_NUMBERS ≤ i → get_or end i 0 ≡ get_or y2 i 0
  unfolding end
  behind i h = set_kept y2 ITEM_KIND PREFIX i (λ q. omega arith)

  number_is : (d : ℕ) → d < devices → get_or end (ITEM_NUMBERS + d) 0 ≡ get_or (record_at xs d) TAKEN 0 + 1
  number_is d h = let f = few_devices xs devices cells T in behind (ITEM_NUMBERS + d) (omega arith) ∙ F.kept (ITEM_NUMBERS + d) (λ p q. omega arith) ∙ N.is d h

  kind_is : get_or end ITEM_KIND 0 ≡ PREFIX
  unfolding end
  kind_is = set_new y2 ITEM_KIND PREFIX (omega arith)

  places_are : Same y2 end ITEM_PLACES (CELL * cells)
  places_are i p q = behind i (omega arith)

  numbers_are : numbers_at devices end ITEM_NUMBERS ≡ (reading xs).taken
  unfolding numbers_at reading
  numbers_are = ap (λ (n : ℕ). below n (λ d. get_or end (ITEM_NUMBERS + d) 0 - 1) 0) T.devices_are ∙ below_same (get_or xs DEVICES 0) _ _ 0 (λ d h. let e = T.devices_are in let q = number_is d (omega arith) in omega arith)

  sheet_is : sheet_at cells end ITEM_PLACES ≡ (reading xs).sheet
  unfolding reading places_at
  sheet_is = places_same cell_place cell_local cells y2 end ITEM_PLACES places_are Blank ∙ places_filled cell_place Blank cells y1 y2 ITEM_PLACES _ F ∙ ap (λ (c : ℕ). sheet_at c xs SHEET) T.cells_are

  pub prefix_is : PrefixIs xs devices cells (set y2 ITEM_KIND PREFIX)
  prefix_is = unfold end in did
    where
      item_is : item_at devices cells end ITEM_KIND ≡ Item.prefix (reading xs).sheet (reading xs).taken
      item_is = unfold item_at in (ap (λ (k : ℕ). item_of devices cells k end ITEM_KIND) kind_is ∙ (λ i. Item.prefix (sheet_is i) (numbers_are i)))

      did : PrefixIs xs devices cells end
      did = record {
        item = unfold end in (simp length-set l);
        is = item_is;
        valid = record {
          kind_from_1 = omega (arith, kind_is);
          kind_to_2 = omega (arith, kind_is);
          prefix_numbers = λ e d h. omega (arith, number_is d h);
          prefix_places = λ e. places_valid cell_place cell_local cells y2 end ITEM_PLACES places_are F.valid;
          segment_places = λ e. absurd (omega (arith, kind_is));
        };
      }
