-- A batch and a cut on the table. Assumes nothing.
use mathlib.Core.Path.{◌≡◌, refl, sym, ap, ◌∙◌, subst, fun_ext}
use mathlib.Core.Bool.{Bool, true, false}
use mathlib.Core.Logic.{⊎_elim}
use mathlib.Core.List.{List, []}
use mathlib.Core.Option.{none}
use Prim.Native.Nat.{ℕ, zero, suc, ◌+◌, ◌*◌, ◌≤◌, ◌<◌}
use native.Mathlib.Omega.{arith}
use lib.Dec.{ltb}
use lib.ListN.{length, get_or, take}
use borrow.Author.Tests.{lt-ltb, le-ltb}
use Rattle.cells.specs.Cells.{applied}
use Rattle.cells.specs.declared.Cell.{Cell}
use Rattle.cells.specs.declared.Cell.TheVariants.{Blank}
use Rattle.cells.specs.declared.Change.TheVariants.{Nothing}
use Rattle.protocol.specs.Machine.{Table, Device, Item, given, fresh_device, last_number, rounds_at, all_rounds, apply_rounds, join_rounds, moved_by, the_segment, batched, after_crash}
use Rattle.protocol.proofs.Basics.{apply_join_rounds}
use Rattle.sheet.proofs.Laws.{sheet_laws}
use Rattle.sheet.specs.Sheet.{sheet}
use Rattle.words.specs.Layout.{CELL, CHANGE, ITEM_KIND, ITEM_NUMBERS, ITEM_PLACES, TAKEN, SHEET, DEVICES, CELLS, RECORD, RECORDS}
use Rattle.words.specs.Place.{cell_place, change_place, cell_at, change_at, Across, Filled, Kept, Valid}
use Rattle.words.proofs.Places.{lt_or_ge}
use Rattle.record.specs.Reading.{below, changes_at, sheet_at, given_by, given_at, item_of, item_at, device_of}
use Rattle.record.proofs.Loops.{applied_across}
use Rattle.record.proofs.Same.{below_all}
use Rattle.queues.specs.Parts.{PlacesAre}
use Rattle.table.specs.Table.{record_at, reading}
use Rattle.table.specs.Promise.{Became, Each}
use Rattle.table.proofs.Part.{record_same}
use Rattle.table.proofs.Tables.{device_at, taken_at, record_of}
use Rattle.server.specs.Batch.{table_batched, Took}
use Rattle.delivery.specs.Deliver.{ItemReady}
use Rattle.table.specs.Known.{TableReady}
use Rattle.server.specs.Gather.{Gathered}
use Rattle.link.specs.Settle.{settled, Settled}
use Rattle.link.specs.Turn.{Turned, Sound}
use Rattle.server.specs.Turn.{AllSound}
use Rattle.server.proofs.GatherAll.{few_devices, few_cells}
use Rattle.server.proofs.Turns.{all_turned}

-- Every device settled is the table after a batch or a cut.
all_settled : (t : Table sheet) (counts : List ℕ) (reach : ℕ) (crash : Bool) → record {
  devices = t.devices;
  cells = t.cells;
  sheet = apply_rounds sheet (all_rounds sheet t counts t.devices) t.sheet;
  taken = λ d. given (last_number sheet (rounds_at sheet t counts d)) (t.taken d);
  device = λ d. settled (get_or counts d 0) (ltb d reach) crash (the_segment sheet t counts) (t.device d);
} ≡ table_batched t counts reach crash
unfolding batched after_crash
all_settled t counts reach true = refl
all_settled t counts reach false = refl

-- Nobody past the devices has rounds to give, or a connection.
nobody_settled : (count : ℕ) (reaches crash : Bool) (i : Item sheet) → settled count reaches crash i (fresh_device sheet (λ c. Blank) 0) ≡ fresh_device sheet (λ c. Blank) 0
nobody_settled count reaches true i = refl
nobody_settled count reaches false i = refl

past_none : (xs counts : List ℕ) (d : ℕ) → get_or xs DEVICES 0 ≤ d → last_number sheet (rounds_at sheet (reading xs) counts d) ≡ none
unfolding reading
past_none xs counts d h = rw (le-ltb d (get_or xs DEVICES 0) h) (nothing 0)
  where
    nothing : (n : ℕ) → last_number sheet (take n []) ≡ none
    nothing zero = refl
    nothing (suc n) = refl

module _ (xs counts : List ℕ) (devices cells : ℕ) (T : TableReady xs devices cells) (k : ℕ) (ss : List ℕ) (G : Gathered xs counts devices cells k ss) where
  pub segment_item : ItemReady devices cells ss
  segment_item = record {
    few_devices = few_devices xs devices cells T;
    few_cells = few_cells xs devices cells T;
    item = G.item;
    valid = record {
      kind_from_1 = omega (arith, G.kind);
      kind_to_2 = omega (arith, G.kind);
      prefix_numbers = λ e. absurd (omega (arith, G.kind));
      prefix_places = λ e. absurd (omega (arith, G.kind));
      segment_places = λ e. G.valid;
    };
  }

  numbers_are : given_at devices ss ITEM_NUMBERS ≡ (λ d. last_number sheet (rounds_at sheet (reading xs) counts d))
  unfolding given_at
  numbers_are = fun_ext (λ d. ⊎_elim (λ h. rw (lt-ltb d devices h) (G.numbers d h)) (λ g. rw (le-ltb d devices g) (sym (past_none xs counts d (let e = T.devices_are in omega arith)))) (lt_or_ge d devices))

  devices_read : (reading xs).devices ≡ devices
  devices_read = unfold reading in (sym T.devices_are)

  changes_are : changes_at cells ss ITEM_PLACES ≡ join_rounds sheet (λ c. Nothing) (all_rounds sheet (reading xs) counts (reading xs).devices)
  changes_are = G.changes ∙ ap (λ (n : ℕ). join_rounds sheet (λ c. Nothing) (all_rounds sheet (reading xs) counts n)) (sym devices_read)

  pub segment_is : item_at devices cells ss ITEM_KIND ≡ the_segment sheet (reading xs) counts
  segment_is = unfold item_at in (ap (λ (n : ℕ). item_of devices cells n ss ITEM_KIND) G.kind ∙ (λ i. Item.segment (changes_are i) (numbers_are i)))

  moved_is : k ≡ moved_by sheet (reading xs) counts
  moved_is = G.many ∙ ap (λ (n : ℕ). length (all_rounds sheet (reading xs) counts n)) (sym devices_read)

  server_valid : Valid cell_place xs SHEET cells
  server_valid = subst (λ (c : ℕ). Valid cell_place xs SHEET c) (sym T.cells_are) T.table.valid.server

  pub can_apply : Across cell_place change_place xs ss SHEET ITEM_PLACES cells × Valid cell_place xs SHEET cells
  can_apply =
      let f = few_cells xs devices cells T in
      let long = T.table.valid.long in
      let l = G.item in
      (record { to_fits = omega arith; from_fits = omega arith; from_valid = G.valid }, server_valid)

  -- mid has the segment applied to the server's sheet
  module _ (mid : List ℕ) (len : length mid ≡ length xs) (F : Filled cell_place xs mid SHEET cells (λ n. applied (cell_at xs (SHEET + CELL * n)) (change_at ss (ITEM_PLACES + CHANGE * n)))) where
    kept : Kept xs mid SHEET (CELL * get_or xs CELLS 0)
    kept = subst (λ (c : ℕ). Kept xs mid SHEET (CELL * c)) T.cells_are F.kept

    same_records : (d : ℕ) → d < devices → record_at mid d ≡ record_at xs d
    same_records d h =
        let f = few_cells xs devices cells T in
        let long = T.table.valid.long in
        let e = T.devices_are in
        record_same xs mid d (omega arith) len (λ i b. F.kept (RECORDS + RECORD * d + i) (λ p q. omega arith))

    pub all_sound : AllSound mid devices cells
    all_sound =
        let long = T.table.valid.long in
        let e = T.devices_are in
        record {
          long = omega arith;
          records = λ d h. rw (same_records d h) (sound d h);
        }
      where
        sound : (d : ℕ) → d < devices → Sound devices cells (record_at xs d)
        sound d h =
            let R = record_of xs T.table d (let e = T.devices_are in omega arith) in
            record { few_devices = few_devices xs devices cells T; few_cells = few_cells xs devices cells T; valid = rw (T.devices_are, T.cells_are) R.valid }

    after : ℕ → Cell
    after = apply_rounds sheet (all_rounds sheet (reading xs) counts (reading xs).devices) (reading xs).sheet

    sheet_after : PlacesAre cell_place Blank (get_or xs CELLS 0) mid SHEET after
    sheet_after = subst (λ (c : ℕ). PlacesAre cell_place Blank c mid SHEET after) T.cells_are record { is = is; valid = F.valid }
      where
        old : sheet_at cells xs SHEET ≡ (reading xs).sheet
        old = unfold reading in (ap (λ (c : ℕ). sheet_at c xs SHEET) T.cells_are)

        is : sheet_at cells mid SHEET ≡ after
        is = unfold after in (applied_across cells xs mid ss SHEET ITEM_PLACES F ∙ (λ i c. applied (old i c) (changes_are i c)) ∙ apply_join_rounds sheet sheet_laws (λ c. Nothing) (all_rounds sheet (reading xs) counts (reading xs).devices) (reading xs).sheet)

    -- ys has every record settled
    module _ (reach : ℕ) (crash : Bool) (ys : List ℕ) (l : length ys ≡ length mid) (E : Each (λ d. Settled devices cells d (get_or counts d 0) (ltb d reach) crash ss) mid ys devices) where
      new_device : ℕ → Device sheet
      new_device d = settled (get_or counts d 0) (ltb d reach) crash (the_segment sheet (reading xs) counts) ((reading xs).device d)

      new_taken : ℕ → ℕ
      new_taken d = given (last_number sheet (rounds_at sheet (reading xs) counts d)) ((reading xs).taken d)

      turned : (d : ℕ) → d < devices → Turned devices cells (new_device d) (new_taken d) (record_at mid d) (record_at ys d)
      unfolding new_device new_taken
      turned d h = subst (λ (x : Device sheet). Turned devices cells x (given (last_number sheet (rounds_at sheet (reading xs) counts d)) ((reading xs).taken d)) (record_at mid d) (record_at ys d)) device_is (subst (λ (n : ℕ). Turned devices cells (settled (get_or counts d 0) (ltb d reach) crash (item_at devices cells ss ITEM_KIND) (device_of devices cells (record_at mid d))) n (record_at mid d) (record_at ys d)) taken_is (E.each d h))
        where
          there : d < get_or xs DEVICES 0
          there = let e = T.devices_are in omega arith

          here : device_of devices cells (record_at mid d) ≡ (reading xs).device d
          here = ap (device_of devices cells) (same_records d h) ∙ (λ i. device_of (T.devices_are i) (T.cells_are i) (record_at xs d)) ∙ sym (device_at xs d there)

          device_is : settled (get_or counts d 0) (ltb d reach) crash (item_at devices cells ss ITEM_KIND) (device_of devices cells (record_at mid d)) ≡ settled (get_or counts d 0) (ltb d reach) crash (the_segment sheet (reading xs) counts) ((reading xs).device d)
          device_is = (λ i. settled (get_or counts d 0) (ltb d reach) crash (segment_is i) (here i))

          taken_is : given (given_by (get_or ss (ITEM_NUMBERS + d) 0)) (get_or (record_at mid d) TAKEN 0) ≡ given (last_number sheet (rounds_at sheet (reading xs) counts d)) ((reading xs).taken d)
          taken_is = (λ i. given (G.numbers d h i) (old i))
            where
              old : get_or (record_at mid d) TAKEN 0 ≡ (reading xs).taken d
              old = ap (λ (r : List ℕ). get_or r TAKEN 0) (same_records d h) ∙ sym (taken_at xs d there)

      takens_are : below (get_or xs DEVICES 0) new_taken 0 ≡ new_taken
      takens_are = fun_ext (below_all (get_or xs DEVICES 0) new_taken 0 past)
        where
          nobody : (d : ℕ) → get_or xs DEVICES 0 ≤ d → (reading xs).taken d ≡ 0
          nobody d g = unfold reading in (rw (le-ltb d (get_or xs DEVICES 0) g) refl)

          past : (d : ℕ) → get_or xs DEVICES 0 ≤ d → new_taken d ≡ 0
          past d g = unfold new_taken in (λ i. given (past_none xs counts d g i) (nobody d g i))

      devices_are : below (get_or xs DEVICES 0) new_device (fresh_device sheet (λ c. Blank) 0) ≡ new_device
      devices_are = fun_ext (below_all (get_or xs DEVICES 0) new_device (fresh_device sheet (λ c. Blank) 0) past)
        where
          nobody : (d : ℕ) → get_or xs DEVICES 0 ≤ d → (reading xs).device d ≡ fresh_device sheet (λ c. Blank) 0
          nobody d g = unfold reading in (rw (le-ltb d (get_or xs DEVICES 0) g) refl)

          past : (d : ℕ) → get_or xs DEVICES 0 ≤ d → new_device d ≡ fresh_device sheet (λ c. Blank) 0
          past d g = unfold new_device in (ap (settled (get_or counts d 0) (ltb d reach) crash (the_segment sheet (reading xs) counts)) (nobody d g) ∙ nobody_settled (get_or counts d 0) (ltb d reach) crash (the_segment sheet (reading xs) counts))

      table_is : record {
        devices = get_or xs DEVICES 0;
        cells = get_or xs CELLS 0;
        sheet = after;
        taken = below (get_or xs DEVICES 0) new_taken 0;
        device = below (get_or xs DEVICES 0) new_device (fresh_device sheet (λ c. Blank) 0);
      } ≡ table_batched (reading xs) counts reach crash
      table_is = (λ i. record { devices = get_or xs DEVICES 0; cells = get_or xs CELLS 0; sheet = after; taken = takens_are i; device = devices_are i }) ∙ whole
        where
          whole : record { devices = get_or xs DEVICES 0; cells = get_or xs CELLS 0; sheet = after; taken = new_taken; device = new_device } ≡ table_batched (reading xs) counts reach crash
          whole = unfold reading after new_taken new_device in (all_settled (reading xs) counts reach crash)

      each_turned : Each (λ d. Turned (get_or xs DEVICES 0) (get_or xs CELLS 0) (new_device d) (new_taken d)) mid ys (get_or xs DEVICES 0)
      each_turned = record {
        each = λ d h. let e = T.devices_are in subst (λ (c : ℕ). Turned (get_or xs DEVICES 0) c (new_device d) (new_taken d) (record_at mid d) (record_at ys d)) T.cells_are (subst (λ (n : ℕ). Turned n cells (new_device d) (new_taken d) (record_at mid d) (record_at ys d)) T.devices_are (turned d (omega arith)));
        kept = subst (λ (n : ℕ). Kept mid ys RECORDS (RECORD * n)) T.devices_are E.kept;
      }

      pub batch_became : Became xs ys (table_batched (reading xs) counts reach crash)
      batch_became = all_turned xs mid ys T.table.valid (l ∙ len) after sheet_after kept new_device new_taken each_turned _ table_is

      pub took_some : (k ≡ 0 → ⊥) → Took counts reach crash xs k ys
      took_some n = record { many = moved_is; none = λ e. absurd (n e); one = λ m. batch_became }

  pub took_none : (reach : ℕ) (crash : Bool) → k ≡ 0 → Took counts reach crash xs 0 xs
  took_none reach crash e = record { many = sym e ∙ moved_is; none = λ z. refl; one = λ n. absurd (n refl) }
