-- Laws of an item that is stored: copied, or a segment joined to one. Assumes nothing.
use mathlib.Core.Path.{◌≡◌, refl, ap, ◌∙◌, fun_ext}
use mathlib.Core.Logic.{⊎_elim}
use mathlib.Core.List.{List}
use mathlib.Core.Option.{Option, none}
use Prim.Native.Nat.{ℕ, zero, suc, ◌+◌, ◌*◌, ◌-◌, ◌≤◌, ◌<◌}
use native.Mathlib.Omega.{arith}
use lib.ListN.{length, get_or, set}
use borrow.Author.Tests.{lt-ltb, le-ltb}
use Rattle.cells.specs.Cells.{applied, joined}
use Rattle.cells.specs.declared.Cell.{Cell}
use Rattle.cells.specs.declared.Cell.TheVariants.{Blank}
use Rattle.cells.specs.declared.Change.{Change}
use Rattle.cells.specs.declared.Change.TheVariants.{Nothing}
use Rattle.protocol.specs.Machine.{prefix, segment, given, later, join_item}
use Rattle.sheet.specs.Sheet.{sheet}
use Rattle.words.specs.Layout.{CELL, CHANGE, ITEM, ITEM_NUMBERS, ITEM_PLACES, PREFIX, SEGMENT}
use Rattle.words.specs.Place.{Place, cell_place, change_place, cell_at, change_at, Beside, Filled, Numbers, Out, Apart, Valid, later_number}
use Rattle.words.proofs.Places.{Local, Same, lt_or_ge, set_kept, set_new, cell_local, change_local}
use Rattle.record.specs.Reading.{sheet_at, changes_at, places_at, numbers_at, given_by, given_at, item_at}
use Rattle.record.specs.Valid.{InItem}
use Rattle.record.proofs.Loops.{copied, applied_changes, joined_changes}
use Rattle.record.proofs.Same.{below_same, places_same, places_valid}
use Rattle.queues.specs.Items.{Joinable}
use Rattle.queues.specs.Parts.{item_entry, PutEntry, EntryBeside}
use Rattle.queues.proofs.Items.{prefix_is, is_segment, no_prefix}

-- An item is stored by its kind, its numbers and its places.
module _ (devices cells : ℕ) (xs ys : List ℕ) (o : ℕ) where
  pub prefix_made : (s : ℕ → Cell) (ns : ℕ → ℕ) → get_or ys o 0 ≡ PREFIX → ((k : ℕ) → k < devices → 1 ≤ get_or ys (o + ITEM_NUMBERS + k) 0) → numbers_at devices ys (o + ITEM_NUMBERS) ≡ ns → Valid cell_place ys (o + ITEM_PLACES) cells → sheet_at cells ys (o + ITEM_PLACES) ≡ s → ((i : ℕ) → (i ≡ o → ⊥) → Out (o + ITEM_NUMBERS) devices i → Out (o + ITEM_PLACES) (CELL * cells) i → get_or ys i 0 ≡ get_or xs i 0) → PutEntry (item_entry devices cells) xs ys o (prefix s ns)
  prefix_made s ns k w n v p keep = record {
    is = prefix_is devices cells ys o k ∙ (λ i. prefix (p i) (n i));
    valid = record { kind_from_1 = omega (arith, k); kind_to_2 = omega (arith, k); prefix_numbers = λ e. w; prefix_places = λ e. v; segment_places = λ e. absurd (omega (arith, k, e)) };
    kept = λ i out. keep i (λ e. out (rw e InItem.kind)) (λ a b. out (InItem.number a b)) (λ a b. out (InItem.cell k a b));
  }

  pub segment_made : (b : ℕ → Change) (ms : ℕ → Option ℕ) → get_or ys o 0 ≡ SEGMENT → given_at devices ys (o + ITEM_NUMBERS) ≡ ms → Valid change_place ys (o + ITEM_PLACES) cells → changes_at cells ys (o + ITEM_PLACES) ≡ b → ((i : ℕ) → (i ≡ o → ⊥) → Out (o + ITEM_NUMBERS) devices i → Out (o + ITEM_PLACES) (CHANGE * cells) i → get_or ys i 0 ≡ get_or xs i 0) → PutEntry (item_entry devices cells) xs ys o (segment b ms)
  segment_made b ms k n v p keep = record {
    is = is_segment devices cells ys o k ∙ (λ i. segment (p i) (n i));
    valid = record { kind_from_1 = omega (arith, k); kind_to_2 = omega (arith, k); prefix_numbers = λ e. absurd (omega (arith, k, e)); prefix_places = λ e. absurd (omega (arith, k, e)); segment_places = λ e. v };
    kept = λ i out. keep i (λ e. out (rw e InItem.kind)) (λ a b. out (InItem.number a b)) (λ a b. out (InItem.change k a b));
  }

-- Between two items that are apart: the places of one, and those of the other.
items_beside : (P Q : Place) (L : Local Q) (devices cells : ℕ) (xs ys : List ℕ) (to from : ℕ) → ITEM_PLACES + P.width * cells ≤ ITEM → ITEM_PLACES + Q.width * cells ≤ ITEM → EntryBeside (item_entry devices cells) xs to from → length ys ≡ length xs → Same xs ys from ITEM → Valid Q xs (from + ITEM_PLACES) cells → Beside P Q ys (to + ITEM_PLACES) (from + ITEM_PLACES) cells
items_beside P Q L devices cells xs ys to from a b B len S ok =
    let t = B.to_fits in
    let f = B.from_fits in
    record {
      to_fits = omega arith;
      from_fits = omega arith;
      from_valid = places_valid Q L cells xs ys (from + ITEM_PLACES) (λ i p q. S i (omega arith) (omega arith)) ok;
      apart = λ i p q u v. B.apart i (omega arith) (omega arith) (omega arith) (omega arith);
    }

-- An item is copied: y1 has its kind and its numbers.
module _ (devices cells : ℕ) (xs : List ℕ) (to from : ℕ) (few_devices : devices ≤ 8) (few : cells ≤ 64) (B : EntryBeside (item_entry devices cells) xs to from) where
  pub numbers_beside : (from + ITEM_NUMBERS + devices ≤ length xs) × (to + ITEM_NUMBERS + devices ≤ length xs) × Apart (to + ITEM_NUMBERS) devices (from + ITEM_NUMBERS) devices
  numbers_beside = (omega (arith, B.from_fits), omega (arith, B.to_fits), (λ i p q u v. B.apart i (omega arith) (omega arith) (omega arith) (omega arith)))

  module _ (y1 : List ℕ) (len : length y1 ≡ length xs) (N : Numbers (set xs to (get_or xs from 0)) y1 (to + ITEM_NUMBERS) devices (λ k. get_or (set xs to (get_or xs from 0)) (from + ITEM_NUMBERS + k) 0)) where
    from_same : Same xs y1 from ITEM
    from_same i p q = N.kept i (λ u v. B.apart i (omega arith) (omega arith) p q) ∙ set_kept xs to (get_or xs from 0) i (λ e. B.apart i (omega arith) (omega arith) p q)

    pub cells_beside : get_or xs from 0 ≡ PREFIX → Beside cell_place cell_place y1 (to + ITEM_PLACES) (from + ITEM_PLACES) cells
    cells_beside e = items_beside cell_place cell_place cell_local devices cells xs y1 to from (omega arith) (omega arith) B len from_same (B.from_valid.prefix_places e)

    pub changes_beside : (get_or xs from 0 ≡ PREFIX → ⊥) → Beside change_place change_place y1 (to + ITEM_PLACES) (from + ITEM_PLACES) cells
    changes_beside n = items_beside change_place change_place change_local devices cells xs y1 to from (omega arith) (omega arith) B len from_same (B.from_valid.segment_places (no_prefix devices cells xs from B.from_valid n))

    module _ (P : Place) (past : P.Holds) (w : ITEM_PLACES + P.width * cells ≤ ITEM) (L : Local P) (y2 : List ℕ) (F : Filled P y1 y2 (to + ITEM_PLACES) cells (λ k. P.value_at y1 (from + ITEM_PLACES + P.width * k))) where
      places_are : places_at P past cells y2 (to + ITEM_PLACES) ≡ places_at P past cells xs (from + ITEM_PLACES)
      places_are = copied cells y1 y2 (to + ITEM_PLACES) (from + ITEM_PLACES) P past F ∙ places_same P L cells xs y1 (from + ITEM_PLACES) (λ i p q. from_same i (omega arith) (omega arith)) past

      number_is : (k : ℕ) → k < devices → get_or y2 (to + ITEM_NUMBERS + k) 0 ≡ get_or xs (from + ITEM_NUMBERS + k) 0
      number_is k h =
          F.kept (to + ITEM_NUMBERS + k) (λ p q. omega arith) ∙ N.is k h
          ∙ set_kept xs to (get_or xs from 0) (from + ITEM_NUMBERS + k) (λ e. B.apart (from + ITEM_NUMBERS + k) (omega arith) (omega arith) (omega arith) (omega arith))

      kind_is : get_or y2 to 0 ≡ get_or xs from 0
      kind_is = F.kept to (λ p q. omega arith) ∙ N.kept to (λ p q. omega arith) ∙ set_new xs to (get_or xs from 0) (omega (arith, B.to_fits))

      keep : (i : ℕ) → (i ≡ to → ⊥) → Out (to + ITEM_NUMBERS) devices i → Out (to + ITEM_PLACES) (P.width * cells) i → get_or y2 i 0 ≡ get_or xs i 0
      keep i a b c = F.kept i c ∙ N.kept i b ∙ set_kept xs to (get_or xs from 0) i a

    pub prefix_copied : (y2 : List ℕ) → get_or xs from 0 ≡ PREFIX → Filled cell_place y1 y2 (to + ITEM_PLACES) cells (λ k. cell_at y1 (from + ITEM_PLACES + CELL * k)) → PutEntry (item_entry devices cells) xs y2 to (item_at devices cells xs from)
    unfolding numbers_at
    prefix_copied y2 e F =
        let n = number_is cell_place Blank (omega arith) cell_local y2 F in
        rw (prefix_is devices cells xs from e)
        (prefix_made devices cells xs y2 to _ _ (kind_is cell_place Blank (omega arith) cell_local y2 F ∙ e) (λ k h. rw (n k h) (B.from_valid.prefix_numbers e k h)) (below_same devices _ _ 0 (λ k h. ap (λ (a : ℕ). a - 1) (n k h))) F.valid (places_are cell_place Blank (omega arith) cell_local y2 F) (keep cell_place Blank (omega arith) cell_local y2 F))

    pub segment_copied : (y2 : List ℕ) → (get_or xs from 0 ≡ PREFIX → ⊥) → Filled change_place y1 y2 (to + ITEM_PLACES) cells (λ k. change_at y1 (from + ITEM_PLACES + CHANGE * k)) → PutEntry (item_entry devices cells) xs y2 to (item_at devices cells xs from)
    unfolding given_at
    segment_copied y2 m F =
        let e = no_prefix devices cells xs from B.from_valid m in
        let n = number_is change_place Nothing (omega arith) change_local y2 F in
        rw (is_segment devices cells xs from e)
        (segment_made devices cells xs y2 to _ _ (kind_is change_place Nothing (omega arith) change_local y2 F ∙ e) (below_same devices _ _ none (λ k h. ap given_by (n k h))) F.valid (places_are change_place Nothing (omega arith) change_local y2 F) (keep change_place Nothing (omega arith) change_local y2 F))

-- A number that is given decides.
pub given_word : (a b : ℕ) → later_number a b - 1 ≡ given (given_by b) (a - 1)
given_word a zero = refl
given_word a (suc k) = let e : suc k - 1 ≡ k = omega arith in e

pub later_word : (a b : ℕ) → given_by (later_number a b) ≡ later (given_by a) (given_by b)
later_word a zero = refl
later_word a (suc k) = refl

pub later_positive : (a b : ℕ) → 1 ≤ a → 1 ≤ later_number a b
later_positive a zero h = h
later_positive a (suc k) h = omega arith

-- A segment is joined: y1 has the numbers taken over.
module _ (devices cells : ℕ) (xs : List ℕ) (to from : ℕ) (J : Joinable devices cells xs to from) (y1 : List ℕ) (len : length y1 ≡ length xs) (N : Numbers xs y1 (to + ITEM_NUMBERS) devices (λ k. later_number (get_or xs (to + ITEM_NUMBERS + k) 0) (get_or xs (from + ITEM_NUMBERS + k) 0))) where
  few : cells ≤ 64
  few = J.few_cells

  join_from : Same xs y1 from ITEM
  join_from i p q = N.kept i (λ u v. J.beside.apart i (omega arith) (omega (arith, J.few_devices)) p q)

  to_same : (n : ℕ) → Same xs y1 (to + ITEM_PLACES) n
  to_same n i p q = N.kept i (λ u v. omega (arith, J.few_devices))

  segment_valid : Valid change_place xs (from + ITEM_PLACES) cells
  segment_valid = J.beside.from_valid.segment_places J.is_segment

  pub apply_beside : get_or xs to 0 ≡ PREFIX → Beside cell_place change_place y1 (to + ITEM_PLACES) (from + ITEM_PLACES) cells × Valid cell_place y1 (to + ITEM_PLACES) cells
  apply_beside e = (items_beside cell_place change_place change_local devices cells xs y1 to from (omega (arith, few)) (omega (arith, few)) J.beside len join_from segment_valid, places_valid cell_place cell_local cells xs y1 (to + ITEM_PLACES) (to_same _) (J.to_valid.prefix_places e))

  pub join_beside : (get_or xs to 0 ≡ PREFIX → ⊥) → Beside change_place change_place y1 (to + ITEM_PLACES) (from + ITEM_PLACES) cells × Valid change_place y1 (to + ITEM_PLACES) cells
  join_beside n = (items_beside change_place change_place change_local devices cells xs y1 to from (omega (arith, few)) (omega (arith, few)) J.beside len join_from segment_valid, places_valid change_place change_local cells xs y1 (to + ITEM_PLACES) (to_same _) (J.to_valid.segment_places (no_prefix devices cells xs to J.to_valid n)))

  from_changes : changes_at cells y1 (from + ITEM_PLACES) ≡ changes_at cells xs (from + ITEM_PLACES)
  from_changes = places_same change_place change_local cells xs y1 (from + ITEM_PLACES) (λ i p q. join_from i (omega arith) (omega (arith, few))) Nothing

  -- whatever is stored in the places, kind and numbers are these
  module _ (P : Place) (f : ℕ → P.Holds) (y2 : List ℕ) (F : Filled P y1 y2 (to + ITEM_PLACES) cells f) where
    joined_number : (k : ℕ) → k < devices → get_or y2 (to + ITEM_NUMBERS + k) 0 ≡ later_number (get_or xs (to + ITEM_NUMBERS + k) 0) (get_or xs (from + ITEM_NUMBERS + k) 0)
    joined_number k h = F.kept (to + ITEM_NUMBERS + k) (λ p q. omega (arith, J.few_devices)) ∙ N.is k h

    joined_kind : get_or y2 to 0 ≡ get_or xs to 0
    joined_kind = F.kept to (λ p q. omega arith) ∙ N.kept to (λ p q. omega arith)

    joined_keep : (i : ℕ) → (i ≡ to → ⊥) → Out (to + ITEM_NUMBERS) devices i → Out (to + ITEM_PLACES) (P.width * cells) i → get_or y2 i 0 ≡ get_or xs i 0
    joined_keep i a b c = F.kept i c ∙ N.kept i b

  pub prefix_joined : (y2 : List ℕ) → get_or xs to 0 ≡ PREFIX → Filled cell_place y1 y2 (to + ITEM_PLACES) cells (λ k. applied (cell_at y1 (to + ITEM_PLACES + CELL * k)) (change_at y1 (from + ITEM_PLACES + CHANGE * k))) → PutEntry (item_entry devices cells) xs y2 to (join_item sheet (item_at devices cells xs to) (item_at devices cells xs from))
  unfolding numbers_at given_at
  prefix_joined y2 e F =
      let n = joined_number cell_place _ y2 F in
      rw (prefix_is devices cells xs to e, is_segment devices cells xs from J.is_segment)
      (prefix_made devices cells xs y2 to _ _ (joined_kind cell_place _ y2 F ∙ e) (λ k h. rw (n k h) (later_positive (get_or xs (to + ITEM_NUMBERS + k) 0) (get_or xs (from + ITEM_NUMBERS + k) 0) (J.to_valid.prefix_numbers e k h)))
      (fun_ext (λ k. ⊎_elim (λ l. rw (lt-ltb k devices l) (ap (λ (a : ℕ). a - 1) (n k l) ∙ given_word (get_or xs (to + ITEM_NUMBERS + k) 0) (get_or xs (from + ITEM_NUMBERS + k) 0))) (λ g. rw (le-ltb k devices g) refl) (lt_or_ge k devices)))
      F.valid
      (applied_changes cells y1 y2 (to + ITEM_PLACES) (from + ITEM_PLACES) F ∙ (λ i c. applied (places_same cell_place cell_local cells xs y1 (to + ITEM_PLACES) (to_same _) Blank i c) (from_changes i c)))
      (joined_keep cell_place _ y2 F))

  pub segment_joined : (y2 : List ℕ) → (get_or xs to 0 ≡ PREFIX → ⊥) → Filled change_place y1 y2 (to + ITEM_PLACES) cells (λ k. joined (change_at y1 (to + ITEM_PLACES + CHANGE * k)) (change_at y1 (from + ITEM_PLACES + CHANGE * k))) → PutEntry (item_entry devices cells) xs y2 to (join_item sheet (item_at devices cells xs to) (item_at devices cells xs from))
  unfolding given_at
  segment_joined y2 m F =
      let e = no_prefix devices cells xs to J.to_valid m in
      let n = joined_number change_place _ y2 F in
      rw (is_segment devices cells xs to e, is_segment devices cells xs from J.is_segment)
      (segment_made devices cells xs y2 to _ _ (joined_kind change_place _ y2 F ∙ e)
      (fun_ext (λ k. ⊎_elim (λ l. rw (lt-ltb k devices l) (ap given_by (n k l) ∙ later_word (get_or xs (to + ITEM_NUMBERS + k) 0) (get_or xs (from + ITEM_NUMBERS + k) 0))) (λ g. rw (le-ltb k devices g) refl) (lt_or_ge k devices)))
      F.valid
      (joined_changes cells y1 y2 (to + ITEM_PLACES) (from + ITEM_PLACES) F ∙ (λ i c. joined (places_same change_place change_local cells xs y1 (to + ITEM_PLACES) (to_same _) Nothing i c) (from_changes i c)))
      (joined_keep change_place _ y2 F))
