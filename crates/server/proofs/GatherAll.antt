-- What gathering from every device makes of a segment. Assumes nothing.
use mathlib.Core.Path.{◌≡◌, refl, sym, ap, ◌∙◌, subst}
use mathlib.Core.Logic.{⊎_elim}
use mathlib.Core.List.{List, [], ◌∷◌}
use mathlib.Core.Option.{Option, none, some}
use Prim.Native.Nat.{ℕ, zero, suc, ◌+◌, ◌*◌, ◌-◌, ◌≤◌, ◌<◌}
use native.Mathlib.Numerals.{add-one}
use native.Mathlib.Omega.{arith}
use lib.ListN.{length, get_or, take, set, length-set, length-append}
use Rattle.cells.specs.declared.Change.TheVariants.{Nothing}
use Rattle.protocol.specs.Machine.{Device, Round, later, choose, is_held, join_rounds, last_number, rounds_at, all_rounds}
use Rattle.sheet.specs.Sheet.{sheet}
use Rattle.words.specs.Layout.{MOST_DEVICES, MOST_PUSHES, CHANGE, ITEM, ITEM_KIND, ITEM_NUMBERS, ITEM_PLACES, SEGMENT, WAITING_LENGTH, PENDING_LENGTH, ROUND, WAITING, CONNECTION, RECORD, RECORDS, DEVICES, CELLS}
use Rattle.words.specs.Place.{change_place, Filled, Numbers, Valid}
use Rattle.words.proofs.Places.{Same, lt_or_ge, set_kept, set_new, change_local}
use Rattle.record.specs.Reading.{queue, round_at, given_by, connection_of, link_of, device_of}
use Rattle.record.specs.Valid.{IsRecord}
use Rattle.record.proofs.Same.{places_same, places_valid}
use Rattle.record.proofs.Queues.{queue_length}
use Rattle.record.proofs.Loops.{cleared}
use Rattle.record.proofs.Conditions.{is_singles, is_lengths, are_pending, are_waiting}
use Rattle.table.specs.Table.{reading, record_at}
use Rattle.table.proofs.Tables.{device_at, record_of}
use Rattle.link.specs.Gather.{rounds_of, RecordReady, GatheredOne}
use Rattle.link.proofs.Gathers.{join_rounds_append}
use Rattle.table.specs.Known.{TableReady}
use Rattle.server.specs.Gather.{SegmentReady, Gathered}

-- The rounds of a device are those of its record.
pub rounds_at_is : (xs counts : List ℕ) (d : ℕ) → d < get_or xs DEVICES 0 → rounds_at sheet (reading xs) counts d ≡ rounds_of (get_or xs CELLS 0) (get_or counts d 0) (record_at xs d)
unfolding device_of link_of
rounds_at_is xs counts d h = ap (λ (x : Device sheet). taken x) (device_at xs d h)
  where
    taken : Device sheet → List (Round sheet)
    taken x = take (choose (is_held x.link.connection) (get_or counts d 0) 0) x.link.waiting

later_none : (a : Option ℕ) → later none a ≡ a
later_none none = refl
later_none (some k) = refl

-- The number of a waiting round is a pending round's, and so in range.
module _ (devices cells : ℕ) (rs : List ℕ) (R : IsRecord devices cells rs) where
  waiting_in_range : (j : ℕ) → j < get_or rs WAITING_LENGTH 0 → get_or rs (WAITING + ROUND * j) 0 ≤ MOST_PUSHES
  waiting_in_range j h =
      let size = R.valid.size in
      let w = (are_waiting devices cells rs size R j h).number in
      let l = is_lengths devices cells rs size R in
      let s = is_singles devices cells rs size R in
      let p = (are_pending devices cells rs size R (get_or rs PENDING_LENGTH 0 - get_or rs WAITING_LENGTH 0 + j) (omega arith)).to_last in
      omega arith

  pub record_ready : (ss : List ℕ) → length ss ≡ ITEM → Valid change_place ss ITEM_PLACES cells → RecordReady cells ss rs
  record_ready ss l ok = record {
    item = l;
    few_cells = R.few_cells;
    segment = ok;
    size = R.valid.size;
    connection = R.valid.connection;
    few = R.valid.few_waiting;
    rounds = R.valid.waiting;
    in_range = waiting_in_range;
  }

-- The sizes that a call has read are within the allowed numbers.
pub few_devices : (xs : List ℕ) (devices cells : ℕ) → TableReady xs devices cells → devices ≤ MOST_DEVICES
few_devices xs devices cells T = let z = T.table.valid.sizes in let e = T.devices_are in omega arith

pub few_cells : (xs : List ℕ) (devices cells : ℕ) → TableReady xs devices cells → cells ≤ 64
few_cells xs devices cells T = let z = T.table.valid.sizes in let e = T.cells_are in omega arith

-- A device's record of a table can be gathered from.
module _ (xs : List ℕ) (devices cells : ℕ) (T : TableReady xs devices cells) (d : ℕ) (h : d < devices) where
  pub there : d < get_or xs DEVICES 0
  there = let e = T.devices_are in omega arith

  pub few : d < 8
  few = let z = T.table.valid.sizes in let t = there in omega arith

  pub fits : RECORDS + RECORD * d + RECORD ≤ length xs
  fits = let l = T.table.valid.long in let t = there in omega arith

  pub part_ready : (ss : List ℕ) → length ss ≡ ITEM → Valid change_place ss ITEM_PLACES cells → RecordReady cells ss (record_at xs d)
  part_ready ss l ok =
      let e = T.cells_are in
      subst (λ (c : ℕ). RecordReady c ss (record_at xs d)) (sym e) (record_ready (get_or xs DEVICES 0) (get_or xs CELLS 0) (record_at xs d) (record_of xs T.table d there) ss l (subst (λ (c : ℕ). Valid change_place ss ITEM_PLACES c) e ok))

-- At most 8 rounds wait.
few_rounds : (cells count : ℕ) (ss rs : List ℕ) → RecordReady cells ss rs → length (rounds_of cells count rs) ≤ 8
few_rounds cells count ss rs R = omega (arith, R.few, length_take_min (choose (is_held (connection_of (get_or rs CONNECTION 0))) count 0) (queue (get_or rs WAITING_LENGTH 0) (λ j. round_at cells rs (WAITING + ROUND * j))), queue_length (get_or rs WAITING_LENGTH 0) (λ j. round_at cells rs (WAITING + ROUND * j)))
  where
    length_take_min : (n : ℕ) (l : List (Round sheet)) → length (take n l) ≤ length l
    length_take_min zero [] = omega arith
    length_take_min (suc n) [] = omega arith
    length_take_min zero (r ∷ l) = omega arith
    length_take_min (suc n) (r ∷ l) = let i = length_take_min n l in omega arith

pub few_taken : (cells count d k : ℕ) (ss rs ss' : List ℕ) → RecordReady cells ss rs → GatheredOne cells count d ss rs k ss' → k ≤ 8
few_taken cells count d k ss rs ss' R G = omega (arith, G.many, few_rounds cells count ss rs R)

-- A segment made from nothing.
module _ (cells : ℕ) (few : cells ≤ 64) (ss y1 y2 : List ℕ) (N : Numbers ss y1 ITEM_KIND ITEM_PLACES (λ k. 0)) (F : Filled change_place y1 y2 ITEM_PLACES cells (λ k. Nothing)) (l : length y2 ≡ ITEM) where
  pub segment_ready : SegmentReady cells (set y2 ITEM_KIND SEGMENT)
  segment_ready = record {
    item = simp length-set l;
    kind = set_new y2 ITEM_KIND SEGMENT (omega arith);
    numbers = λ d h. let e : ITEM_KIND + (ITEM_NUMBERS + d) ≡ ITEM_NUMBERS + d = omega arith in
        set_kept y2 ITEM_KIND SEGMENT (ITEM_NUMBERS + d) (λ q. omega arith) ∙ F.kept (ITEM_NUMBERS + d) (λ p q. omega arith) ∙ (rw e at (N.is (ITEM_NUMBERS + d) (omega arith)));
    changes = places_same change_place change_local cells y2 (set y2 ITEM_KIND SEGMENT) ITEM_PLACES behind Nothing ∙ cleared cells y1 y2 ITEM_PLACES ITEM_PLACES change_place Nothing F;
    valid = places_valid change_place change_local cells y2 (set y2 ITEM_KIND SEGMENT) ITEM_PLACES behind F.valid;
  }
    where
      behind : Same y2 (set y2 ITEM_KIND SEGMENT) ITEM_PLACES (CHANGE * cells)
      behind i p q = set_kept y2 ITEM_KIND SEGMENT i (λ e. omega arith)

module _ (xs counts : List ℕ) (cells : ℕ) where
  pub gathered_start : (ss : List ℕ) → SegmentReady cells ss → Gathered xs counts 0 cells 0 ss
  gathered_start ss S = record {
    item = S.item;
    kind = S.kind;
    many = refl;
    numbers = λ d h. absurd (omega arith);
    ahead = λ d h b. S.numbers d b;
    changes = S.changes;
    valid = S.valid;
  }

  -- one device more
  pub gathered_more : (n r k : ℕ) (ss ss' : List ℕ) → cells ≡ get_or xs CELLS 0 → n < get_or xs DEVICES 0 → n < 8 → length ss' ≡ ITEM → Gathered xs counts n cells r ss → GatheredOne cells (get_or counts n 0) n ss (record_at xs n) k ss' → Gathered xs counts (n + 1) cells (r + k) ss'
  gathered_more n r k ss ss' c h few l G O =
      rw (add-one n) (record {
        item = l;
        kind = O.others ITEM_KIND (λ q. omega arith) (λ p q. omega arith) ∙ G.kind;
        many = let m = length-append (all_rounds sheet (reading xs) counts n) (rounds_at sheet (reading xs) counts n) in let a = G.many in let b = O.many ∙ ap length (sym rounds_are) in omega arith;
        numbers = λ d b. ⊎_elim (λ q. same_number d q ∙ G.numbers d q) (λ g. let e : d ≡ n = omega arith in rw e (new_number)) (lt_or_ge d n);
        ahead = λ d b q. O.others (ITEM_NUMBERS + d) (λ e. omega arith) (λ l g. omega arith) ∙ G.ahead d (omega arith) q;
        changes = O.is ∙ (λ i. join_rounds sheet (G.changes i) (sym rounds_are i)) ∙ sym (join_rounds_append (λ c. Nothing) (all_rounds sheet (reading xs) counts n) (rounds_at sheet (reading xs) counts n));
        valid = O.valid;
      })
    where
      rounds_are : rounds_at sheet (reading xs) counts n ≡ rounds_of cells (get_or counts n 0) (record_at xs n)
      rounds_are = rounds_at_is xs counts n h ∙ ap (λ (m : ℕ). rounds_of m (get_or counts n 0) (record_at xs n)) (sym c)

      same_number : (d : ℕ) → d < n → given_by (get_or ss' (ITEM_NUMBERS + d) 0) ≡ given_by (get_or ss (ITEM_NUMBERS + d) 0)
      same_number d q = ap given_by (O.others (ITEM_NUMBERS + d) (λ e. omega arith) (λ l g. omega arith))

      new_number : given_by (get_or ss' (ITEM_NUMBERS + n) 0) ≡ last_number sheet (rounds_at sheet (reading xs) counts n)
      new_number = O.number ∙ (λ i. later (given_by (G.ahead n (omega arith) few i)) (last_number sheet (sym rounds_are i))) ∙ later_none (last_number sheet (rounds_at sheet (reading xs) counts n))
