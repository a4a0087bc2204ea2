-- What `pull` makes of a record. Assumes nothing.
use mathlib.Core.Path.{◌≡◌, refl, sym, ap, ◌∙◌}
use mathlib.Core.List.{List}
use mathlib.Core.Option.{Option, none, some}
use Prim.Native.Nat.{ℕ, ◌+◌, ◌*◌, ◌≤◌, ◌<◌}
use native.Mathlib.Omega.{arith}
use lib.ListN.{length, get_or, set, length-set}
use Rattle.cells.specs.Cells.{applied}
use Rattle.cells.specs.declared.Cell.TheVariants.{Blank}
use Rattle.protocol.specs.Machine.{Item, Device, fine, sheet_after, gives, beyond, pull_at, done}
use Rattle.sheet.specs.Sheet.{sheet}
use Rattle.words.specs.Layout.{CELL, CHANGE, QUEUE, ROUND, ITEM_NUMBERS, ITEM_PLACES, PREFIX, LAST, TAKEN, COVERED, PENDING_LENGTH, WAITING_LENGTH, ITEMS_LENGTH, KNOWN, TRANSACTION, RECEIVED, PENDING, WAITING, RECORD}
use Rattle.words.specs.Place.{cell_place, change_place, cell_at, change_at, Beside, Filled, Kept, Out, Valid}
use Rattle.words.proofs.Places.{set_kept, set_new, cell_local}
use Rattle.record.specs.Reading.{sheet_at, item_at, given_by, device_of}
use Rattle.record.specs.Valid.{InUse, ValidItem, IsRecord}
use Rattle.record.proofs.Loops.{copied, applied_changes}
use Rattle.record.specs.Did.{Did}
use Rattle.queues.specs.Parts.{PlacesAre, round_entry, QueueIs, Requeued}
use Rattle.queues.specs.Rounds.{rounds_of, HasPending}
use Rattle.queues.proofs.Entries.{round_local, requeued_outside}
use Rattle.queues.proofs.Items.{prefix_is, is_segment, no_prefix, gives_word, is_empty, is_filled}
use Rattle.queues.proofs.Parts.{Parts, parts_of, did_parts, past_singles, places_kept, last_stays, covered_stays, words_stay, transaction_stays, buffered_stays, pending_stays, waiting_stays, items_stay}

-- The buffered item is applied to the known sheet.
module _ (devices cells : ℕ) (xs : List ℕ) (len : length xs ≡ RECORD) (few : cells ≤ 64) (K : Valid cell_place xs KNOWN cells) (ok : ValidItem devices cells xs RECEIVED) where
  pub prefix_beside : get_or xs RECEIVED 0 ≡ PREFIX → Beside cell_place cell_place xs KNOWN (RECEIVED + ITEM_PLACES) cells
  prefix_beside e = record { to_fits = omega arith; from_fits = omega arith; from_valid = ok.prefix_places e; apart = λ i p q u v. omega arith }

  pub segment_beside : (get_or xs RECEIVED 0 ≡ PREFIX → ⊥) → Beside cell_place change_place xs KNOWN (RECEIVED + ITEM_PLACES) cells
  segment_beside n = record { to_fits = omega arith; from_fits = omega arith; from_valid = ok.segment_places (no_prefix devices cells xs RECEIVED ok n); apart = λ i p q u v. omega arith }

  pub prefix_taken : (ys : List ℕ) → get_or xs RECEIVED 0 ≡ PREFIX → Filled cell_place xs ys KNOWN cells (λ k. cell_at xs (RECEIVED + ITEM_PLACES + CELL * k)) → PlacesAre cell_place Blank cells ys KNOWN (sheet_after sheet (some (item_at devices cells xs RECEIVED)) (sheet_at cells xs KNOWN)) × Kept xs ys KNOWN (CELL * cells)
  prefix_taken ys e F =
      (record { is = copied cells xs ys KNOWN (RECEIVED + ITEM_PLACES) cell_place Blank F ∙ sym (ap (λ (i : Item sheet). sheet_after sheet (some i) (sheet_at cells xs KNOWN)) (prefix_is devices cells xs RECEIVED e)); valid = F.valid }, F.kept)

  pub segment_taken : (ys : List ℕ) → (get_or xs RECEIVED 0 ≡ PREFIX → ⊥) → Filled cell_place xs ys KNOWN cells (λ k. applied (cell_at xs (KNOWN + CELL * k)) (change_at xs (RECEIVED + ITEM_PLACES + CHANGE * k))) → PlacesAre cell_place Blank cells ys KNOWN (sheet_after sheet (some (item_at devices cells xs RECEIVED)) (sheet_at cells xs KNOWN)) × Kept xs ys KNOWN (CELL * cells)
  segment_taken ys n F =
      (record { is = applied_changes cells xs ys KNOWN (RECEIVED + ITEM_PLACES) F ∙ sym (ap (λ (i : Item sheet). sheet_after sheet (some i) (sheet_at cells xs KNOWN)) (is_segment devices cells xs RECEIVED (no_prefix devices cells xs RECEIVED ok n))); valid = F.valid }, F.kept)

module _ (devices cells : ℕ) (xs : List ℕ) (R : IsRecord devices cells xs) (d : ℕ) where
  pulled : Option (Item sheet) → Device sheet
  pulled i = record {
    known = sheet_after sheet i (device_of devices cells xs).known;
    received = none;
    pending = beyond sheet (gives sheet d i) (device_of devices cells xs).pending;
    buffered = (device_of devices cells xs).buffered;
    covered = (device_of devices cells xs).covered;
    transaction = (device_of devices cells xs).transaction;
    last = (device_of devices cells xs).last;
    link = (device_of devices cells xs).link;
  }

  step_is : (i : Option (Item sheet)) → (device_of devices cells xs).received ≡ i → pull_at sheet d (device_of devices cells xs) ≡ fine (pulled i)
  unfolding pull_at pulled
  step_is i e = ap (λ (o : Option (Item sheet)). fine (pulled o)) e

  -- with an empty buffer nothing changes
  pub pull_nothing : get_or xs RECEIVED 0 ≡ 0 → Did devices cells (pull_at sheet d) xs done xs
  unfolding pulled
  pull_nothing e = did_parts devices cells (pull_at sheet d) xs xs (device_of devices cells xs) (step_is none empty ∙ ap fine all) (parts_of devices cells xs R.valid) refl (λ i n. refl)
    where
      empty : (device_of devices cells xs).received ≡ none
      empty = unfold device_of in (is_empty devices cells xs RECEIVED e)

      all : pulled none ≡ device_of devices cells xs
      all = (λ i. record { known = (device_of devices cells xs).known; received = sym empty i; pending = (device_of devices cells xs).pending; buffered = (device_of devices cells xs).buffered; covered = (device_of devices cells xs).covered; transaction = (device_of devices cells xs).transaction; last = (device_of devices cells xs).last; link = (device_of devices cells xs).link })

  -- y1 has the item applied to the known sheet
  module _ (filled : 0 < get_or xs RECEIVED 0) (y1 : List ℕ) (len1 : length y1 ≡ RECORD) (T : PlacesAre cell_place Blank cells y1 KNOWN (sheet_after sheet (some (item_at devices cells xs RECEIVED)) (sheet_at cells xs KNOWN)) × Kept xs y1 KNOWN (CELL * cells)) where
    few : cells ≤ 64
    few = R.few_cells

    y2 : List ℕ
    y2 = set y1 RECEIVED 0

    keep2 : (i : ℕ) → (i ≡ RECEIVED → ⊥) → Out KNOWN (CELL * cells) i → get_or y2 i 0 ≡ get_or xs i 0
    unfolding y2
    keep2 i a b = set_kept y1 RECEIVED 0 i a ∙ T.1 i b

    pending2 : QueueIs (round_entry cells) y2 PENDING_LENGTH PENDING (device_of devices cells xs).pending
    pending2 = pending_stays devices cells xs y2 R (keep2 PENDING_LENGTH (λ e. omega arith) (λ p q. omega arith)) (λ i p q. keep2 i (λ e. omega arith) (λ u v. omega (arith, few)))

    pub has_pending : HasPending cells (set y1 RECEIVED 0)
    has_pending = unfold y2 in record { size = simp length-set len1; few_cells = few; few = pending2.few; rounds = pending2.valid }

    -- y3 has the pending rounds up to its number removed
    module _ (l : d < devices) (y3 : List ℕ) (len3 : length y3 ≡ RECORD) (Q : Requeued (round_entry cells) (set y1 RECEIVED 0) y3 PENDING_LENGTH PENDING (beyond sheet (given_by (get_or xs (RECEIVED + ITEM_NUMBERS + d) 0)) (rounds_of cells (set y1 RECEIVED 0) PENDING_LENGTH PENDING))) where
      outside : (i : ℕ) → (i ≡ PENDING_LENGTH → ⊥) → Out PENDING (ROUND * QUEUE) i → get_or y3 i 0 ≡ get_or y2 i 0
      unfolding y2
      outside = requeued_outside (round_entry cells) (round_local cells few) (set y1 RECEIVED 0) y3 PENDING_LENGTH PENDING _ Q

      -- the known sheet, the buffer's kind and pending apart, all stays
      keep : (i : ℕ) → (i ≡ PENDING_LENGTH → ⊥) → (i ≡ RECEIVED → ⊥) → (KNOWN ≤ i → TRANSACTION ≤ i) → (PENDING ≤ i → WAITING ≤ i) → get_or y3 i 0 ≡ get_or xs i 0
      keep i a b f g = outside i a (λ p q. omega (arith, g p)) ∙ keep2 i b (λ p q. omega (arith, f p, few))

      single : (i : ℕ) → i < KNOWN → (i ≡ PENDING_LENGTH → ⊥) → get_or y3 i 0 ≡ get_or xs i 0
      single i h a = keep i a (λ e. omega arith) (λ p. omega arith) (λ p. omega arith)

      received_is : (device_of devices cells xs).received ≡ some (item_at devices cells xs RECEIVED)
      unfolding device_of
      received_is = is_filled devices cells xs RECEIVED filled

      empty_now : get_or y3 RECEIVED 0 ≡ 0
      unfolding y2
      empty_now = outside RECEIVED (λ e. omega arith) (λ p q. omega arith) ∙ set_new y1 RECEIVED 0 (omega arith)

      pending_is : QueueIs (round_entry cells) y3 PENDING_LENGTH PENDING (beyond sheet (gives sheet d (some (item_at devices cells xs RECEIVED))) (device_of devices cells xs).pending)
      unfolding y2
      pending_is = rw (gives_word devices cells xs RECEIVED (R.valid.received filled) d l) (rw pending2.is at Q.now_is)

      parts : Parts devices cells y3 (pulled (some (item_at devices cells xs RECEIVED)))
      unfolding pulled y2
      parts = record {
        size = len3;
        last = last_stays devices cells xs y3 R (single LAST (omega arith) (λ e. omega arith));
        covered = covered_stays devices cells xs y3 R (single COVERED (omega arith) (λ e. omega arith));
        words = words_stay devices cells xs y3 R (λ i p q. single i (omega arith) (λ e. omega arith));
        known = places_kept cell_place cell_local Blank cells y1 y3 KNOWN _ (λ i p q. outside i (λ e. omega arith) (λ u v. omega (arith, few)) ∙ set_kept y1 RECEIVED 0 i (λ e. omega (arith, few))) (unfold device_of in T.0);
        transaction = transaction_stays devices cells xs y3 R (λ i p q. keep i (λ e. omega arith) (λ e. omega (arith, few)) (λ u. p) (λ u. omega (arith, few)));
        buffered = buffered_stays devices cells xs y3 R (λ i p q. keep i (λ e. omega arith) (λ e. omega (arith, few)) (λ u. omega arith) (λ u. omega (arith, few)));
        received = record { is = is_empty devices cells y3 RECEIVED empty_now; valid = λ h. absurd (omega (arith, empty_now)) };
        pending = pending_is;
        waiting = waiting_stays devices cells xs y3 R (single WAITING_LENGTH (omega arith) (λ e. omega arith)) (λ i p q. keep i (λ e. omega arith) (λ e. omega arith) (λ u. omega arith) (λ u. p));
        items = items_stay devices cells xs y3 R (single ITEMS_LENGTH (omega arith) (λ e. omega arith)) (λ i p q. keep i (λ e. omega arith) (λ e. omega arith) (λ u. omega arith) (λ u. omega arith));
      }

      kept_is : (i : ℕ) → (InUse devices cells y3 i → ⊥) → get_or y3 i 0 ≡ get_or xs i 0
      unfolding y2
      kept_is i n =
          let k = past_singles devices cells y3 i n in
          Q.kept i (λ e. omega arith) (λ j h u. n (InUse.pending j h u.0 u.1)) ∙ keep2 i (λ e. n (rw e InUse.buffer_kind)) (λ p q. n (InUse.known p q))

      pub pull_done : Did devices cells (pull_at sheet d) xs done y3
      pull_done = did_parts devices cells (pull_at sheet d) xs y3 (pulled (some (item_at devices cells xs RECEIVED))) (step_is _ received_is) parts (single TAKEN (omega arith) (λ e. omega arith)) kept_is
