-- A record whose device fits meets the conditions on its words. Assumes nothing.
use mathlib.Core.Path.{◌≡◌, sym, ap, ◌∙◌, subst}
use mathlib.Core.Bool.{true}
use mathlib.Core.List.{List}
use mathlib.Core.Option.{some}
use Prim.Native.Nat.{ℕ, zero, suc, ◌+◌, ◌*◌, ◌-◌, ◌≤◌, ◌<◌}
use native.Mathlib.Omega.{arith}
use lib.ListN.{length, get_or, get_elem?, length-drop}
use Rattle.protocol.specs.Machine.{given, gives}
use Rattle.protocol.specs.Fits.{numbers, number_at, is_prefix}
use Rattle.sheet.specs.Sheet.{sheet}
use Rattle.words.specs.Layout.{ROUND, ITEM, ITEM_NUMBERS, PREFIX, ASKED, CHANNEL, PENDING_LENGTH, WAITING_LENGTH, ITEMS_LENGTH, RECEIVED, PENDING, WAITING, ITEMS, RECORD}
use Rattle.record.specs.Reading.{queue, item_at, buffer_of, received_at, link_of, device_of, channel_of, connection_of}
use Rattle.record.specs.Valid.{ValidRecord, IsRecord}
use Rattle.record.specs.Conditions.{Singles, Lengths, Channels, Requests, DueItem, GoodPending, GoodWaiting, Sheets}
use Rattle.record.proofs.Queues.{queue_length, queue_at, same_entries}
use Rattle.record.proofs.Meanings.{channel_asked, is_not_established, is_not_stale, is_request, queue_empty, prefix_kind, kind_prefix, gives_is, numbers_are}
use Rattle.record.proofs.Said.{pending_rounds, waiting_rounds, item, pending_number, pending_length, waiting_length, last_numbers}

module _ (devices cells : ℕ) (xs : List ℕ) (size : length xs ≡ RECORD) where
  module _ (R : IsRecord devices cells xs) where
    ok : ValidRecord devices cells xs
    ok = R.valid

    pub is_singles : Singles xs
    unfolding device_of
    is_singles =
        let F = R.fits in
        record { last = F.last_in_range; covered = F.covered_in_range; taken = F.taken_to_last; channel = ok.channel; connection = ok.connection; request = ok.request }

    -- the last rounds are no more than all
    few_waiting : get_or xs WAITING_LENGTH 0 ≤ get_or xs PENDING_LENGTH 0
    unfolding device_of link_of
    few_waiting =
        let e = ap length R.fits.waiting_last_pending in
        let a = ap length (numbers_are cells xs WAITING (get_or xs WAITING_LENGTH 0)) ∙ queue_length _ _ in
        let b = ap length (numbers_are cells xs PENDING (get_or xs PENDING_LENGTH 0)) ∙ queue_length _ _ in
        let w = (waiting_length devices cells xs) in
        let d = length-drop (length (numbers sheet (pending_rounds devices cells xs)) - length (waiting_rounds devices cells xs)) (numbers sheet (pending_rounds devices cells xs)) in
        omega arith

    pub is_lengths : Lengths xs
    is_lengths = record { pending = ok.few_pending; waiting = few_waiting; items = ok.few_items }

    pub are_channels : Channels xs
    unfolding device_of link_of
    are_channels =
        let F = R.fits in
        record {
          stale_not_established = λ a b. F.stale_not_established (ap connection_of a) (ap channel_of b);
          none_before_established = λ a b. queue_empty _ _ (F.none_before_established (is_not_stale _ ok.connection a) (is_not_established _ ok.channel b));
          live_on_channel = λ a b. F.live_on_channel (ap channel_of a) (ap connection_of b);
          items_on_channel = λ a. queue_empty _ _ (F.items_on_channel (ap channel_of a));
          prefix_while_held = λ a b. omega (arith, F.prefix_while_held (ap channel_of a) (ap connection_of b), queue_length (get_or xs ITEMS_LENGTH 0) (item devices cells xs));
        }

    pub are_requests : Requests xs
    unfolding device_of link_of
    are_requests =
        let F = R.fits in
        record { on_asked = λ h. channel_asked _ (F.request_on_asked (is_request _ h)); without_items = λ h. queue_empty _ _ (F.request_without_items (is_request _ h)) }

    -- a number that is one more than a number in range
    in_range : (w : ℕ) → w - 1 ≤ 1000000 → w ≤ 1000001
    in_range w h = omega arith

    item_in_range : (j : ℕ) → j < get_or xs ITEMS_LENGTH 0 → (d : ℕ) → d < devices → get_or xs (ITEMS + ITEM * j + ITEM_NUMBERS + d) 0 ≤ 1000001
    unfolding device_of link_of
    item_in_range j h d l =
        let r = R.fits.items_in_range j d l in
        in_range _ (rw (queue_at (get_or xs ITEMS_LENGTH 0) (item devices cells xs) j h, gives_is devices cells xs (ITEMS + ITEM * j) (ok.items j h) d l) at r)

    received_in_range : 0 < get_or xs RECEIVED 0 → (d : ℕ) → d < devices → get_or xs (RECEIVED + ITEM_NUMBERS + d) 0 ≤ 1000001
    unfolding device_of received_at
    received_in_range h d l = in_range _ (subst (λ (m : ℕ). m ≤ 1000000) (gives_is devices cells xs RECEIVED (ok.received h) d l) (filled (get_or xs RECEIVED 0) h (R.fits.received_in_range d l)))
      where
        filled : (k : ℕ) → 0 < k → given (gives sheet d (buffer_of k (item_at devices cells xs RECEIVED))) 0 ≤ 1000000 → given (gives sheet d (some (item_at devices cells xs RECEIVED))) 0 ≤ 1000000
        filled zero h r = absurd (omega arith)
        filled (suc k) h r = r

    pub are_sheets : Sheets devices cells xs
    are_sheets = record {
      known = ok.known;
      transaction = ok.transaction;
      buffered = ok.buffered;
      received = λ h. record { valid = ok.received h; numbers = λ d l. (omega arith, received_in_range h d l) };
    }

    prefix_at : (j : ℕ) → j < get_or xs ITEMS_LENGTH 0 → get_or xs (ITEMS + ITEM * j) 0 ≡ PREFIX → is_prefix sheet (get_elem? (queue (get_or xs ITEMS_LENGTH 0) (item devices cells xs)) j) ≡ true
    prefix_at j h e = ap (is_prefix sheet) (queue_at (get_or xs ITEMS_LENGTH 0) (item devices cells xs) j h) ∙ kind_prefix devices cells xs (ITEMS + ITEM * j) (ok.items j h) e

    due_is : (j : ℕ) → j < get_or xs ITEMS_LENGTH 0 → j ≡ 0 → get_or xs CHANNEL 0 ≡ ASKED → get_or xs (ITEMS + ITEM * j) 0 ≡ PREFIX
    unfolding device_of link_of
    due_is j h z e =
        let r = R.fits.first_is_prefix (ap channel_of e) (omega (arith, queue_length (get_or xs ITEMS_LENGTH 0) (item devices cells xs))) in
        prefix_kind devices cells xs (ITEMS + ITEM * j) (ok.items j h) (ap (is_prefix sheet) (sym (queue_at (get_or xs ITEMS_LENGTH 0) (item devices cells xs) j h)) ∙ rw z r)

    pub are_items : (j : ℕ) → j < get_or xs ITEMS_LENGTH 0 → DueItem devices cells xs j
    unfolding device_of link_of
    are_items j h = record {
      good = record { valid = ok.items j h; numbers = λ d l. (omega arith, item_in_range j h d l) };
      kind = record {
        due = due_is j h;
        first = λ e. R.fits.prefix_in_first_place j (prefix_at j h e);
        asked = λ e. channel_asked _ (R.fits.prefix_on_asked j (prefix_at j h e));
      };
    }

    pub are_pending : (j : ℕ) → j < get_or xs PENDING_LENGTH 0 → GoodPending cells xs j
    unfolding device_of
    are_pending j h =
        let F = R.fits in
        let p = (pending_length devices cells xs) in
        let n = (pending_number devices cells xs) j h in
        record {
          to_last = rw n at (F.numbers_to_last j (omega arith));
          below_last = λ b. rw n at (F.numbers_below_last b j (omega arith));
          positive = rw n at (F.numbers_positive j (omega arith));
          rises = λ b.
              let i : ℕ = j - 1 in
              let q : suc i ≡ j = omega arith in
              let o : PENDING + ROUND * j - ROUND ≡ PENDING + ROUND * i = omega arith in
              let m = (pending_number devices cells xs) i (omega arith) in
              let r = subst (λ (k : ℕ). number_at sheet (pending_rounds devices cells xs) i < number_at sheet (pending_rounds devices cells xs) k) q (F.numbers_rise i (omega arith)) in
              rw o (rw (m, n) at r);
          valid = ok.pending j h;
        }

    pub are_waiting : (j : ℕ) → j < get_or xs WAITING_LENGTH 0 → GoodWaiting cells xs j
    unfolding device_of link_of
    are_waiting j h = record {
      number = same_entries (get_or xs WAITING_LENGTH 0) (get_or xs WAITING_LENGTH 0) (λ j. get_or xs (WAITING + ROUND * j) 0) _ (sym (numbers_are cells xs WAITING (get_or xs WAITING_LENGTH 0)) ∙ R.fits.waiting_last_pending ∙ (last_numbers devices cells xs) few_waiting) j h;
      valid = ok.waiting j h;
    }
