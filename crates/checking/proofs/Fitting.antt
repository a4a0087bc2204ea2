-- Words that meet the conditions are a record whose device fits. Assumes nothing.
use mathlib.Core.Path.{◌≡◌, refl, sym, ap, ◌∙◌}
use mathlib.Core.Bool.{Bool, true}
use mathlib.Core.List.{List}
use mathlib.Core.Option.{some}
use Prim.Native.Nat.{ℕ, zero, suc, ◌+◌, ◌*◌, ◌-◌, ◌≤◌, ◌<◌}
use native.Mathlib.Omega.{arith}
use lib.ListN.{length, get_or}
use Rattle.protocol.specs.Machine.{given, gives, asked}
use Rattle.protocol.specs.Fits.{FitsDevice, is_prefix}
use Rattle.sheet.specs.Sheet.{sheet}
use Rattle.words.specs.Layout.{ROUND, ITEM, PREFIX, ASKED, TAKEN, CHANNEL, PENDING_LENGTH, WAITING_LENGTH, ITEMS_LENGTH, RECEIVED, PENDING, WAITING, ITEMS, RECORD}
use Rattle.words.specs.Place.{Decides}
use Rattle.words.proofs.Tests.{true_false, decides_iff}
use Rattle.record.specs.Reading.{item_at, buffer_of, received_at, link_of, device_of, channel_of}
use Rattle.record.specs.Valid.{ValidItem, ValidRecord, IsRecord}
use Rattle.record.specs.Conditions.{Singles, Lengths, Channels, Requests, DueItem, GoodPending, GoodWaiting, Sheets}
use Rattle.record.proofs.Conditions.{is_singles, is_lengths, are_channels, are_requests, are_sheets, are_pending, are_waiting, are_items}
use Rattle.record.proofs.Queues.{queue_length, queue_at}
use Rattle.record.proofs.Same.{queue_same}
use Rattle.record.proofs.Meanings.{channel_off, channel_asked, not_established, channel_established, connection_live, connection_stale, not_stale, request_there, empty_queue, prefix_kind, kind_prefix, gives_is, numbers_are}
use Rattle.record.proofs.Said.{item, pending_number, pending_length, waiting_length, last_numbers, at_item}

-- All conditions on the words of a record.
pub record Conditions (devices cells : ℕ) (xs : List ℕ) : Type 0 where
  pub singles : Singles xs
  pub lengths : Lengths xs
  pub channels : Channels xs
  pub requests : Requests xs
  pub sheets : Sheets devices cells xs
  pub pending : (j : ℕ) → j < get_or xs PENDING_LENGTH 0 → GoodPending cells xs j
  pub waiting : (j : ℕ) → j < get_or xs WAITING_LENGTH 0 → GoodWaiting cells xs j
  pub items : (j : ℕ) → j < get_or xs ITEMS_LENGTH 0 → DueItem devices cells xs j

module _ (devices cells : ℕ) (xs : List ℕ) (size : length xs ≡ RECORD) where
  module _ (C : Conditions devices cells xs) where
    item_valid : (j : ℕ) → j < get_or xs ITEMS_LENGTH 0 → ValidItem devices cells xs (ITEMS + ITEM * j)
    item_valid j h = (C.items j h).good.valid

    valid_is : ValidRecord devices cells xs
    valid_is =
        let S = C.singles in
        let L = C.lengths in
        record {
          size = size;
          channel = S.channel;
          request = S.request;
          connection = S.connection;
          few_pending = L.pending;
          few_waiting = omega arith;
          few_items = L.items;
          known = C.sheets.known;
          transaction = C.sheets.transaction;
          buffered = C.sheets.buffered;
          received = λ h. (C.sheets.received h).valid;
          pending = λ j h. (C.pending j h).valid;
          waiting = λ j h. (C.waiting j h).valid;
          items = item_valid;
        }

    item_number : (j : ℕ) → j < get_or xs ITEMS_LENGTH 0 → (d : ℕ) → d < devices → given (gives sheet d (some ((item devices cells xs) j))) 0 ≤ 1000000
    item_number j h d l = let n = (C.items j h).good.numbers d l in rw (gives_is devices cells xs (ITEMS + ITEM * j) (item_valid j h) d l) (omega arith)

    received_number : (d : ℕ) → d < devices → given (gives sheet d (buffer_of (get_or xs RECEIVED 0) (item_at devices cells xs RECEIVED))) 0 ≤ 1000000
    received_number d l = go (get_or xs RECEIVED 0) refl
      where
        go : (k : ℕ) → get_or xs RECEIVED 0 ≡ k → given (gives sheet d (buffer_of k (item_at devices cells xs RECEIVED))) 0 ≤ 1000000
        go zero e = omega arith
        go (suc k) e =
            let g = C.sheets.received (omega arith) in
            let n = g.numbers d l in
            rw (gives_is devices cells xs RECEIVED g.valid d l) (omega arith)

    prefix_is : (j : ℕ) → j < get_or xs ITEMS_LENGTH 0 → is_prefix sheet (some ((item devices cells xs) j)) ≡ true → get_or xs (ITEMS + ITEM * j) 0 ≡ PREFIX
    prefix_is j h e = prefix_kind devices cells xs (ITEMS + ITEM * j) (item_valid j h) e

    first_prefix : get_or xs CHANNEL 0 ≡ ASKED → 0 < get_or xs ITEMS_LENGTH 0 → is_prefix sheet (some ((item devices cells xs) 0)) ≡ true
    first_prefix e h = kind_prefix devices cells xs (ITEMS + ITEM * 0) (item_valid 0 h) ((C.items 0 h).kind.due refl e)

    pub fits_is : FitsDevice sheet devices (get_or xs TAKEN 0) (device_of devices cells xs)
    unfolding device_of link_of received_at
    fits_is =
        let S = C.singles in
        let L = C.lengths in
        let n = get_or xs ITEMS_LENGTH 0 in
        let p = (pending_length devices cells xs) in
        let w = (waiting_length devices cells xs) in
        let i = queue_length n (item devices cells xs) in
        record {
          last_in_range = S.last;
          covered_in_range = S.covered;
          items_in_range = λ j d h. (at_item devices cells xs) (λ k o. given (gives sheet d o) 0 ≤ 1000000) (λ k. omega arith) (λ k b. item_number k b d h) j;
          received_in_range = received_number;
          few_pending = omega arith;
          few_waiting = omega arith;
          few_items = omega arith;
          numbers_positive = λ j h. rw ((pending_number devices cells xs) j (omega arith)) (C.pending j (omega arith)).positive;
          numbers_rise = λ j h.
              let a = (pending_number devices cells xs) j (omega arith) in
              let b = (pending_number devices cells xs) (suc j) (omega arith) in
              let r = (C.pending (suc j) (omega arith)).rises (omega arith) in
              let q : PENDING + ROUND * suc j - ROUND ≡ PENDING + ROUND * j = omega arith in
              rw (a, b) (rw q at r);
          numbers_to_last = λ j h. rw ((pending_number devices cells xs) j (omega arith)) (C.pending j (omega arith)).to_last;
          numbers_below_last = λ b j h. rw ((pending_number devices cells xs) j (omega arith)) ((C.pending j (omega arith)).below_last b);
          taken_to_last = S.taken;
          waiting_last_pending = numbers_are cells xs WAITING (get_or xs WAITING_LENGTH 0) ∙ queue_same _ _ _ (λ j h. (C.waiting j h).number) ∙ sym ((last_numbers devices cells xs) L.waiting);
          none_before_established = λ a b. empty_queue _ _ (C.channels.none_before_established (not_stale _ a) (not_established _ b));
          request_on_asked = λ e. ap channel_of (C.requests.on_asked (request_there _ e));
          request_without_items = λ e. empty_queue _ _ (C.requests.without_items (request_there _ e));
          live_on_channel = λ a b. C.channels.live_on_channel (channel_off _ a) (connection_live _ b);
          items_on_channel = λ a. empty_queue _ _ (C.channels.items_on_channel (channel_off _ a));
          prefix_in_first_place = (at_item devices cells xs) (λ k o. is_prefix sheet o ≡ true → k ≡ 0) (λ k e. true_false (sym e)) (λ k b e. (C.items k b).kind.first (prefix_is k b e));
          prefix_on_asked = (at_item devices cells xs) (λ k o. is_prefix sheet o ≡ true → channel_of (get_or xs CHANNEL 0) ≡ asked) (λ k e. true_false (sym e)) (λ k b e. ap channel_of ((C.items k b).kind.asked (prefix_is k b e)));
          first_is_prefix = λ a b. rw (queue_at n (item devices cells xs) 0 (omega arith)) (first_prefix (channel_asked _ a) (omega arith));
          prefix_while_held = λ a b. let h = C.channels.prefix_while_held (channel_asked _ a) (connection_live _ b) in omega arith;
          stale_not_established = λ a b. C.channels.stale_not_established (connection_stale _ S.connection a) (channel_established _ S.channel b);
        }

    pub record_is : devices ≤ 8 → cells ≤ 64 → IsRecord devices cells xs
    record_is d c = record { few_devices = d; few_cells = c; valid = valid_is; fits = fits_is }

  -- The conditions are those of a record.
  conditions_of : IsRecord devices cells xs → Conditions devices cells xs
  conditions_of R = record {
    singles = is_singles devices cells xs size R;
    lengths = is_lengths devices cells xs size R;
    channels = are_channels devices cells xs size R;
    requests = are_requests devices cells xs size R;
    sheets = are_sheets devices cells xs size R;
    pending = are_pending devices cells xs size R;
    waiting = are_waiting devices cells xs size R;
    items = are_items devices cells xs size R;
  }

  pub conditions_decide : {r : Bool} → devices ≤ 8 → cells ≤ 64 → Decides r (Conditions devices cells xs) → Decides r (IsRecord devices cells xs)
  conditions_decide d c D = decides_iff D (λ C. record_is C d c) conditions_of
