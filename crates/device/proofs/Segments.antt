-- What `receive` makes of a record whose first item is a segment. Assumes nothing.
use mathlib.Core.Path.{◌≡◌, refl, ap, ◌∙◌}
use mathlib.Core.List.{List}
use mathlib.Core.Option.{Option, none, some}
use Prim.Native.Nat.{ℕ, ◌+◌, ◌<◌}
use native.Mathlib.Omega.{arith}
use lib.ListN.{length, get_or}
use Rattle.protocol.specs.Machine.{Item, segment, buffer, fine, gotten, receive_at, done}
use Rattle.sheet.specs.Sheet.{sheet}
use Rattle.words.specs.Layout.{ITEM, ITEM_NUMBERS, ITEM_PLACES, SEGMENT, WAITING_LENGTH, ITEMS_LENGTH, RECEIVED, ITEMS, RECORD}
use Rattle.words.specs.Place.{Out}
use Rattle.record.specs.Reading.{changes_at, given_at, item_at, received_at, device_of}
use Rattle.record.specs.Valid.{IsRecord}
use Rattle.record.specs.Did.{Did}
use Rattle.queues.specs.Items.{items_behind, joined_to, Joinable, HasItems, Receivable}
use Rattle.queues.specs.Parts.{item_entry, PutEntry, Requeued}
use Rattle.queues.proofs.Entries.{item_local}
use Rattle.queues.proofs.Items.{is_segment, is_empty, is_filled}
use Rattle.queues.proofs.Parts.{words_stay, waiting_stays}
use Rattle.device.proofs.Receives.{Buffered, first_item, first_beside, has_items, receive_done}

-- The first item, joined to the buffered one.
module _ (devices cells : ℕ) (xs : List ℕ) (R : IsRecord devices cells xs) (one : 0 < get_or xs ITEMS_LENGTH 0) (e : get_or xs ITEMS 0 ≡ SEGMENT) where
  pub buffer_empty : (ys : List ℕ) → get_or xs RECEIVED 0 ≡ 0 → PutEntry (item_entry devices cells) xs ys RECEIVED (item_at devices cells xs ITEMS) → PutEntry (item_entry devices cells) xs ys RECEIVED (joined_to (received_at devices cells xs RECEIVED) (item_at devices cells xs ITEMS))
  buffer_empty ys z W = rw (is_empty devices cells xs RECEIVED z) W

  pub joinable : 0 < get_or xs RECEIVED 0 → Joinable devices cells xs RECEIVED ITEMS
  joinable h = record { few_devices = R.few_devices; few_cells = R.few_cells; beside = first_beside devices cells xs R one; to_valid = R.valid.received h; is_segment = e }

  pub buffer_filled : (ys : List ℕ) → 0 < get_or xs RECEIVED 0 → PutEntry (item_entry devices cells) xs ys RECEIVED (joined_to (some (item_at devices cells xs RECEIVED)) (item_at devices cells xs ITEMS)) → PutEntry (item_entry devices cells) xs ys RECEIVED (joined_to (received_at devices cells xs RECEIVED) (item_at devices cells xs ITEMS))
  buffer_filled ys h W = rw (is_filled devices cells xs RECEIVED h) W

-- y has the segment in the receive buffer, joined to what was there.
module _ (devices cells : ℕ) (xs : List ℕ) (d : ℕ) (A : Receivable devices cells xs d) (e : get_or xs ITEMS 0 ≡ SEGMENT) (y : List ℕ) (len : length y ≡ RECORD) (W : PutEntry (item_entry devices cells) xs y RECEIVED (joined_to (received_at devices cells xs RECEIVED) (item_at devices cells xs ITEMS))) where
  item : Item sheet
  item = segment (changes_at cells xs (ITEMS + ITEM_PLACES)) (given_at devices xs (ITEMS + ITEM_NUMBERS))

  outside : (i : ℕ) → Out RECEIVED ITEM i → get_or y i 0 ≡ get_or xs i 0
  outside i out = W.kept i (λ u. let b = (item_local devices cells A.recorded.few_devices A.recorded.few_cells).within y RECEIVED i u in out b.0 b.1)

  segment_buffered : Buffered devices cells xs y (joined_to (received_at devices cells xs RECEIVED) item) (device_of devices cells xs).link.channel (device_of devices cells xs).link.waiting
  unfolding item
  segment_buffered = record {
    size = len;
    is = W.is ∙ ap (joined_to (received_at devices cells xs RECEIVED)) (is_segment devices cells xs ITEMS e);
    valid = W.valid;
    words = words_stay devices cells xs y A.recorded (λ i p q. outside i (λ u v. omega arith));
    waiting = waiting_stays devices cells xs y A.recorded (outside WAITING_LENGTH (λ p q. omega arith)) (λ i p q. outside i (λ u v. omega arith));
    outside = λ i a b p q. outside i p;
    kept = λ i k n m. W.kept i n;
  }

  pub segment_items : HasItems devices cells y
  segment_items = has_items devices cells xs y A.recorded _ _ _ segment_buffered A.one

  pub segment_received : (end : List ℕ) → length end ≡ RECORD → Requeued (item_entry devices cells) y end ITEMS_LENGTH ITEMS (items_behind devices cells y) → Did devices cells (receive_at sheet d) xs done end
  unfolding item
  segment_received end size P =
      receive_done devices cells xs y A.recorded _ _ _ segment_buffered end size P d
      (first_item devices cells xs A.recorded d item A.channel A.one (is_segment devices cells xs ITEMS e) ∙ step_is)
    where
      joins : (o : Option (Item sheet)) (i : Item sheet) → buffer sheet o i ≡ some (joined_to o i)
      joins none i = refl
      joins (some b) i = refl

      step_is : fine (gotten sheet (buffer sheet (device_of devices cells xs).received item) (device_of devices cells xs).link.channel (device_of devices cells xs).link.waiting (items_behind devices cells xs) (device_of devices cells xs)) ≡ fine (gotten sheet (some (joined_to (received_at devices cells xs RECEIVED) item)) (device_of devices cells xs).link.channel (device_of devices cells xs).link.waiting (items_behind devices cells xs) (device_of devices cells xs))
      step_is = ap (λ (o : Option (Item sheet)). fine (gotten sheet o (device_of devices cells xs).link.channel (device_of devices cells xs).link.waiting (items_behind devices cells xs) (device_of devices cells xs))) (unfold device_of in (joins (received_at devices cells xs RECEIVED) item))
