-- What `receive` makes of a record whose first item is a prefix. Assumes nothing.
use mathlib.Core.Path.{◌≡◌, refl, ap, ◌∙◌}
use mathlib.Core.List.{List}
use Prim.Native.Nat.{ℕ, ◌+◌, ◌*◌, ◌-◌, ◌≤◌}
use native.Mathlib.Omega.{arith}
use lib.ListN.{length, get_or, set, length-set}
use borrow.Author.Tests.{lt-ltb}
use Rattle.protocol.specs.Machine.{prefix, established, above, receive_at, done}
use Rattle.sheet.specs.Sheet.{sheet}
use Rattle.words.specs.Layout.{QUEUE, ROUND, ITEM, ITEM_NUMBERS, ITEM_PLACES, PREFIX, ESTABLISHED, CHANNEL, REQUEST, CONNECTION, PENDING_LENGTH, WAITING_LENGTH, ITEMS_LENGTH, RECEIVED, PENDING, WAITING, ITEMS, RECORD}
use Rattle.words.specs.Place.{Out}
use Rattle.words.proofs.Places.{set_kept, set_new}
use Rattle.record.specs.Reading.{sheet_at, numbers_at, item_at, channel_of, request_of, connection_of, link_of, device_of}
use Rattle.record.specs.Valid.{InItem}
use Rattle.record.specs.Did.{Did}
use Rattle.queues.specs.Items.{items_behind, HasItems, Receivable}
use Rattle.queues.specs.Parts.{round_entry, item_entry, PutEntry, QueueIs, Requeued}
use Rattle.queues.specs.Rounds.{rounds_of, HasPending}
use Rattle.queues.proofs.Entries.{round_local, item_local, queue_kept, requeued_outside}
use Rattle.queues.proofs.Items.{prefix_is}
use Rattle.queues.proofs.Parts.{WordsAre, pending_stays}
use Rattle.device.proofs.Receives.{Buffered, first_item, has_items, receive_done}

module _ (devices cells : ℕ) (xs : List ℕ) (d : ℕ) (A : Receivable devices cells xs d) (e : get_or xs ITEMS 0 ≡ PREFIX) where
  pub word_given : 1 ≤ get_or xs (ITEMS + ITEM_NUMBERS + d) 0
  word_given = (A.recorded.valid.items 0 A.one).prefix_numbers e d A.device

  -- y1 has the prefix in the receive buffer
  module _ (y1 : List ℕ) (len1 : length y1 ≡ RECORD) (W : PutEntry (item_entry devices cells) xs y1 RECEIVED (item_at devices cells xs ITEMS)) where
    few : cells ≤ 64
    few = A.recorded.few_cells

    outside1 : (i : ℕ) → Out RECEIVED ITEM i → get_or y1 i 0 ≡ get_or xs i 0
    outside1 i out = W.kept i (λ u. let b = (item_local devices cells A.recorded.few_devices few).within y1 RECEIVED i u in out b.0 b.1)

    pending1 : QueueIs (round_entry cells) y1 PENDING_LENGTH PENDING (device_of devices cells xs).pending
    pending1 = pending_stays devices cells xs y1 A.recorded (outside1 PENDING_LENGTH (λ p q. omega arith)) (λ i p q. outside1 i (λ u v. omega arith))

    pub has_pending : HasPending cells y1
    has_pending = record { size = len1; few_cells = few; few = pending1.few; rounds = pending1.valid }

    -- y2 has the pending rounds above its number waiting
    module _ (y2 : List ℕ) (len2 : length y2 ≡ RECORD) (Q : Requeued (round_entry cells) y1 y2 WAITING_LENGTH WAITING (above sheet (get_or xs (ITEMS + ITEM_NUMBERS + d) 0 - 1) (rounds_of cells y1 PENDING_LENGTH PENDING))) where
      y : List ℕ
      y = set y2 CHANNEL ESTABLISHED

      from_y2 : (i : ℕ) → (i ≡ CHANNEL → ⊥) → get_or y i 0 ≡ get_or y2 i 0
      unfolding y
      from_y2 i n = set_kept y2 CHANNEL ESTABLISHED i n

      outside2 : (i : ℕ) → (i ≡ WAITING_LENGTH → ⊥) → Out WAITING (ROUND * QUEUE) i → get_or y2 i 0 ≡ get_or y1 i 0
      outside2 = requeued_outside (round_entry cells) (round_local cells few) y1 y2 WAITING_LENGTH WAITING _ Q

      keep : (i : ℕ) → (i ≡ CHANNEL → ⊥) → (i ≡ WAITING_LENGTH → ⊥) → Out RECEIVED ITEM i → Out WAITING (ROUND * QUEUE) i → get_or y i 0 ≡ get_or xs i 0
      keep i a b p q = from_y2 i a ∙ outside2 i b q ∙ outside1 i p

      -- the buffered item stays while rounds are put to wait
      item_stays : (i : ℕ) → InItem devices cells y1 RECEIVED i → get_or y i 0 ≡ get_or y1 i 0
      item_stays i u =
          let b = (item_local devices cells A.recorded.few_devices few).within y1 RECEIVED i u in
          from_y2 i (λ e. omega arith) ∙ outside2 i (λ e. omega arith) (λ p q. omega arith)

      words_are : WordsAre y established (device_of devices cells xs).link.request (device_of devices cells xs).link.connection
      unfolding device_of link_of
      words_are =
          let c : get_or y CHANNEL 0 ≡ ESTABLISHED = unfold y in (set_new y2 CHANNEL ESTABLISHED (omega (arith, len2))) in
          let r = keep REQUEST (λ e. omega arith) (λ e. omega arith) (λ p q. omega arith) (λ p q. omega arith) in
          let k = keep CONNECTION (λ e. omega arith) (λ e. omega arith) (λ p q. omega arith) (λ p q. omega arith) in
          record {
            channel = ap channel_of c;
            request = ap request_of r;
            connection = ap connection_of k;
            channel_fits = rw c (omega arith);
            request_fits = rw r A.recorded.valid.request;
            connection_fits = rw k A.recorded.valid.connection;
          }

      number_is : get_or xs (ITEMS + ITEM_NUMBERS + d) 0 - 1 ≡ numbers_at devices xs (ITEMS + ITEM_NUMBERS) d
      unfolding numbers_at
      number_is = rw (lt-ltb d devices A.device) refl

      waiting_is : QueueIs (round_entry cells) y WAITING_LENGTH WAITING (above sheet (numbers_at devices xs (ITEMS + ITEM_NUMBERS) d) (device_of devices cells xs).pending)
      waiting_is =
          queue_kept (round_entry cells) (round_local cells few) y2 y WAITING_LENGTH WAITING _ (from_y2 WAITING_LENGTH (λ e. omega arith)) (λ i p q. from_y2 i (λ e. omega arith))
          (rw (number_is, pending1.is) at Q.now_is)

      prefix_buffered : Buffered devices cells xs (set y2 CHANNEL ESTABLISHED) (prefix (sheet_at cells xs (ITEMS + ITEM_PLACES)) (numbers_at devices xs (ITEMS + ITEM_NUMBERS))) established (above sheet (numbers_at devices xs (ITEMS + ITEM_NUMBERS) d) (device_of devices cells xs).pending)
      unfolding y
      prefix_buffered =
          let L = item_local devices cells A.recorded.few_devices few in
          record {
            size = simp length-set len2;
            is = L.value_same y1 y RECEIVED W.valid item_stays ∙ W.is ∙ prefix_is devices cells xs ITEMS e;
            valid = L.valid_same y1 y RECEIVED W.valid item_stays;
            words = words_are;
            waiting = waiting_is;
            outside = keep;
            kept = λ i k n m.
                from_y2 i (λ e. omega arith)
                ∙ Q.kept i (λ e. omega arith) (λ j h u. m j (omega (arith, from_y2 WAITING_LENGTH (λ e. omega arith))) u.0 u.1)
                ∙ W.kept i (λ u. n (L.uses_same y1 y RECEIVED item_stays i u));
          }

      pub prefix_items : HasItems devices cells (set y2 CHANNEL ESTABLISHED)
      prefix_items = has_items devices cells xs (set y2 CHANNEL ESTABLISHED) A.recorded _ _ _ prefix_buffered A.one

      pub prefix_received : (end : List ℕ) → length end ≡ RECORD → Requeued (item_entry devices cells) (set y2 CHANNEL ESTABLISHED) end ITEMS_LENGTH ITEMS (items_behind devices cells (set y2 CHANNEL ESTABLISHED)) → Did devices cells (receive_at sheet d) xs done end
      prefix_received end len P = receive_done devices cells xs (set y2 CHANNEL ESTABLISHED) A.recorded _ _ _ prefix_buffered end len P d (first_item devices cells xs A.recorded d _ A.channel A.one (prefix_is devices cells xs ITEMS e))
