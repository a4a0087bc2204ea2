-- What `receive` makes of a record, whichever item it takes. Assumes nothing.
use mathlib.Core.Path.{◌≡◌, refl, sym, ap, ◌∙◌}
use mathlib.Core.List.{List, ◌∷◌}
use mathlib.Core.Option.{some}
use Prim.Native.Nat.{ℕ, zero, suc, ◌+◌, ◌*◌, ◌≤◌, ◌<◌}
use native.Mathlib.Omega.{arith}
use lib.ListN.{length, get_or, drop}
use Rattle.protocol.specs.declared.Refusal.TheVariants.{NoChannel, NoItem}
use Rattle.protocol.specs.Machine.{Channel, Item, Round, fine, gotten, take_first, receive_at, done, refused}
use Rattle.sheet.specs.Sheet.{sheet}
use Rattle.words.specs.Layout.{CHANGE, QUEUE, ROUND, ROUND_CHANGES, ITEM, LAST, TAKEN, CHANNEL, COVERED, PENDING_LENGTH, WAITING_LENGTH, ITEMS_LENGTH, KNOWN, RECEIVED, PENDING, WAITING, ITEMS, RECORD}
use Rattle.words.specs.Place.{Out}
use Rattle.record.specs.Reading.{queue, item_at, link_of, device_of}
use Rattle.record.specs.Valid.{InItem, InUse, ValidItem, IsRecord}
use Rattle.record.proofs.Meanings.{empty_queue}
use Rattle.record.proofs.Queues.{queue_first}
use Rattle.record.specs.Did.{Did}
use Rattle.queues.specs.Items.{items_of, items_behind, HasItems}
use Rattle.queues.specs.Parts.{round_entry, item_entry, EntryBeside, QueueIs, Requeued}
use Rattle.queues.proofs.Entries.{round_local, item_local, queue_kept, requeued_outside}
use Rattle.queues.proofs.Items.{is_filled}
use Rattle.queues.proofs.Parts.{Parts, WordsAre, ReceivedIs, did_parts, past_singles, last_stays, covered_stays, words_kept, known_stays, transaction_stays, buffered_stays, received_kept, pending_stays, items_stay}
use Rattle.record.proofs.Steps.{told}
use Rattle.record.proofs.Same.{in_item_same}

-- A queue by its first entry.
first_of : {A : Type 0} (n : ℕ) (f : ℕ → A) → 0 < n → queue n f ≡ f 0 ∷ drop 1 (queue n f)
first_of zero f h = absurd (omega arith)
first_of (suc n) f h = let e = queue_first n f in e ∙ ap (λ q. f 0 ∷ drop 1 q) (sym e)

module _ (devices cells : ℕ) (xs : List ℕ) (R : IsRecord devices cells xs) (d : ℕ) where
  pub receive_no_channel : get_or xs CHANNEL 0 ≡ 0 → Did devices cells (receive_at sheet d) xs (refused NoChannel) xs
  unfolding receive_at device_of link_of
  receive_no_channel e = told devices cells (receive_at sheet d) xs (refused NoChannel) R (rw e refl)

  -- with a channel it is what the first item makes
  on_channel : (get_or xs CHANNEL 0 ≡ 0 → ⊥) → receive_at sheet d (device_of devices cells xs) ≡ take_first sheet d (items_of devices cells xs) (device_of devices cells xs)
  unfolding receive_at device_of link_of
  on_channel n = go (get_or xs CHANNEL 0) n refl
    where
      go : (k : ℕ) → (k ≡ 0 → ⊥) → get_or xs CHANNEL 0 ≡ k → receive_at sheet d (device_of devices cells xs) ≡ take_first sheet d (items_of devices cells xs) (device_of devices cells xs)
      go zero m e = absurd (m refl)
      go (suc zero) m e = rw e refl
      go (suc (suc k)) m e = rw e refl

  pub receive_no_item : (get_or xs CHANNEL 0 ≡ 0 → ⊥) → get_or xs ITEMS_LENGTH 0 ≡ 0 → Did devices cells (receive_at sheet d) xs (refused NoItem) xs
  receive_no_item n e = told devices cells (receive_at sheet d) xs (refused NoItem) R (on_channel n ∙ ap (λ (q : List (Item sheet)). take_first sheet d q (device_of devices cells xs)) (empty_queue (get_or xs ITEMS_LENGTH 0) _ e))

  pub first_item : (i : Item sheet) → (get_or xs CHANNEL 0 ≡ 0 → ⊥) → 0 < get_or xs ITEMS_LENGTH 0 → item_at devices cells xs ITEMS ≡ i → receive_at sheet d (device_of devices cells xs) ≡ take_first sheet d (i ∷ items_behind devices cells xs) (device_of devices cells xs)
  first_item i n h e =
      on_channel n
      ∙ ap (λ (q : List (Item sheet)). take_first sheet d q (device_of devices cells xs)) (first_of (get_or xs ITEMS_LENGTH 0) (λ j. item_at devices cells xs (ITEMS + ITEM * j)) h ∙ ap (λ (a : Item sheet). a ∷ items_behind devices cells xs) e)

-- The first item can be stored in the receive buffer.
pub first_beside : (devices cells : ℕ) (xs : List ℕ) → IsRecord devices cells xs → 0 < get_or xs ITEMS_LENGTH 0 → EntryBeside (item_entry devices cells) xs RECEIVED ITEMS
first_beside devices cells xs R h = record { to_fits = omega (arith, R.valid.size); from_fits = omega (arith, R.valid.size); from_valid = R.valid.items 0 h; apart = λ i p q u v. omega arith }

-- y has the item v in the receive buffer, and its channel and waiting rounds; `end` has the first item taken out.
pub record Buffered (devices cells : ℕ) (xs y : List ℕ) (v : Item sheet) (c : Channel) (w : List (Round sheet)) : Type 0 where
  pub size : length y ≡ RECORD
  pub is : item_at devices cells y RECEIVED ≡ v
  pub valid : ValidItem devices cells y RECEIVED
  pub words : WordsAre y c (device_of devices cells xs).link.request (device_of devices cells xs).link.connection
  pub waiting : QueueIs (round_entry cells) y WAITING_LENGTH WAITING w
  pub outside : (i : ℕ) → (i ≡ CHANNEL → ⊥) → (i ≡ WAITING_LENGTH → ⊥) → Out RECEIVED ITEM i → Out WAITING (ROUND * QUEUE) i → get_or y i 0 ≡ get_or xs i 0
  pub kept : (i : ℕ) → KNOWN ≤ i → (InItem devices cells y RECEIVED i → ⊥) → ((j : ℕ) → j < get_or y WAITING_LENGTH 0 → WAITING + ROUND * j ≤ i → i < WAITING + ROUND * j + ROUND_CHANGES + CHANGE * cells → ⊥) → get_or y i 0 ≡ get_or xs i 0

module _ (devices cells : ℕ) (xs y : List ℕ) (R : IsRecord devices cells xs) (v : Item sheet) (c : Channel) (w : List (Round sheet)) (B : Buffered devices cells xs y v c w) where
  few : cells ≤ 64
  few = R.few_cells

  items_y : QueueIs (item_entry devices cells) y ITEMS_LENGTH ITEMS (device_of devices cells xs).link.items
  items_y = items_stay devices cells xs y R (B.outside ITEMS_LENGTH (λ e. omega arith) (λ e. omega arith) (λ p q. omega arith) (λ p q. omega arith)) (λ i p q. B.outside i (λ e. omega arith) (λ e. omega arith) (λ u v. omega arith) (λ u v. omega arith))

  pub has_items : 0 < get_or xs ITEMS_LENGTH 0 → HasItems devices cells y
  has_items h = record {
    size = B.size;
    few_devices = R.few_devices;
    few_cells = few;
    few = items_y.few;
    one = omega (arith, B.outside ITEMS_LENGTH (λ e. omega arith) (λ e. omega arith) (λ p q. omega arith) (λ p q. omega arith));
    items = items_y.valid;
  }

  module _ (end : List ℕ) (len : length end ≡ RECORD) (Q : Requeued (item_entry devices cells) y end ITEMS_LENGTH ITEMS (items_behind devices cells y)) where
    popped : (i : ℕ) → (i ≡ ITEMS_LENGTH → ⊥) → i < ITEMS → get_or end i 0 ≡ get_or y i 0
    popped i n h = requeued_outside (item_entry devices cells) (item_local devices cells R.few_devices few) y end ITEMS_LENGTH ITEMS _ Q i n (λ p q. omega arith)

    -- the receive buffer, the channel, what waits and the items apart, all stays
    keep : (i : ℕ) → (i ≡ CHANNEL → ⊥) → (i ≡ WAITING_LENGTH → ⊥) → (i ≡ ITEMS_LENGTH → ⊥) → (RECEIVED ≤ i → PENDING ≤ i) → i < WAITING → get_or end i 0 ≡ get_or xs i 0
    keep i a b e f l = popped i e (omega arith) ∙ B.outside i a b (λ p q. omega (arith, f p)) (λ p q. omega arith)

    early : (i : ℕ) → KNOWN ≤ i → i < RECEIVED → get_or end i 0 ≡ get_or xs i 0
    early i h l = keep i (λ e. omega arith) (λ e. omega arith) (λ e. omega arith) (λ p. omega arith) (omega arith)

    single : (i : ℕ) → i < KNOWN → (i ≡ CHANNEL → ⊥) → (i ≡ WAITING_LENGTH → ⊥) → (i ≡ ITEMS_LENGTH → ⊥) → get_or end i 0 ≡ get_or xs i 0
    single i l a b e = keep i a b e (λ p. omega arith) (omega arith)

    received_y : ReceivedIs devices cells y (some v)
    received_y = record { is = is_filled devices cells y RECEIVED (omega (arith, B.valid.kind_from_1)) ∙ ap some B.is; valid = λ h. B.valid }

    parts : Parts devices cells end (gotten sheet (some v) c w (items_behind devices cells xs) (device_of devices cells xs))
    parts = record {
      size = len;
      last = last_stays devices cells xs end R (single LAST (omega arith) (λ e. omega arith) (λ e. omega arith) (λ e. omega arith));
      covered = covered_stays devices cells xs end R (single COVERED (omega arith) (λ e. omega arith) (λ e. omega arith) (λ e. omega arith));
      words = words_kept y end _ _ _ (λ i p q. popped i (λ e. omega arith) (omega arith)) B.words;
      known = known_stays devices cells xs end R (λ i p q. early i p (omega (arith, few)));
      transaction = transaction_stays devices cells xs end R (λ i p q. early i (omega arith) (omega (arith, few)));
      buffered = buffered_stays devices cells xs end R (λ i p q. early i (omega arith) (omega (arith, few)));
      received = received_kept devices cells R.few_devices few y end _ (λ i p q. popped i (λ e. omega arith) (omega arith)) received_y;
      pending = pending_stays devices cells xs end R (single PENDING_LENGTH (omega arith) (λ e. omega arith) (λ e. omega arith) (λ e. omega arith)) (λ i p q. keep i (λ e. omega arith) (λ e. omega arith) (λ e. omega arith) (λ u. p) (omega arith));
      waiting = queue_kept (round_entry cells) (round_local cells few) y end WAITING_LENGTH WAITING _ (popped WAITING_LENGTH (λ e. omega arith) (omega arith)) (λ i p q. popped i (λ e. omega arith) (omega arith)) B.waiting;
      items = unfold device_of link_of in (rw items_y.is at Q.now_is);
    }

    kept_is : (i : ℕ) → (InUse devices cells end i → ⊥) → get_or end i 0 ≡ get_or xs i 0
    kept_is i n =
        let k = past_singles devices cells end i n in
        let r = popped RECEIVED (λ e. omega arith) (omega arith) in
        let l = popped WAITING_LENGTH (λ e. omega arith) (omega arith) in
        Q.kept i (λ e. omega arith) (λ j h u. n (InUse.items j h u))
        ∙ B.kept i k (λ u. n (InUse.received (omega (arith, B.valid.kind_from_1)) (in_item_same devices cells y end RECEIVED r i u))) (λ j h p q. n (InUse.waiting j (omega arith) p q))

    pub receive_done : (d : ℕ) → receive_at sheet d (device_of devices cells xs) ≡ fine (gotten sheet (some v) c w (items_behind devices cells xs) (device_of devices cells xs)) → Did devices cells (receive_at sheet d) xs done end
    receive_done d e = did_parts devices cells (receive_at sheet d) xs end _ e parts (single TAKEN (omega arith) (λ e. omega arith) (λ e. omega arith) (λ e. omega arith)) kept_is
