-- The words in use are all that a record's reading depends on. Assumes nothing.
use mathlib.Core.Path.{◌≡◌, sym, ap, ◌∙◌}
use mathlib.Core.List.{List}
use Prim.Native.Nat.{ℕ, ◌+◌, ◌*◌, ◌<◌}
use native.Mathlib.Omega.{arith}
use lib.ListN.{length, get_or}
use Rattle.cells.specs.declared.Cell.TheVariants.{Blank}
use Rattle.cells.specs.declared.Change.TheVariants.{Nothing}
use Rattle.words.specs.Layout.{ROUND, ITEM, LAST, CHANNEL, REQUEST, CONNECTION, COVERED, PENDING_LENGTH, WAITING_LENGTH, ITEMS_LENGTH, KNOWN, TRANSACTION, BUFFERED, RECEIVED, PENDING, WAITING, ITEMS, RECORD}
use Rattle.words.specs.Place.{cell_place, change_place}
use Rattle.words.proofs.Places.{cell_local, change_local}
use Rattle.record.specs.Reading.{queue, round_at, item_at, channel_of, connection_of, request_of, link_of, device_of}
use Rattle.record.specs.Valid.{InItem, InUse, ValidRecord}
use Rattle.record.proofs.Same.{places_same, places_valid, rounds_same, rounds_valid, items_same, items_valid, received_same, received_valid, in_item_same}

module _ (devices cells : ℕ) (xs ys : List ℕ) (S : (i : ℕ) → InUse devices cells xs i → get_or ys i 0 ≡ get_or xs i 0) where
  single : (i : ℕ) → i < KNOWN → get_or ys i 0 ≡ get_or xs i 0
  single i h = S i (InUse.single h)

  -- the words that are in use are the same words
  pub in_use_back : (i : ℕ) → InUse devices cells ys i → InUse devices cells xs i
  in_use_back i (InUse.single h) = InUse.single h
  in_use_back i (InUse.known l h) = InUse.known l h
  in_use_back i (InUse.transaction l h) = InUse.transaction l h
  in_use_back i (InUse.buffered l h) = InUse.buffered l h
  in_use_back i InUse.buffer_kind = InUse.buffer_kind
  in_use_back i (InUse.received h u) = let k = S RECEIVED InUse.buffer_kind in InUse.received (omega arith) (in_item_same devices cells ys xs RECEIVED (sym k) i u)
  in_use_back i (InUse.pending j h l b) = let n = single PENDING_LENGTH (omega arith) in InUse.pending j (omega arith) l b
  in_use_back i (InUse.waiting j h l b) = let n = single WAITING_LENGTH (omega arith) in InUse.waiting j (omega arith) l b
  in_use_back i (InUse.items j h u) =
      let n = single ITEMS_LENGTH (omega arith) in
      let b : j < get_or xs ITEMS_LENGTH 0 = omega arith in
      InUse.items j b (in_item_same devices cells ys xs (ITEMS + ITEM * j) (sym (S (ITEMS + ITEM * j) (InUse.items j b InItem.kind))) i u)

  module _ (X : ValidRecord devices cells xs) where
    pub same_link : link_of devices cells ys ≡ link_of devices cells xs
    unfolding link_of
    same_link = (λ i. record {
      channel = channel_of (single CHANNEL (omega arith) i);
      request = request_of (single REQUEST (omega arith) i);
      connection = connection_of (single CONNECTION (omega arith) i);
      waiting = (ap (λ (n : ℕ). queue n (λ j. round_at cells ys (WAITING + ROUND * j))) (single WAITING_LENGTH (omega arith)) ∙ rounds_same cells xs ys WAITING (get_or xs WAITING_LENGTH 0) (λ j h k l b. S k (InUse.waiting j h l (omega arith)))) i;
      items = (ap (λ (n : ℕ). queue n (λ j. item_at devices cells ys (ITEMS + ITEM * j))) (single ITEMS_LENGTH (omega arith)) ∙ items_same devices cells xs ys ITEMS (get_or xs ITEMS_LENGTH 0) (λ j h k u. S k (InUse.items j h u)) X.items) i;
    })

    pub same_device : device_of devices cells ys ≡ device_of devices cells xs
    unfolding device_of
    same_device = (λ i. record {
      known = places_same cell_place cell_local cells xs ys KNOWN (λ k l b. S k (InUse.known l b)) Blank i;
      received = received_same devices cells xs ys RECEIVED (S RECEIVED InUse.buffer_kind) (λ h k u. S k (InUse.received h u)) X.received i;
      pending = (ap (λ (n : ℕ). queue n (λ j. round_at cells ys (PENDING + ROUND * j))) (single PENDING_LENGTH (omega arith)) ∙ rounds_same cells xs ys PENDING (get_or xs PENDING_LENGTH 0) (λ j h k l b. S k (InUse.pending j h l (omega arith)))) i;
      buffered = places_same change_place change_local cells xs ys BUFFERED (λ k l b. S k (InUse.buffered l b)) Nothing i;
      covered = single COVERED (omega arith) i;
      transaction = places_same change_place change_local cells xs ys TRANSACTION (λ k l b. S k (InUse.transaction l b)) Nothing i;
      last = single LAST (omega arith) i;
      link = same_link i;
    })

    pub same_valid : length ys ≡ RECORD → ValidRecord devices cells ys
    same_valid size =
        let p = single PENDING_LENGTH (omega arith) in
        let w = single WAITING_LENGTH (omega arith) in
        let n = single ITEMS_LENGTH (omega arith) in
        record {
          size = size;
          channel = rw (single CHANNEL (omega arith)) X.channel;
          request = rw (single REQUEST (omega arith)) X.request;
          connection = rw (single CONNECTION (omega arith)) X.connection;
          few_pending = rw p X.few_pending;
          few_waiting = rw w X.few_waiting;
          few_items = rw n X.few_items;
          known = places_valid cell_place cell_local cells xs ys KNOWN (λ k l b. S k (InUse.known l b)) X.known;
          transaction = places_valid change_place change_local cells xs ys TRANSACTION (λ k l b. S k (InUse.transaction l b)) X.transaction;
          buffered = places_valid change_place change_local cells xs ys BUFFERED (λ k l b. S k (InUse.buffered l b)) X.buffered;
          received = received_valid devices cells xs ys RECEIVED (S RECEIVED InUse.buffer_kind) (λ h k u. S k (InUse.received h u)) X.received;
          pending = λ j h. rounds_valid cells xs ys PENDING (get_or xs PENDING_LENGTH 0) (λ j h k l b. S k (InUse.pending j h l (omega arith))) X.pending j (omega arith);
          waiting = λ j h. rounds_valid cells xs ys WAITING (get_or xs WAITING_LENGTH 0) (λ j h k l b. S k (InUse.waiting j h l (omega arith))) X.waiting j (omega arith);
          items = λ j h. items_valid devices cells xs ys ITEMS (get_or xs ITEMS_LENGTH 0) (λ j h k u. S k (InUse.items j h u)) X.items j (omega arith);
        }
