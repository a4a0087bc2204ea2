-- A record by its parts: what each says and that it is valid, and that an untouched part stays so. Assumes nothing.
use mathlib.Core.Path.{◌≡◌, refl, sym, ap, ◌∙◌}
use mathlib.Core.Bool.{Bool}
use mathlib.Core.List.{List}
use mathlib.Core.Option.{Option}
use Prim.Native.Nat.{ℕ, ◌*◌, ◌≤◌, ◌<◌}
use native.Mathlib.Omega.{arith}
use lib.ListN.{length, get_or}
use Rattle.cells.specs.declared.Cell.TheVariants.{Blank}
use Rattle.cells.specs.declared.Change.TheVariants.{Nothing}
use Rattle.protocol.specs.Machine.{answer_of, device_after, Device, Item, fine, Channel, Connection, done}
use Rattle.protocol.specs.Machine as machine
use Rattle.sheet.specs.Sheet.{sheet}
use Rattle.words.specs.Layout.{CELL, CHANGE, QUEUE, ROUND, ITEM, ESTABLISHED, STALE, LAST, TAKEN, CHANNEL, REQUEST, CONNECTION, COVERED, PENDING_LENGTH, WAITING_LENGTH, ITEMS_LENGTH, KNOWN, TRANSACTION, BUFFERED, RECEIVED, PENDING, WAITING, ITEMS, RECORD}
use Rattle.words.specs.Place.{Place, cell_place, change_place, Filled}
use Rattle.words.proofs.Places.{Local, Same, cell_local, change_local}
use Rattle.record.specs.Reading.{places_at, received_at, channel_of, connection_of, request_of, link_of, device_of}
use Rattle.record.specs.Valid.{InItem, InUse, ValidItem, ValidRecord, IsRecord}
use Rattle.record.proofs.Same.{places_same, places_valid, received_same, received_valid, in_item}
use Rattle.record.specs.Did.{Did}
use Rattle.queues.specs.Parts.{PlacesAre, QueueIs, round_entry, item_entry}
use Rattle.queues.proofs.Entries.{round_local, item_local, queue_kept}

-- The channel, the request and the connection.
pub record WordsAre (xs : List ℕ) (c : Channel) (r : Bool) (k : Connection) : Type 0 where
  pub channel : channel_of (get_or xs CHANNEL 0) ≡ c
  pub request : request_of (get_or xs REQUEST 0) ≡ r
  pub connection : connection_of (get_or xs CONNECTION 0) ≡ k
  pub channel_fits : get_or xs CHANNEL 0 ≤ ESTABLISHED
  pub request_fits : get_or xs REQUEST 0 ≤ 1
  pub connection_fits : get_or xs CONNECTION 0 ≤ STALE

pub record ReceivedIs (devices cells : ℕ) (xs : List ℕ) (v : Option (Item sheet)) : Type 0 where
  pub is : received_at devices cells xs RECEIVED ≡ v
  pub valid : 0 < get_or xs RECEIVED 0 → ValidItem devices cells xs RECEIVED

pub record Parts (devices cells : ℕ) (xs : List ℕ) (x : Device sheet) : Type 0 where
  pub size : length xs ≡ RECORD
  pub last : get_or xs LAST 0 ≡ x.last
  pub covered : get_or xs COVERED 0 ≡ x.covered
  pub words : WordsAre xs x.link.channel x.link.request x.link.connection
  pub known : PlacesAre cell_place Blank cells xs KNOWN x.known
  pub transaction : PlacesAre change_place Nothing cells xs TRANSACTION x.transaction
  pub buffered : PlacesAre change_place Nothing cells xs BUFFERED x.buffered
  pub received : ReceivedIs devices cells xs x.received
  pub pending : QueueIs (round_entry cells) xs PENDING_LENGTH PENDING x.pending
  pub waiting : QueueIs (round_entry cells) xs WAITING_LENGTH WAITING x.link.waiting
  pub items : QueueIs (item_entry devices cells) xs ITEMS_LENGTH ITEMS x.link.items

module _ (devices cells : ℕ) (xs : List ℕ) where
  pub parts_of : ValidRecord devices cells xs → Parts devices cells xs (device_of devices cells xs)
  unfolding device_of link_of
  parts_of ok = record {
    size = ok.size;
    last = refl;
    covered = refl;
    words = record { channel = refl; request = refl; connection = refl; channel_fits = ok.channel; request_fits = ok.request; connection_fits = ok.connection };
    known = record { is = refl; valid = ok.known };
    transaction = record { is = refl; valid = ok.transaction };
    buffered = record { is = refl; valid = ok.buffered };
    received = record { is = refl; valid = ok.received };
    pending = record { is = refl; few = ok.few_pending; valid = ok.pending };
    waiting = record { is = refl; few = ok.few_waiting; valid = ok.waiting };
    items = record { is = refl; few = ok.few_items; valid = ok.items };
  }

  module _ (x : Device sheet) (P : Parts devices cells xs x) where
    pub parts_say : device_of devices cells xs ≡ x
    unfolding device_of link_of
    parts_say = (λ i. record {
      known = P.known.is i;
      received = P.received.is i;
      pending = P.pending.is i;
      buffered = P.buffered.is i;
      covered = P.covered i;
      transaction = P.transaction.is i;
      last = P.last i;
      link = record { channel = P.words.channel i; request = P.words.request i; connection = P.words.connection i; waiting = P.waiting.is i; items = P.items.is i };
    })

    pub parts_valid : ValidRecord devices cells xs
    parts_valid = record {
      size = P.size;
      channel = P.words.channel_fits;
      request = P.words.request_fits;
      connection = P.words.connection_fits;
      few_pending = P.pending.few;
      few_waiting = P.waiting.few;
      few_items = P.items.few;
      known = P.known.valid;
      transaction = P.transaction.valid;
      buffered = P.buffered.valid;
      received = P.received.valid;
      pending = P.pending.valid;
      waiting = P.waiting.valid;
      items = P.items.valid;
    }

-- A step that is done: its device by its parts.
pub did_parts : (devices cells : ℕ) (f : Device sheet → machine.Local sheet) (xs ys : List ℕ) (y : Device sheet) → f (device_of devices cells xs) ≡ fine y → Parts devices cells ys y → get_or ys TAKEN 0 ≡ get_or xs TAKEN 0 → ((i : ℕ) → (InUse devices cells ys i → ⊥) → get_or ys i 0 ≡ get_or xs i 0) → Did devices cells f xs done ys
did_parts devices cells f xs ys y e P t k = record {
  answer = sym (ap (answer_of sheet) e);
  after = parts_say devices cells ys y P ∙ sym (ap (device_after sheet (device_of devices cells xs)) e);
  taken = t;
  valid = parts_valid devices cells ys y P;
  kept = k;
}

-- The single words are all in use.
pub past_singles : (devices cells : ℕ) (xs : List ℕ) (i : ℕ) → (InUse devices cells xs i → ⊥) → KNOWN ≤ i
past_singles devices cells xs i n = let s : i < KNOWN → ⊥ = λ l. n (InUse.single l) in omega arith

-- What a loop over places filled.
pub places_put : (P : Place) (past : P.Holds) (cells : ℕ) (xs ys : List ℕ) (o : ℕ) (f v : ℕ → P.Holds) → Filled P xs ys o cells f → places_at P past cells ys o ≡ v → PlacesAre P past cells ys o v
places_put P past cells xs ys o f v F e = record { is = e; valid = F.valid }

-- An untouched part.
pub places_kept : (P : Place) (L : Local P) (past : P.Holds) (cells : ℕ) (xs ys : List ℕ) (o : ℕ) (v : ℕ → P.Holds) → Same xs ys o (P.width * cells) → PlacesAre P past cells xs o v → PlacesAre P past cells ys o v
places_kept P L past cells xs ys o v S A = record { is = places_same P L cells xs ys o S past ∙ A.is; valid = places_valid P L cells xs ys o S A.valid }

pub words_kept : (xs ys : List ℕ) (c : Channel) (r : Bool) (k : Connection) → Same xs ys CHANNEL 3 → WordsAre xs c r k → WordsAre ys c r k
words_kept xs ys c r k S W =
    let a = S CHANNEL (omega arith) (omega arith) in
    let b = S REQUEST (omega arith) (omega arith) in
    let d = S CONNECTION (omega arith) (omega arith) in
    record {
      channel = ap channel_of a ∙ W.channel;
      request = ap request_of b ∙ W.request;
      connection = ap connection_of d ∙ W.connection;
      channel_fits = rw a W.channel_fits;
      request_fits = rw b W.request_fits;
      connection_fits = rw d W.connection_fits;
    }

pub received_kept : (devices cells : ℕ) → devices ≤ 8 → cells ≤ 64 → (xs ys : List ℕ) (v : Option (Item sheet)) → Same xs ys RECEIVED ITEM → ReceivedIs devices cells xs v → ReceivedIs devices cells ys v
received_kept devices cells d c xs ys v S A =
    record { is = received_same devices cells xs ys RECEIVED k s A.valid ∙ A.is; valid = received_valid devices cells xs ys RECEIVED k s A.valid }
  where
    k : get_or ys RECEIVED 0 ≡ get_or xs RECEIVED 0
    k = S RECEIVED (omega arith) (omega arith)

    s : 0 < get_or xs RECEIVED 0 → (i : ℕ) → InItem devices cells xs RECEIVED i → get_or ys i 0 ≡ get_or xs i 0
    s h i u = let b = in_item devices cells xs RECEIVED i d c u in S i b.0 b.1

-- The parts of a record that a step leaves alone.
module _ (devices cells : ℕ) (xs ys : List ℕ) (R : IsRecord devices cells xs) where
  before : Parts devices cells xs (device_of devices cells xs)
  before = parts_of devices cells xs R.valid

  pub last_stays : get_or ys LAST 0 ≡ get_or xs LAST 0 → get_or ys LAST 0 ≡ (device_of devices cells xs).last
  last_stays e = e ∙ before.last

  pub covered_stays : get_or ys COVERED 0 ≡ get_or xs COVERED 0 → get_or ys COVERED 0 ≡ (device_of devices cells xs).covered
  covered_stays e = e ∙ before.covered

  pub words_stay : Same xs ys CHANNEL 3 → WordsAre ys (device_of devices cells xs).link.channel (device_of devices cells xs).link.request (device_of devices cells xs).link.connection
  words_stay S = words_kept xs ys _ _ _ S before.words

  pub known_stays : Same xs ys KNOWN (CELL * cells) → PlacesAre cell_place Blank cells ys KNOWN (device_of devices cells xs).known
  known_stays S = places_kept cell_place cell_local Blank cells xs ys KNOWN _ S before.known

  pub transaction_stays : Same xs ys TRANSACTION (CHANGE * cells) → PlacesAre change_place Nothing cells ys TRANSACTION (device_of devices cells xs).transaction
  transaction_stays S = places_kept change_place change_local Nothing cells xs ys TRANSACTION _ S before.transaction

  pub buffered_stays : Same xs ys BUFFERED (CHANGE * cells) → PlacesAre change_place Nothing cells ys BUFFERED (device_of devices cells xs).buffered
  buffered_stays S = places_kept change_place change_local Nothing cells xs ys BUFFERED _ S before.buffered

  pub received_stays : Same xs ys RECEIVED ITEM → ReceivedIs devices cells ys (device_of devices cells xs).received
  received_stays S = received_kept devices cells R.few_devices R.few_cells xs ys _ S before.received

  pub pending_stays : get_or ys PENDING_LENGTH 0 ≡ get_or xs PENDING_LENGTH 0 → Same xs ys PENDING (ROUND * QUEUE) → QueueIs (round_entry cells) ys PENDING_LENGTH PENDING (device_of devices cells xs).pending
  pending_stays e S = queue_kept (round_entry cells) (round_local cells R.few_cells) xs ys PENDING_LENGTH PENDING _ e S before.pending

  pub waiting_stays : get_or ys WAITING_LENGTH 0 ≡ get_or xs WAITING_LENGTH 0 → Same xs ys WAITING (ROUND * QUEUE) → QueueIs (round_entry cells) ys WAITING_LENGTH WAITING (device_of devices cells xs).link.waiting
  waiting_stays e S = queue_kept (round_entry cells) (round_local cells R.few_cells) xs ys WAITING_LENGTH WAITING _ e S before.waiting

  pub items_stay : get_or ys ITEMS_LENGTH 0 ≡ get_or xs ITEMS_LENGTH 0 → Same xs ys ITEMS (ITEM * QUEUE) → QueueIs (item_entry devices cells) ys ITEMS_LENGTH ITEMS (device_of devices cells xs).link.items
  items_stay e S = queue_kept (item_entry devices cells) (item_local devices cells R.few_devices R.few_cells) xs ys ITEMS_LENGTH ITEMS _ e S before.items
