-- Document 01's device, read from the words of a record at the cell model. `devices` and `cells` are the table's numbers: what lies past
-- them is not read. Assumes nothing.
use Rattle.std.specs.Prelude.{Bool, true, false, List, [], ◌∷◌, ◌++◌, ℕ, zero, suc, ◌+◌, ◌*◌, ◌-◌, ltb, get_or}
use Rattle.std.proofs.Math.Option.{Option, none, some}
use Rattle.cells.specs.declared.Cell.{Cell}
use Rattle.cells.specs.declared.Cell.TheVariants.{Blank}
use Rattle.cells.specs.declared.Change.{Change}
use Rattle.cells.specs.declared.Change.TheVariants.{Nothing}
use Rattle.protocol.specs.Machine.{choose, Channel, off, asked, established, Connection, unheld, live, stale, Round, Item, prefix, segment, Link, Device}
use Rattle.sheet.specs.Sheet.{sheet}
use Rattle.words.specs.Layout.{ROUND, ROUND_CHANGES, ITEM, ITEM_NUMBERS, ITEM_PLACES, LAST, CHANNEL, REQUEST, CONNECTION, COVERED, PENDING_LENGTH, WAITING_LENGTH, ITEMS_LENGTH, KNOWN, TRANSACTION, BUFFERED, RECEIVED, PENDING, WAITING, ITEMS}
use Rattle.words.specs.Place.{Place, cell_place, change_place}

-- f below n, and from there on the given value.
abbrev pub below : {A : Type 0} → ℕ → (ℕ → A) → A → ℕ → A
below n f past c = choose (ltb c n) (f c) past

-- The places of the table's cells from o on; past them it is the given value.
unfoldable pub places_at : (P : Place) → P.Holds → (cells : ℕ) → List ℕ → ℕ → ℕ → P.Holds
places_at P past cells xs o = below cells (λ c. P.value_at xs (o + P.width * c)) past

-- A sheet: past the table's cells it is blank. A joined change: past them it is nothing.
abbrev pub sheet_at : (cells : ℕ) → List ℕ → ℕ → ℕ → Cell
sheet_at = places_at cell_place Blank

abbrev pub changes_at : (cells : ℕ) → List ℕ → ℕ → ℕ → Change
changes_at = places_at change_place Nothing

-- A queue of n entries.
unfoldable pub queue : {A : Type 0} → ℕ → (ℕ → A) → List A
queue zero f = []
queue (suc n) f = queue n f ++ (f n ∷ [])

unfoldable pub round_at : (cells : ℕ) → List ℕ → ℕ → Round sheet
round_at cells xs o = record { number = get_or xs o 0; delta = changes_at cells xs (o + ROUND_CHANGES) }

-- A prefix gives each device's number, stored as number + 1.
unfoldable pub numbers_at : (devices : ℕ) → List ℕ → ℕ → ℕ → ℕ
numbers_at devices xs o = below devices (λ d. get_or xs (o + d) 0 - 1) 0

-- A segment gives some devices' numbers: 0 gives none.
abbrev pub given_by : ℕ → Option ℕ
given_by zero = none
given_by (suc k) = some k

unfoldable pub given_at : (devices : ℕ) → List ℕ → ℕ → ℕ → Option ℕ
given_at devices xs o = below devices (λ d. given_by (get_or xs (o + d) 0)) none

-- The item from o on, of a kind.
abbrev pub item_of : (devices cells : ℕ) → ℕ → List ℕ → ℕ → Item sheet
item_of devices cells zero xs o = segment (changes_at cells xs (o + ITEM_PLACES)) (given_at devices xs (o + ITEM_NUMBERS))
item_of devices cells (suc zero) xs o = prefix (sheet_at cells xs (o + ITEM_PLACES)) (numbers_at devices xs (o + ITEM_NUMBERS))
item_of devices cells (suc (suc k)) xs o = segment (changes_at cells xs (o + ITEM_PLACES)) (given_at devices xs (o + ITEM_NUMBERS))

unfoldable pub item_at : (devices cells : ℕ) → List ℕ → ℕ → Item sheet
item_at devices cells xs o = item_of devices cells (get_or xs o 0) xs o

-- The receive buffer: of kind 0 it is empty.
abbrev pub buffer_of : ℕ → Item sheet → Option (Item sheet)
buffer_of zero i = none
buffer_of (suc k) i = some i

unfoldable pub received_at : (devices cells : ℕ) → List ℕ → ℕ → Option (Item sheet)
received_at devices cells xs o = buffer_of (get_or xs o 0) (item_at devices cells xs o)

abbrev pub channel_of : ℕ → Channel
channel_of zero = off
channel_of (suc zero) = asked
channel_of (suc (suc k)) = established

abbrev pub connection_of : ℕ → Connection
connection_of zero = unheld
connection_of (suc zero) = live
connection_of (suc (suc k)) = stale

abbrev pub request_of : ℕ → Bool
request_of zero = false
request_of (suc k) = true

-- The link of a record, and the device.
unfoldable pub link_of : (devices cells : ℕ) → List ℕ → Link sheet
link_of devices cells xs =
    record {
      channel = channel_of (get_or xs CHANNEL 0);
      request = request_of (get_or xs REQUEST 0);
      connection = connection_of (get_or xs CONNECTION 0);
      waiting = queue (get_or xs WAITING_LENGTH 0) (λ j. round_at cells xs (WAITING + ROUND * j));
      items = queue (get_or xs ITEMS_LENGTH 0) (λ j. item_at devices cells xs (ITEMS + ITEM * j));
    }

unfoldable pub device_of : (devices cells : ℕ) → List ℕ → Device sheet
device_of devices cells xs =
    record {
      known = sheet_at cells xs KNOWN;
      received = received_at devices cells xs RECEIVED;
      pending = queue (get_or xs PENDING_LENGTH 0) (λ j. round_at cells xs (PENDING + ROUND * j));
      buffered = changes_at cells xs BUFFERED;
      covered = get_or xs COVERED 0;
      transaction = changes_at cells xs TRANSACTION;
      last = get_or xs LAST 0;
      link = link_of devices cells xs;
    }
