-- Document 01's items, in "a receive buffer of at most one item" and in the queue, as they lie in a record. Assumes nothing.
use Rattle.std.specs.Prelude.{◌≡◌, List, ℕ, ◌+◌, ◌*◌, ◌≤◌, ◌<◌, length, get_or, drop}
use Rattle.std.proofs.Math.Option.{Option, none, some}
use Rattle.protocol.specs.Machine.{Item, join_item}
use Rattle.sheet.specs.Sheet.{sheet}
use Rattle.words.specs.Layout.{MOST_DEVICES, MOST_CELLS, QUEUE, ITEM, SEGMENT, CHANNEL, ITEMS_LENGTH, ITEMS, RECORD}
use Rattle.record.specs.Reading.{queue, item_at}
use Rattle.record.specs.Valid.{ValidItem, IsRecord}
use Rattle.queues.specs.Parts.{item_entry, EntryBeside}

-- The items of a record, and those behind the first.
abbrev pub items_of : (devices cells : ℕ) → List ℕ → List (Item sheet)
items_of devices cells xs = queue (get_or xs ITEMS_LENGTH 0) (λ j. item_at devices cells xs (ITEMS + ITEM * j))

abbrev pub items_behind : (devices cells : ℕ) → List ℕ → List (Item sheet)
items_behind devices cells xs = drop 1 (items_of devices cells xs)

-- A later item, joined to what is buffered.
abbrev pub joined_to : Option (Item sheet) → Item sheet → Item sheet
joined_to none i = i
joined_to (some b) i = join_item sheet b i

-- What joining the segment from `from` on to the item from `to` on asks.
pub record Joinable (devices cells : ℕ) (xs : List ℕ) (to from : ℕ) : Type 0 where
  pub few_devices : devices ≤ MOST_DEVICES
  pub few_cells : cells ≤ MOST_CELLS
  pub beside : EntryBeside (item_entry devices cells) xs to from
  pub to_valid : ValidItem devices cells xs to
  pub is_segment : get_or xs from 0 ≡ SEGMENT

-- A record has an item.
pub record HasItems (devices cells : ℕ) (xs : List ℕ) : Type 0 where
  pub size : length xs ≡ RECORD
  pub few_devices : devices ≤ MOST_DEVICES
  pub few_cells : cells ≤ MOST_CELLS
  pub few : get_or xs ITEMS_LENGTH 0 ≤ QUEUE
  pub one : 0 < get_or xs ITEMS_LENGTH 0
  pub items : (j : ℕ) → j < get_or xs ITEMS_LENGTH 0 → ValidItem devices cells xs (ITEMS + ITEM * j)

-- A device's record with a channel and an item on it.
pub record Receivable (devices cells : ℕ) (xs : List ℕ) (d : ℕ) : Type 0 where
  pub recorded : IsRecord devices cells xs
  pub device : d < devices
  pub channel : get_or xs CHANNEL 0 ≡ 0 → ⊥
  pub one : 0 < get_or xs ITEMS_LENGTH 0
