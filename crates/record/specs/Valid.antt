-- Document 01's "Contents are a table" for the words of one device: which are in use, which are valid, and which records are a table's.
-- Assumes nothing.
use Rattle.std.specs.Prelude.{◌≡◌, List, ℕ, ◌+◌, ◌*◌, ◌≤◌, ◌<◌, length, get_or}
use Rattle.protocol.specs.Fits.{FitsDevice}
use Rattle.sheet.specs.Sheet.{sheet}
use Rattle.words.specs.Layout.{MOST_DEVICES, MOST_CELLS, CELL, CHANGE, QUEUE, ROUND, ROUND_CHANGES, ITEM, ITEM_NUMBERS, ITEM_PLACES, PREFIX, SEGMENT, ESTABLISHED, STALE, TAKEN, CHANNEL, REQUEST, CONNECTION, PENDING_LENGTH, WAITING_LENGTH, ITEMS_LENGTH, KNOWN, TRANSACTION, BUFFERED, RECEIVED, PENDING, WAITING, ITEMS, RECORD}
use Rattle.words.specs.Place.{cell_place, change_place, Valid}
use Rattle.record.specs.Reading.{device_of}

-- The words of an item from o on that are in use: its kind, the numbers of the table's devices, the places of the table's cells.
pub data InItem (devices cells : ℕ) (xs : List ℕ) (o : ℕ) : ℕ → Type 0 where
  kind : InItem devices cells xs o o
  number : {i : ℕ} → o + ITEM_NUMBERS ≤ i → i < o + ITEM_NUMBERS + devices → InItem devices cells xs o i
  cell : {i : ℕ} → get_or xs o 0 ≡ PREFIX → o + ITEM_PLACES ≤ i → i < o + ITEM_PLACES + CELL * cells → InItem devices cells xs o i
  change : {i : ℕ} → get_or xs o 0 ≡ SEGMENT → o + ITEM_PLACES ≤ i → i < o + ITEM_PLACES + CHANGE * cells → InItem devices cells xs o i

-- The words of a record that are in use.
pub data InUse (devices cells : ℕ) (xs : List ℕ) : ℕ → Type 0 where
  single : {i : ℕ} → i < KNOWN → InUse devices cells xs i
  known : {i : ℕ} → KNOWN ≤ i → i < KNOWN + CELL * cells → InUse devices cells xs i
  transaction : {i : ℕ} → TRANSACTION ≤ i → i < TRANSACTION + CHANGE * cells → InUse devices cells xs i
  buffered : {i : ℕ} → BUFFERED ≤ i → i < BUFFERED + CHANGE * cells → InUse devices cells xs i
  buffer_kind : InUse devices cells xs RECEIVED
  received : {i : ℕ} → 0 < get_or xs RECEIVED 0 → InItem devices cells xs RECEIVED i → InUse devices cells xs i
  pending : {i : ℕ} (j : ℕ) → j < get_or xs PENDING_LENGTH 0 → PENDING + ROUND * j ≤ i → i < PENDING + ROUND * j + ROUND_CHANGES + CHANGE * cells → InUse devices cells xs i
  waiting : {i : ℕ} (j : ℕ) → j < get_or xs WAITING_LENGTH 0 → WAITING + ROUND * j ≤ i → i < WAITING + ROUND * j + ROUND_CHANGES + CHANGE * cells → InUse devices cells xs i
  items : {i : ℕ} (j : ℕ) → j < get_or xs ITEMS_LENGTH 0 → InItem devices cells xs (ITEMS + ITEM * j) i → InUse devices cells xs i

-- The words of an item are valid: a kind, numbers from 1 on in a prefix, and cells or changes in its places.
pub record ValidItem (devices cells : ℕ) (xs : List ℕ) (o : ℕ) : Type 0 where
  pub kind_from_1 : PREFIX ≤ get_or xs o 0
  pub kind_to_2 : get_or xs o 0 ≤ SEGMENT
  pub prefix_numbers : get_or xs o 0 ≡ PREFIX → (d : ℕ) → d < devices → 1 ≤ get_or xs (o + ITEM_NUMBERS + d) 0
  pub prefix_places : get_or xs o 0 ≡ PREFIX → Valid cell_place xs (o + ITEM_PLACES) cells
  pub segment_places : get_or xs o 0 ≡ SEGMENT → Valid change_place xs (o + ITEM_PLACES) cells

-- The words of a record that are in use are valid.
pub record ValidRecord (devices cells : ℕ) (xs : List ℕ) : Type 0 where
  pub size : length xs ≡ RECORD
  pub channel : get_or xs CHANNEL 0 ≤ ESTABLISHED
  pub request : get_or xs REQUEST 0 ≤ 1
  pub connection : get_or xs CONNECTION 0 ≤ STALE
  pub few_pending : get_or xs PENDING_LENGTH 0 ≤ QUEUE
  pub few_waiting : get_or xs WAITING_LENGTH 0 ≤ QUEUE
  pub few_items : get_or xs ITEMS_LENGTH 0 ≤ QUEUE
  pub known : Valid cell_place xs KNOWN cells
  pub transaction : Valid change_place xs TRANSACTION cells
  pub buffered : Valid change_place xs BUFFERED cells
  pub received : 0 < get_or xs RECEIVED 0 → ValidItem devices cells xs RECEIVED
  pub pending : (j : ℕ) → j < get_or xs PENDING_LENGTH 0 → Valid change_place xs (PENDING + ROUND * j + ROUND_CHANGES) cells
  pub waiting : (j : ℕ) → j < get_or xs WAITING_LENGTH 0 → Valid change_place xs (WAITING + ROUND * j + ROUND_CHANGES) cells
  pub items : (j : ℕ) → j < get_or xs ITEMS_LENGTH 0 → ValidItem devices cells xs (ITEMS + ITEM * j)

-- A record of a table of so many devices and cells: valid words whose device fits document 01's conditions.
pub record IsRecord (devices cells : ℕ) (xs : List ℕ) : Type 0 where
  pub few_devices : devices ≤ MOST_DEVICES
  pub few_cells : cells ≤ MOST_CELLS
  pub valid : ValidRecord devices cells xs
  pub fits : FitsDevice sheet devices (get_or xs TAKEN 0) (device_of devices cells xs)
