-- "puts one segment on every connection that is not stale. With 8 items waiting there, the segment is joined to the last." Assumes nothing.
use Rattle.std.specs.Prelude.{◌≡◌, List, ℕ, ◌+◌, ◌*◌, ◌≤◌, ◌<◌, length, get_or}
use Rattle.words.specs.Layout.{MOST_DEVICES, MOST_CELLS, QUEUE, ITEM, ITEM_KIND, SEGMENT, ITEMS_LENGTH, ITEMS, RECORD}
use Rattle.record.specs.Valid.{ValidItem}

-- The words ss are an item of a table of so many devices and cells.
pub record ItemReady (devices cells : ℕ) (ss : List ℕ) : Type 0 where
  pub few_devices : devices ≤ MOST_DEVICES
  pub few_cells : cells ≤ MOST_CELLS
  pub item : length ss ≡ ITEM
  pub valid : ValidItem devices cells ss ITEM_KIND

-- What storing that item as the entry of xs from `to` on asks.
pub record Storable (devices cells : ℕ) (xs ss : List ℕ) (to : ℕ) : Type 0 where
  pub ready : ItemReady devices cells ss
  pub fits : to + ITEM ≤ length xs

-- The items that wait in the record xs are valid.
pub record ItemsReady (devices cells : ℕ) (xs : List ℕ) : Type 0 where
  pub size : length xs ≡ RECORD
  pub few : get_or xs ITEMS_LENGTH 0 ≤ QUEUE
  pub items : (j : ℕ) → j < get_or xs ITEMS_LENGTH 0 → ValidItem devices cells xs (ITEMS + ITEM * j)

-- What putting that item behind the last of them asks.
pub record Stackable (devices cells : ℕ) (xs ss : List ℕ) : Type 0 where
  pub ready : ItemReady devices cells ss
  pub there : ItemsReady devices cells xs
  pub room : get_or xs ITEMS_LENGTH 0 < QUEUE

-- What joining it, a segment, to the item of xs from `to` on asks.
pub record JoinableTo (devices cells : ℕ) (xs ss : List ℕ) (to : ℕ) : Type 0 where
  pub storable : Storable devices cells xs ss to
  pub to_valid : ValidItem devices cells xs to
  pub is_segment : get_or ss ITEM_KIND 0 ≡ SEGMENT

-- What putting it, a segment, on the connection of the record xs asks.
pub record Deliverable (devices cells : ℕ) (xs ss : List ℕ) : Type 0 where
  pub ready : ItemReady devices cells ss
  pub is_segment : get_or ss ITEM_KIND 0 ≡ SEGMENT
  pub there : ItemsReady devices cells xs
