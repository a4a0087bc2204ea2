-- Document 01's conditions on a device, as its record's words have them; proofs/Conditions.antt here and proofs/Fitting.antt of checking prove,
-- each one way, that together they are `IsRecord`. Assumes nothing.
use Rattle.std.specs.Prelude.{◌≡◌, List, ℕ, ◌+◌, ◌*◌, ◌-◌, ◌≤◌, ◌<◌, get_or}
use Rattle.words.specs.Layout.{MOST_PUSHES, QUEUE, ROUND, ROUND_CHANGES, ITEM, ITEM_NUMBERS, PREFIX, ASKED, ESTABLISHED, LIVE, STALE, LAST, TAKEN, CHANNEL, REQUEST, CONNECTION, COVERED, PENDING_LENGTH, WAITING_LENGTH, ITEMS_LENGTH, KNOWN, TRANSACTION, BUFFERED, RECEIVED, PENDING, WAITING, ITEMS}
use Rattle.words.specs.Place.{cell_place, change_place, Valid}
use Rattle.record.specs.Valid.{ValidItem}

-- "stored numbers are in range", "no taken number passes it"
pub record Singles (xs : List ℕ) : Type 0 where
  pub last : get_or xs LAST 0 ≤ MOST_PUSHES
  pub covered : get_or xs COVERED 0 ≤ get_or xs LAST 0
  pub taken : get_or xs TAKEN 0 ≤ get_or xs LAST 0
  pub channel : get_or xs CHANNEL 0 ≤ ESTABLISHED
  pub connection : get_or xs CONNECTION 0 ≤ STALE
  pub request : get_or xs REQUEST 0 ≤ 1

-- "queues within the allowed lengths"
pub record Lengths (xs : List ℕ) : Type 0 where
  pub pending : get_or xs PENDING_LENGTH 0 ≤ QUEUE
  pub items : get_or xs ITEMS_LENGTH 0 ≤ QUEUE
  -- "rounds waiting on a channel are numbered as its device's last pending ones": no more wait than are pending
  pub waiting : get_or xs WAITING_LENGTH 0 ≤ get_or xs PENDING_LENGTH 0

-- What waits has its channel.
pub record Channels (xs : List ℕ) : Type 0 where
  -- the waiting rounds have one place; a stale connection and an established channel would need two, and no run comes to it
  pub stale_not_established : get_or xs CONNECTION 0 ≡ STALE → get_or xs CHANNEL 0 ≡ ESTABLISHED → ⊥
  -- "a device's channel not yet established has none"
  pub none_before_established : (get_or xs CONNECTION 0 ≡ STALE → ⊥) → (get_or xs CHANNEL 0 ≡ ESTABLISHED → ⊥) → get_or xs WAITING_LENGTH 0 ≡ 0
  -- "a connection not stale is on its device's channel"
  pub live_on_channel : get_or xs CHANNEL 0 ≡ 0 → get_or xs CONNECTION 0 ≡ LIVE → ⊥
  -- items wait on a channel: without one there is none
  pub items_on_channel : get_or xs CHANNEL 0 ≡ 0 → get_or xs ITEMS_LENGTH 0 ≡ 0
  -- "where the first item is always one and is there while a connection holds it"
  pub prefix_while_held : get_or xs CHANNEL 0 ≡ ASKED → get_or xs CONNECTION 0 ≡ LIVE → 0 < get_or xs ITEMS_LENGTH 0

-- "a request has such a channel without items"
pub record Requests (xs : List ℕ) : Type 0 where
  pub on_asked : 0 < get_or xs REQUEST 0 → get_or xs CHANNEL 0 ≡ ASKED
  pub without_items : 0 < get_or xs REQUEST 0 → get_or xs ITEMS_LENGTH 0 ≡ 0

-- Numbers of an item, each stored as one more than it is.
abbrev pub NumbersIn : List ℕ → ℕ → ℕ → ℕ → Type 0
NumbersIn xs o n least = (k : ℕ) → k < n → (least ≤ get_or xs (o + k) 0) × (get_or xs (o + k) 0 ≤ MOST_PUSHES + 1)

pub record GoodItem (devices cells : ℕ) (xs : List ℕ) (o : ℕ) : Type 0 where
  pub valid : ValidItem devices cells xs o
  pub numbers : NumbersIn xs (o + ITEM_NUMBERS) devices 0

-- "a prefix waits only in first place on a channel not yet established, where the first item is always one"
pub record DueKind (kind j channel : ℕ) : Type 0 where
  pub due : j ≡ 0 → channel ≡ ASKED → kind ≡ PREFIX
  pub first : kind ≡ PREFIX → j ≡ 0
  pub asked : kind ≡ PREFIX → channel ≡ ASKED

pub record DueItem (devices cells : ℕ) (xs : List ℕ) (j : ℕ) : Type 0 where
  pub good : GoodItem devices cells xs (ITEMS + ITEM * j)
  pub kind : DueKind (get_or xs (ITEMS + ITEM * j) 0) j (get_or xs CHANNEL 0)

-- "round numbers rise and do not pass the last push (with a push buffered, stay below it)"
pub record GoodPending (cells : ℕ) (xs : List ℕ) (j : ℕ) : Type 0 where
  pub to_last : get_or xs (PENDING + ROUND * j) 0 ≤ get_or xs LAST 0
  pub below_last : 0 < get_or xs COVERED 0 → get_or xs (PENDING + ROUND * j) 0 < get_or xs LAST 0
  pub positive : 0 < get_or xs (PENDING + ROUND * j) 0
  pub rises : 0 < j → get_or xs (PENDING + ROUND * j - ROUND) 0 < get_or xs (PENDING + ROUND * j) 0
  pub valid : Valid change_place xs (PENDING + ROUND * j + ROUND_CHANGES) cells

-- "rounds waiting on a channel are numbered as its device's last pending ones"
pub record GoodWaiting (cells : ℕ) (xs : List ℕ) (j : ℕ) : Type 0 where
  pub number : get_or xs (WAITING + ROUND * j) 0 ≡ get_or xs (PENDING + ROUND * (get_or xs PENDING_LENGTH 0 - get_or xs WAITING_LENGTH 0 + j)) 0
  pub valid : Valid change_place xs (WAITING + ROUND * j + ROUND_CHANGES) cells

-- The known sheet, the open transaction, the push buffer and the receive buffer.
pub record Sheets (devices cells : ℕ) (xs : List ℕ) : Type 0 where
  pub known : Valid cell_place xs KNOWN cells
  pub transaction : Valid change_place xs TRANSACTION cells
  pub buffered : Valid change_place xs BUFFERED cells
  pub received : 0 < get_or xs RECEIVED 0 → GoodItem devices cells xs RECEIVED
