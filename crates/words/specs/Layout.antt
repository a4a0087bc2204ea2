-- Document 01: "That need is a formula in docs/". Where each thing lies: the names of src/layout.rt with the same values, `·` for `_`.
-- Assumes nothing.
use Rattle.std.specs.Prelude.{ℕ}

-- The largest numbers allowed: devices, cells, pushes by one device, and what a queue holds.
abbrev pub MOST_DEVICES : ℕ
MOST_DEVICES = 8

abbrev pub MOST_CELLS : ℕ
MOST_CELLS = 64

abbrev pub MOST_PUSHES : ℕ
MOST_PUSHES = 1000000

abbrev pub QUEUE : ℕ
QUEUE = 8

-- Words of a place, which holds a cell or a change.
abbrev pub PLACE : ℕ
PLACE = 2

abbrev pub CELL : ℕ
CELL = PLACE

abbrev pub CHANGE : ℕ
CHANGE = PLACE

-- A round: its number, then a change for each cell.
abbrev pub ROUND_CHANGES : ℕ
ROUND_CHANGES = 1

abbrev pub ROUND : ℕ
ROUND = 129

-- An item: its kind, then a number for each device, then a cell or a change for each cell.
abbrev pub ITEM_KIND : ℕ
ITEM_KIND = 0

abbrev pub ITEM_NUMBERS : ℕ
ITEM_NUMBERS = 1

abbrev pub ITEM_PLACES : ℕ
ITEM_PLACES = 9

abbrev pub ITEM : ℕ
ITEM = 137

-- The kinds of an item; an empty receive buffer has kind 0.
abbrev pub PREFIX : ℕ
PREFIX = 1

abbrev pub SEGMENT : ℕ
SEGMENT = 2

-- A device's channel: none is 0.
abbrev pub ASKED : ℕ
ASKED = 1

abbrev pub ESTABLISHED : ℕ
ESTABLISHED = 2

-- The server's connection to a device: none is 0.
abbrev pub LIVE : ℕ
LIVE = 1

abbrev pub STALE : ℕ
STALE = 2

-- A device's record: single numbers first.
abbrev pub LAST : ℕ
LAST = 0

abbrev pub TAKEN : ℕ
TAKEN = 1

abbrev pub CHANNEL : ℕ
CHANNEL = 2

abbrev pub REQUEST : ℕ
REQUEST = 3

abbrev pub CONNECTION : ℕ
CONNECTION = 4

abbrev pub COVERED : ℕ
COVERED = 5

abbrev pub PENDING_LENGTH : ℕ
PENDING_LENGTH = 6

abbrev pub WAITING_LENGTH : ℕ
WAITING_LENGTH = 7

abbrev pub ITEMS_LENGTH : ℕ
ITEMS_LENGTH = 8

-- Then the known sheet, the open transaction, the push buffer, the receive buffer, and the three queues.
abbrev pub KNOWN : ℕ
KNOWN = 9

abbrev pub TRANSACTION : ℕ
TRANSACTION = 137

abbrev pub BUFFERED : ℕ
BUFFERED = 265

abbrev pub RECEIVED : ℕ
RECEIVED = 393

abbrev pub PENDING : ℕ
PENDING = 530

abbrev pub WAITING : ℕ
WAITING = 1562

abbrev pub ITEMS : ℕ
ITEMS = 2594

abbrev pub RECORD : ℕ
RECORD = 3690

-- The table: the numbers of devices and of cells, the server's sheet, then a record for each device.
abbrev pub DEVICES : ℕ
DEVICES = 0

abbrev pub CELLS : ℕ
CELLS = 1

abbrev pub SHEET : ℕ
SHEET = 2

abbrev pub RECORDS : ℕ
RECORDS = 130
