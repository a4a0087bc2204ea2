-- "at most the given count of rounds from the connection held": what a batch takes from one device. Assumes nothing.
use Rattle.std.specs.Prelude.{◌≡◌, List, ℕ, ◌+◌, ◌*◌, ◌≤◌, ◌<◌, length, get_or, take}
use Rattle.protocol.specs.Machine.{choose, is_held, later, Round, join_rounds, last_number}
use Rattle.sheet.specs.Sheet.{sheet}
use Rattle.words.specs.Layout.{MOST_CELLS, MOST_PUSHES, CHANGE, QUEUE, ROUND, ROUND_CHANGES, ITEM, ITEM_NUMBERS, ITEM_PLACES, STALE, CONNECTION, WAITING_LENGTH, WAITING, RECORD}
use Rattle.words.specs.Place.{change_place, Out, Valid, Kept}
use Rattle.record.specs.Reading.{changes_at, queue, round_at, given_by, connection_of}

-- The first k waiting rounds of a record.
abbrev pub first_waiting : (cells k : ℕ) → List ℕ → List (Round sheet)
first_waiting cells k rs = queue k (λ j. round_at cells rs (WAITING + ROUND * j))

-- A segment's words and a record whose first k waiting rounds can be joined to it.
pub record RoundsReady (cells k : ℕ) (ss rs : List ℕ) : Type 0 where
  pub item : length ss ≡ ITEM
  pub size : length rs ≡ RECORD
  pub few_cells : cells ≤ MOST_CELLS
  pub few : k ≤ QUEUE
  pub segment : Valid change_place ss ITEM_PLACES cells
  pub rounds : (j : ℕ) → j < k → Valid change_place rs (WAITING + ROUND * j + ROUND_CHANGES) cells

-- The segment ss became ss': those rounds are joined to its changes, one after the other.
pub record JoinedRounds (cells k : ℕ) (ss rs ss' : List ℕ) : Type 0 where
  pub is : changes_at cells ss' ITEM_PLACES ≡ join_rounds sheet (changes_at cells ss ITEM_PLACES) (first_waiting cells k rs)
  pub valid : Valid change_place ss' ITEM_PLACES cells
  pub kept : Kept ss ss' ITEM_PLACES (CHANGE * cells)

-- "at most the given count of rounds from the connection held, stale or not": those of a record.
abbrev pub rounds_of : (cells count : ℕ) → List ℕ → List (Round sheet)
rounds_of cells count rs = take (choose (is_held (connection_of (get_or rs CONNECTION 0))) count 0) (first_waiting cells (get_or rs WAITING_LENGTH 0) rs)

-- A segment's words and a record of a table.
pub record RecordReady (cells : ℕ) (ss rs : List ℕ) : Type 0 where
  pub item : length ss ≡ ITEM
  pub few_cells : cells ≤ MOST_CELLS
  pub segment : Valid change_place ss ITEM_PLACES cells
  pub size : length rs ≡ RECORD
  pub connection : get_or rs CONNECTION 0 ≤ STALE
  pub few : get_or rs WAITING_LENGTH 0 ≤ QUEUE
  pub rounds : (j : ℕ) → j < get_or rs WAITING_LENGTH 0 → Valid change_place rs (WAITING + ROUND * j + ROUND_CHANGES) cells
  pub in_range : (j : ℕ) → j < get_or rs WAITING_LENGTH 0 → get_or rs (WAITING + ROUND * j) 0 ≤ MOST_PUSHES

-- The segment ss became ss': the rounds of device d are joined to its changes, it gives the number of the last, and r tells how many they are.
pub record GatheredOne (cells count d : ℕ) (ss rs : List ℕ) (r : ℕ) (ss' : List ℕ) : Type 0 where
  pub many : r ≡ length (rounds_of cells count rs)
  pub is : changes_at cells ss' ITEM_PLACES ≡ join_rounds sheet (changes_at cells ss ITEM_PLACES) (rounds_of cells count rs)
  pub valid : Valid change_place ss' ITEM_PLACES cells
  pub number : given_by (get_or ss' (ITEM_NUMBERS + d) 0) ≡ later (given_by (get_or ss (ITEM_NUMBERS + d) 0)) (last_number sheet (rounds_of cells count rs))
  pub others : (i : ℕ) → (i ≡ ITEM_NUMBERS + d → ⊥) → Out ITEM_PLACES (CHANGE * cells) i → get_or ss' i 0 ≡ get_or ss i 0
