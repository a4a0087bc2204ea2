-- "rounds on it may still be taken", and rounds on a stale connection end with it. Assumes nothing.
use Rattle.std.specs.Prelude.{◌≡◌, Bool, ◌&&◌, List, ℕ, ◌+◌, ◌*◌, ◌≤◌, ◌<◌, min, length, get_or}
use Rattle.protocol.specs.Machine.{choose, is_held, is_stale}
use Rattle.words.specs.Layout.{MOST_CELLS, QUEUE, ROUND, ROUND_CHANGES, WAITING, WAITING_LENGTH, RECORD}
use Rattle.words.specs.Place.{change_place, Valid}
use Rattle.record.specs.Reading.{connection_of}

-- The rounds that go from a connection: those that are taken, and with a crash all that wait on a stale one.
abbrev pub gone : (count connection waiting : ℕ) → Bool → ℕ
gone count connection waiting crash = choose (crash && is_stale (connection_of connection)) waiting (min (choose (is_held (connection_of connection)) count 0) waiting)

-- A record whose first k waiting rounds can go.
pub record HasWaiting (cells k : ℕ) (xs : List ℕ) : Type 0 where
  pub size : length xs ≡ RECORD
  pub few_cells : cells ≤ MOST_CELLS
  pub few : get_or xs WAITING_LENGTH 0 ≤ QUEUE
  pub some_left : k ≤ get_or xs WAITING_LENGTH 0
  pub rounds : (j : ℕ) → j < get_or xs WAITING_LENGTH 0 → Valid change_place xs (WAITING + ROUND * j + ROUND_CHANGES) cells
