-- "for each device in rising number": what the server asks of a slice whose records it turns one after the other. Assumes nothing.
use Rattle.std.specs.Prelude.{List, ℕ, ◌≤◌, ◌<◌, length}
use Rattle.table.specs.Table.{need, record_at}
use Rattle.link.specs.Turn.{Sound}

-- A slice with records of so many devices, each sound.
pub record AllSound (xs : List ℕ) (devices cells : ℕ) : Type 0 where
  pub long : need devices ≤ length xs
  pub records : (d : ℕ) → d < devices → Sound devices cells (record_at xs d)
