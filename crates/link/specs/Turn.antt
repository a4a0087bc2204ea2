-- "Passing part: connections and requests", on one device's record: what a step of the server makes of it. Assumes nothing.
use Rattle.std.specs.Prelude.{◌≡◌, List, ℕ, ◌≤◌, get_or}
use Rattle.protocol.specs.Machine.{Device}
use Rattle.sheet.specs.Sheet.{sheet}
use Rattle.words.specs.Layout.{MOST_DEVICES, MOST_CELLS, TAKEN}
use Rattle.record.specs.Reading.{device_of}
use Rattle.record.specs.Valid.{InUse, ValidRecord}

-- The record xs became ys: it says the device x, of which the server has taken up to n; its words in use are valid, every other is kept.
pub record Turned (devices cells : ℕ) (x : Device sheet) (n : ℕ) (xs ys : List ℕ) : Type 0 where
  pub says : device_of devices cells ys ≡ x
  pub taken : get_or ys TAKEN 0 ≡ n
  pub valid : ValidRecord devices cells ys
  pub kept : (i : ℕ) → (InUse devices cells ys i → ⊥) → get_or ys i 0 ≡ get_or xs i 0

-- A record of a table of so many devices and cells, as far as its words in use are valid.
pub record Sound (devices cells : ℕ) (xs : List ℕ) : Type 0 where
  pub few_devices : devices ≤ MOST_DEVICES
  pub few_cells : cells ≤ MOST_CELLS
  pub valid : ValidRecord devices cells xs
