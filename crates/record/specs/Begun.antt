-- A record at first. Document 01: the last push number "first 0", a channel "none at first"; opened, it "continues its number, and has no channel".
-- Assumes nothing.
use Rattle.std.specs.Prelude.{◌≡◌, List, ℕ, get_or}
use Rattle.cells.specs.declared.Cell.{Cell}
use Rattle.protocol.specs.Machine.{fresh_device}
use Rattle.sheet.specs.Sheet.{sheet}
use Rattle.words.specs.Layout.{TAKEN}
use Rattle.record.specs.Reading.{device_of}
use Rattle.record.specs.Valid.{InUse, ValidRecord}

-- The record xs became ys: a device at first, that knows a sheet, at a number that the server has taken; words not in use are kept. It holds no
-- item, so the number of the table's devices is any.
pub record Begun (cells : ℕ) (known : ℕ → Cell) (number : ℕ) (xs ys : List ℕ) : Type 0 where
  pub says : (devices : ℕ) → device_of devices cells ys ≡ fresh_device sheet known number
  pub taken : get_or ys TAKEN 0 ≡ number
  pub valid : (devices : ℕ) → ValidRecord devices cells ys
  pub kept : (devices i : ℕ) → (InUse devices cells ys i → ⊥) → get_or ys i 0 ≡ get_or xs i 0
