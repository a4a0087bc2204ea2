-- What every call asks first, "1 first, then 3": how far a table reaches, and whether it has a device. Assumes nothing.
use Rattle.std.specs.Prelude.{◌≡◌, List, ℕ, ◌≤◌, ◌<◌, get_or, Result, MatchResult}
use Rattle.protocol.specs.declared.Refusal.{Refusal}
use Rattle.protocol.specs.declared.Refusal.TheVariants.{NoTable, NoDevice}
use Rattle.words.specs.declared.extent.Extent.{Extent}
use Rattle.words.specs.Layout.{DEVICES, CELLS}
use Rattle.table.specs.Table.{IsTable}

-- A table, with its numbers of devices and of cells.
pub record TableReady (xs : List ℕ) (devices cells : ℕ) : Type 0 where
  pub table : IsTable xs
  pub devices_are : devices ≡ get_or xs DEVICES 0
  pub cells_are : cells ≡ get_or xs CELLS 0

-- How far a table reaches; contents that are none are refused 1.
abbrev pub ExtentOf : List ℕ → Result Extent Refusal → Type 0
ExtentOf xs r = MatchResult r (λ e. TableReady xs e.devices e.cells) (λ e. (e ≡ NoTable) × (IsTable xs → ⊥))

-- "1 first, then 3"
pub data NotKnown (xs : List ℕ) (d : ℕ) (e : Refusal) : Type 0 where
  no_table : e ≡ NoTable → (IsTable xs → ⊥) → NotKnown xs d e
  no_device : e ≡ NoDevice → IsTable xs → get_or xs DEVICES 0 ≤ d → NotKnown xs d e

-- How far a table reaches that has device d.
abbrev pub ExtentWith : (xs : List ℕ) (d : ℕ) → Result Extent Refusal → Type 0
ExtentWith xs d r = MatchResult r (λ e. TableReady xs e.devices e.cells × (d < e.devices)) (NotKnown xs d)
