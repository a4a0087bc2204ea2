-- "batch takes, for each device in rising number, at most the given count of rounds .. The answer is the number of rounds taken; at 0 nothing
-- changes"; "cut .. then as crash". Assumes nothing.
use Rattle.std.specs.Prelude.{◌≡◌, Bool, List, ℕ}
use Rattle.protocol.specs.Machine.{Table, choose, moved_by, batched, after_crash}
use Rattle.sheet.specs.Sheet.{sheet}
use Rattle.table.specs.Table.{reading}
use Rattle.table.specs.Promise.{Became}

-- The table after a batch that took a round, and after such a cut.
abbrev pub table_batched : Table sheet → List ℕ → ℕ → Bool → Table sheet
table_batched t counts reach crash = choose crash (after_crash sheet (batched sheet t counts reach)) (batched sheet t counts reach)

-- The words xs became ys, and k rounds were taken.
pub record Took (counts : List ℕ) (reach : ℕ) (crash : Bool) (xs : List ℕ) (k : ℕ) (ys : List ℕ) : Type 0 where
  pub many : k ≡ moved_by sheet (reading xs) counts
  pub none : k ≡ 0 → ys ≡ xs
  pub one : (k ≡ 0 → ⊥) → Became xs ys (table_batched (reading xs) counts reach crash)
