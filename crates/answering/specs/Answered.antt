-- What the step program's answer to a line (document 01, "Step program") promises of the lent words, whatever they hold. Assumes nothing.
use Rattle.std.specs.Prelude.{List, ℕ, ◌≤◌, get_or}
use Rattle.protocol.specs.declared.Refusal.TheVariants.{NoTable, OutsideAllowed}
use Rattle.protocol.specs.Fits.{Sizes}
use Rattle.protocol.specs.Machine.{Answer}
use Rattle.sheet.specs.Sheet.{sheet}
use Rattle.words.specs.Layout.{DEVICES}
use Rattle.table.specs.Promise.{RefusedWith, Started}
use Rattle.table.specs.Asked.{Asked, DoesWith}
use Rattle.steps.specs.Parse.{parse_line}
use Rattle.answering.specs.Program.{asked_by}

-- "above 3 devices or 16 cells" is not small
pub record Small (devices cells : ℕ) : Type 0 where
  pub devices_to_3 : devices ≤ 3
  pub cells_to_16 : cells ≤ 16

-- "Start above 3 devices or 16 cells is refused 1 after check 2"
pub record StartedSmall (devices cells : ℕ) (xs : List ℕ) (a : Answer sheet) (ys : List ℕ) : Type 0 where
  pub outside : (Sizes devices cells → ⊥) → RefusedWith OutsideAllowed xs a ys
  pub large : Sizes devices cells → (Small devices cells → ⊥) → RefusedWith NoTable xs a ys
  pub begun : Sizes devices cells → Small devices cells → Started devices cells xs a ys

-- What was asked is done to the words xs: the answer is a, and they become ys.
abbrev pub Does : Asked → (xs : List ℕ) → Answer sheet → (ys : List ℕ) → Type 0
Does = DoesWith StartedSmall

-- The answer to a line. Words that no start has filled say 0 devices.
abbrev pub Answered : (line xs : List ℕ) → Answer sheet → (ys : List ℕ) → Type 0
Answered line xs a ys = Does (asked_by (parse_line (get_or xs DEVICES 0) line)) xs a ys
