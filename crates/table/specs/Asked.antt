-- "First field is the step", "a line that is no step": what a line or a number asks for, and what is then promised of the lent words.
-- Assumes nothing.
use Rattle.std.specs.Prelude.{List, ℕ}
use Rattle.protocol.specs.declared.Refusal.TheVariants.{NoStep}
use Rattle.protocol.specs.Machine.{Step, step, Answer}
use Rattle.sheet.specs.Sheet.{sheet}
use Rattle.table.specs.Promise.{RefusedWith, Stepped}

-- A start, or a step of the machine; or it is no step.
pub data Asked : Type 0 where
  no_step : Asked
  start : (devices cells : ℕ) → Asked
  machine_step : Step sheet → Asked

-- What was asked is done to the words xs: the answer is a, and they become ys. The promise of a start is given.
abbrev pub DoesWith : ((devices cells : ℕ) (xs : List ℕ) → Answer sheet → (ys : List ℕ) → Type 0) → Asked → (xs : List ℕ) → Answer sheet → (ys : List ℕ) → Type 0
DoesWith Begins no_step xs a ys = RefusedWith NoStep xs a ys
DoesWith Begins (start devices cells) xs a ys = Begins devices cells xs a ys
DoesWith Begins (machine_step m) xs a ys = Stepped (step sheet m) xs a ys
