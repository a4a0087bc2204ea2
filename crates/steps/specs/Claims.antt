-- Exactly which line is which step (document 01, "Step program"): `parse_line` finds those of specs/Grammar.antt and no others. Assumes nothing.
use Rattle.std.specs.Prelude.{ℕ, ◌^◌, ◌<◌, ◌≡◌, ◌↔◌, true, List, [], ◌∷◌, length, Some, None}
use Rattle.std.specs.Float.Ieee.{of_bits}
use Rattle.std.specs.Float.{binary64}
use Rattle.text.specs.Field.{record_of}
use Rattle.text.specs.Text.{hex_text}
use Rattle.cells.specs.Finite.{finite_word}
use Rattle.cells.specs.declared.Cell.{Cell}
use Rattle.wording.specs.Names.{measure_text}
use Rattle.answers.specs.Answer.{cell_text}
use Rattle.steps.specs.Parse.{parse_line}
use Rattle.steps.specs.Grammar.{LineOf}
use Rattle.steps.specs.declared.parse.Step.{Step}

-- A line is read as a step exactly when it is that step's line.
abbrev pub LineOfStep : Type 0
LineOfStep = (d : ℕ) (s : Step) (l : List ℕ) → (parse_line d l ≡ Some s) ↔ LineOf d s l

-- No line is two steps.
abbrev pub OneStep : Type 0
OneStep = (d : ℕ) (s t : Step) (l : List ℕ) → LineOf d s l → LineOf d t l → s ≡ t

-- "a line that is no step": it is read as none exactly when it is no step's line.
abbrev pub NoStep : Type 0
NoStep = (d : ℕ) (l : List ℕ) → (parse_line d l ≡ None) ↔ ((s : Step) → LineOf d s l → ⊥)

-- "a longer line .. and an empty one are 13"
abbrev pub LongerLine : Type 0
LongerLine = (d : ℕ) (l : List ℕ) → 80 < length l → parse_line d l ≡ None

abbrev pub EmptyLine : Type 0
EmptyLine = (d : ℕ) → parse_line d [] ≡ None

-- "A measured number is any finite binary64 value, kept with its bits": the 16 digits that were read are written again.
abbrev pub DigitsKept : Type 0
DigitsKept = (bits : ℕ) → bits < 2 ^ 64 → finite_word bits ≡ true → cell_text (Cell.Measure (of_bits binary64 bits)) ≡ record_of measure_text (hex_text 16 bits ∷ [])
