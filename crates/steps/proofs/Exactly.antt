-- Exactly which lines are which step, and that a measured number keeps its bits. Assumes nothing.
use Prim.Native.Nat.{ℕ, ◌^◌, ◌<◌}
use mathlib.Core.Path.{◌≡◌, refl, ap, sym, subst, ◌∙◌}
use mathlib.Core.List.{List, [], ◌∷◌}
use mathlib.Core.Bool.{true}
use borrow.Author.Tests.{lt-ltb}
use lib.ListN.{length}
use Rattle.std.specs.Prelude.{Option, Some, None}
use Rattle.std.proofs.lemmas.Option.{same_Some, none-some}
use lib.Ieee.{of_bits, binary64}
use Rattle.text.specs.Field.{record_of, field_of, after_commas, up_to_comma}
use Rattle.text.specs.Text.{hex_text}
use Rattle.cells.specs.declared.Cell.{Cell}
use Rattle.wording.specs.Names.{measure_text}
use Rattle.wording.specs.Names.{kind_of, act_of}
use Rattle.steps.specs.Parse.{step_of, parse_line}
use Rattle.steps.specs.Grammar.{LineOf}
use Rattle.steps.specs.declared.parse.Step.{Step}
use Rattle.cells.specs.Finite.{finite_word}
use Rattle.cells.proofs.Finite.{word_float_word}
use Rattle.answers.specs.Answer.{cell_text}
use Rattle.steps.proofs.Sound.{LineSound, line_sound}
use Rattle.steps.proofs.Complete.{line_complete}

-- no step is missed: a step's line is read as the step
pub is_step : (d : ℕ) (s : Step) (l : List ℕ) → LineOf d s l → parse_line d l ≡ Some s
is_step d s l i = line_complete d s l i.0 i.1

-- what is read as a step is that step's line
pub step_is : (d : ℕ) (s : Step) (l : List ℕ) → parse_line d l ≡ Some s → LineOf d s l
step_is d s l e = subst (LineSound d l) e (line_sound d l)

-- no line is two steps
pub one_step : (d : ℕ) (s t : Step) (l : List ℕ) → LineOf d s l → LineOf d t l → s ≡ t
one_step d s t l i j = same_Some s t (sym (is_step d s l i) ∙ is_step d t l j)

-- a line that is read as no step is no step's line, and the other way round
pub no_step_is : (d : ℕ) (l : List ℕ) → parse_line d l ≡ None → (s : Step) → LineOf d s l → ⊥
no_step_is d l e s i = none-some s (sym e ∙ is_step d s l i)

pub none_step : (d : ℕ) (l : List ℕ) → ((s : Step) → LineOf d s l → ⊥) → parse_line d l ≡ None
none_step d l n = by (parse_line d l) (line_sound d l)
  where
    by : (s : Option Step) → LineSound d l s → s ≡ None
    by None i = refl
    by (Some s) i = absurd (n s i)

-- "A longer line … and an empty one are 13."
pub long_line : (d : ℕ) (l : List ℕ) → 80 < length l → parse_line d l ≡ None
unfolding parse_line
long_line d l h = rw (lt-ltb 80 (length l) h)

pub empty_line : (d : ℕ) → parse_line d [] ≡ None
unfolding parse_line step_of kind_of act_of field_of up_to_comma after_commas
empty_line d = refl

-- "A measured number is any finite binary64 value, kept with its bits": the 16 digits that were read are written again
pub measure_kept :
    (bits : ℕ)
    → bits < 2 ^ 64
    → finite_word bits ≡ true
    → cell_text (Cell.Measure (of_bits binary64 bits)) ≡ record_of measure_text (hex_text 16 bits ∷ [])
unfolding cell_text
measure_kept bits h f = ap (λ (n : ℕ). record_of measure_text (hex_text 16 n ∷ [])) (word_float_word bits h f)
