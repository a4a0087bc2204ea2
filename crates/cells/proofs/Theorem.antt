-- The claims of specs/Claims.antt, each proved. Assumes nothing.
use Rattle.std.proofs.Common.{◌^◌, sym, refl, ap, ◌∙◌, lt-ltb}
use Rattle.cells.specs.Claims.{JoinedAsSingly, JoinedOnAsSingly, AnyGrouping, BitsKept, AnyFiniteValue}
use Rattle.cells.specs.declared.Cell.TheVariants.{Measure}
use Rattle.cells.specs.declared.Change.TheVariants.{Nothing}
use Rattle.cells.proofs.Laws.{apply_all, join_assoc}
use Rattle.cells.proofs.Finite.{word_float_word, word_finite, float_word_float, float_word_lt, float_word_finite}
use Rattle.cells.proofs.StoredForm.{both}

pub joined_on_as_singly : JoinedOnAsSingly
joined_on_as_singly = apply_all

pub joined_as_singly : JoinedAsSingly
joined_as_singly c us = apply_all c Nothing us

pub any_grouping : AnyGrouping
any_grouping = join_assoc

pub bits_kept : BitsKept
bits_kept bits h e = record {
  has = word_float_word bits h e;
  allowed = word_finite bits ∙ e;
  set = λ c. refl;
  words = (word_float_word bits h e, both (lt-ltb bits (2 ^ 64) h) e);
  back = refl;
}

pub any_finite_value : AnyFiniteValue
any_finite_value x f e = (float_word_lt x f, float_word_finite x f e, ap Measure (sym (float_word_float x f)))
