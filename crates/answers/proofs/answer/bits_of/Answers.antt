use mathlib.Core.Path.{sym, ◌∙◌}
use Rattle.wording.proofs.Floats.{nan_word}
use Rattle.answers.proofs.answer.bits_of.Goals as goal

pub returns-then-is_nan : goal.returns-then-is_nan
returns-then-is_nan c = nan_word _ (sym c.is_nan.ensures.value ∙ c.if-is_nan.true)
