use mathlib.Core.Path.{sym, ◌∙◌}
use native.Mathlib.Omega.{arith}
use Rattle.wording.proofs.Floats.{made, nan_above, plain_below}
use Rattle.wording.proofs.values.float_of.Goals as goal

pub returns-then-n-gt9218868437227405312 : goal.returns-then-n-gt9218868437227405312
returns-then-n-gt9218868437227405312 c = made ∙ sym (nan_above _ (omega arith))

pub float_from_bits-result : goal.float_from_bits-result
float_from_bits-result c = plain_below _ (omega arith)
