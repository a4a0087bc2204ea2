use mathlib.Core.Path.{◌≡◌}
use lib.ListN.{drop}
use Rattle.text.specs.Number.{digits_from}
use Rattle.text.proofs.number.digits.Given as goal

abbrev pub invariant-loop-b : goal.invariant-loop-b
invariant-loop-b l = digits_from l.base l.most 0 l.f ≡ digits_from l.base l.most l.number (drop l.b-index l.f)
