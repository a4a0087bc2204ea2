-- `cells::measured::is_finite` meets its contract: the library's test is the definition's.
use Rattle.std.proofs.Common.{◌∙◌}
use Rattle.cells.proofs.Finite.{is_finite_is}
use Rattle.cells.proofs.measured.is_finite.Goals as goal

pub returns : goal.returns
returns c = c.is_finite.ensures.value ∙ is_finite_is c.args.x
