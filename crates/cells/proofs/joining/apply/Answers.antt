-- `cells::joining::apply` meets its contract: each arm rewrites with the equation that it is given of d.
use Rattle.std.proofs.Common.{ap, ◌∙◌, rules}
use Rattle.cells.specs.Cells.{added}
use Rattle.cells.proofs.joining.apply.Goals as goal

pub returns-in-Add : goal.returns-in-Add
returns-in-Add c = rw c.in-Add.is (c.add_to.ensures ∙ ap (added c.args.c) (search rules))
