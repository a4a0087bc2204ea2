-- `cells::joining::change_of` meets its contract: each arm rewrites with the equation that it is given of u.
use Rattle.std.proofs.Common.{refl, ap, rules}
use Rattle.cells.specs.declared.Change.TheVariants.{Add}
use Rattle.cells.proofs.joining.change_of.Goals as goal

pub returns-in-Set : goal.returns-in-Set
returns-in-Set c = rw c.in-Set.is refl

pub returns-in-Add : goal.returns-in-Add
returns-in-Add c = rw c.in-Add.is (ap Add (search rules))
