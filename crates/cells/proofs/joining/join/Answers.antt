-- `cells::joining::join` meets its contract: each arm rewrites with the equations that it is given of b and of a.
use Rattle.std.proofs.Common.{refl, ap, ◌∙◌, ap₂, rules}
use Rattle.cells.specs.Wrap.{wrap_add}
use Rattle.cells.specs.Cells.{added}
use Rattle.cells.specs.declared.Change.TheVariants.{Set, Add}
use Rattle.cells.proofs.Words.{returned}
use Rattle.cells.proofs.joining.join.Goals as goal

pub returns-in-Set : goal.returns-in-Set
returns-in-Set c = rw c.in-Set.is refl

pub returns-in-Nothing-a : goal.returns-in-Nothing-a
returns-in-Nothing-a c = rw (c.in-Add.is, c.in-Nothing-a.is) (ap Add (search rules))

pub returns-in-Set-a : goal.returns-in-Set-a
returns-in-Set-a c = rw (c.in-Add.is, c.in-Set-a.is) (ap Set (c.add_to.ensures ∙ ap (added c.in-Set-a.v) (search rules)))

pub returns-in-Add-a : goal.returns-in-Add-a
returns-in-Add-a c = rw (c.in-Add.is, c.in-Add-a.is) (ap Add (returned c.wrapping_add_i64.type_inv ∙ c.wrapping_add_i64.ensures ∙ ap₂ wrap_add (search rules) (search rules)))
