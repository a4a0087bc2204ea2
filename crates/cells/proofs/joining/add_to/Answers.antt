-- `cells::joining::add_to` meets its contract: each arm rewrites with the equation that it is given of c.
use Rattle.std.proofs.Common.{refl, ap, ◌∙◌, ap₂, rules}
use Rattle.cells.specs.Wrap.{wrap_add}
use Rattle.cells.specs.declared.Cell.TheVariants.{Count}
use Rattle.cells.proofs.Words.{returned}
use Rattle.cells.proofs.joining.add_to.Goals as goal

pub returns-in-Blank : goal.returns-in-Blank
returns-in-Blank c = rw c.in-Blank.is (ap Count (search rules))

pub returns-in-Count : goal.returns-in-Count
returns-in-Count c = rw c.in-Count.is (ap Count (returned c.wrapping_add_i64.type_inv ∙ c.wrapping_add_i64.ensures ∙ ap₂ wrap_add (search rules) (search rules)))

pub returns-in-Measure : goal.returns-in-Measure
returns-in-Measure c = rw c.in-Measure.is refl
