-- `probing::update_from` meets its contract: a kind that is none of the three adds.
use mathlib.Core.Path.{refl, ap, sym, ◌∙◌}
use native.Mathlib.Omega.{arith}
use Rattle.cells.specs.declared.Cell.TheVariants.{Count, Measure}
use Rattle.cells.specs.declared.Update.{Update}
use Rattle.cells.proofs.Words.{returned}
use Rattle.probing.proofs.Asking.{adds}
use Rattle.probing.proofs.update_from.Goals as goal

pub returns-in-1 : goal.returns-in-1
returns-in-1 c = rw c.in-1.is refl

pub returns-in-2 : goal.returns-in-2
returns-in-2 c = rw c.in-2.is (ap Update.Set (ap Count (returned c.i64_of_bits.type_inv ∙ c.i64_of_bits.ensures)))

pub returns-in-3 : goal.returns-in-3
returns-in-3 c = rw c.in-3.is (ap Update.Set (ap Measure c.measured_from.ensures))

pub returns-in_default : goal.returns-in_default
returns-in_default c =
    ap Update.Add (returned c.i64_of_bits-in_default.type_inv ∙ c.i64_of_bits-in_default.ensures)
    ∙ sym (adds c.args.kind c.args.payload (λ e. omega arith) (λ e. omega arith) (λ e. omega arith))
