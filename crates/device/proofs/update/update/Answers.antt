-- `device::update::update` meets its contract: what it makes of the record is the law's.
use mathlib.Core.Path.{sym, ◌∙◌}
use native.Mathlib.Omega.{arith}
use Rattle.cells.specs.Cells.{joined}
use Rattle.device.proofs.Updates.{stores_update, update_no_cell, update_not_finite, update_done}
use Rattle.device.proofs.update.update.Goals as goal

pub returns-then-cell-extent : goal.returns-then-cell-extent
returns-then-cell-extent c = λ d. update_no_cell _ _ _ c.requires d _ _ c.if-cell-extent.true

pub returns-then-not-is_finite_update : goal.returns-then-not-is_finite_update
returns-then-not-is_finite_update c = λ d. update_not_finite _ _ _ c.requires d _ _ c.if-cell-extent.false (sym c.is_finite_update.ensures ∙ c.if-not-is_finite_update.true)

pub get-before-requires : goal.get-before-requires
get-before-requires c = let R = c.requires in record { k_in_bounds = omega (arith, R.few_cells, R.valid.size); k_value = R.valid.transaction c.args.cell c.if-cell-extent.false }

pub put-requires : goal.put-requires
put-requires c = let R = c.requires in record { k_in_bounds = omega (arith, R.few_cells, R.valid.size); v_value = stores_update _ _ c.args.u (R.valid.transaction c.args.cell c.if-cell-extent.false) (sym c.is_finite_update.ensures ∙ c.if-not-is_finite_update.false) c.get-before.ensures.is c.change_of.ensures c.join.ensures }

pub returns : goal.returns
returns c = λ d. update_done _ _ _ c.requires d _ _ _ c.if-cell-extent.false (sym c.is_finite_update.ensures ∙ c.if-not-is_finite_update.false) (omega (arith, c.requires.valid.size)) _ (c.join.ensures ∙ (λ i. joined (c.get-before.ensures.is i) (c.change_of.ensures i))) c.put.ensures
