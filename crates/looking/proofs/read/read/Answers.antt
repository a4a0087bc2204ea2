-- `looking::read::read` meets its contract: the cell alone is looked at.
use native.Mathlib.Omega.{arith}
use Rattle.looking.proofs.Looks.{read_refused, read_value}
use Rattle.looking.proofs.read.read.Goals as goal

pub returns-then-cell-extent : goal.returns-then-cell-extent
returns-then-cell-extent c = read_refused _ _ _ _ c.if-cell-extent.true

pub get-requires : goal.get-requires
get-requires c = let R = c.requires in record { k_in_bounds = omega (arith, R.few_cells, R.valid.size); k_value = R.valid.buffered c.args.cell c.if-cell-extent.false }

pub get-requires-2 : goal.get-requires-2
get-requires-2 c = let R = c.requires in record { k_in_bounds = omega (arith, R.few_cells, R.valid.size); k_value = R.valid.transaction c.args.cell c.if-cell-extent.false }

pub returns : goal.returns
returns c = read_value _ _ _ _ c.if-cell-extent.false c.with_pending-sent.ensures c.get.ensures.is c.apply-pushed.ensures c.get-2.ensures.is c.apply.ensures
