-- `device::push::push` meets its contract: what it makes of the record is the law's.
use Rattle.device.proofs.Pushes.{push_refused, push_done}
use Rattle.record.proofs.Conditions.{is_singles}
use native.Mathlib.Omega.{arith}
use Rattle.device.proofs.push.push.Goals as goal

pub returns-then-last-ge-MOST_PUSHES : goal.returns-then-last-ge-MOST_PUSHES
returns-then-last-ge-MOST_PUSHES c = push_refused _ _ _ c.requires c.if-last-ge-MOST_PUSHES.true

pub overflow_add-r-2 : goal.overflow_add-r-2
overflow_add-r-2 c = let R = c.requires in let S = is_singles _ _ _ R.valid.size R in omega (arith, c.if-last-ge-MOST_PUSHES.false)

pub returns : goal.returns
returns c = push_done _ _ _ _ _ c.requires c.if-last-ge-MOST_PUSHES.false c.change.ensures c.fill.ensures (omega arith)
