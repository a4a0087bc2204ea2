-- `probing::call_of` meets its contract: each arm is the call of its number.
use native.Mathlib.Omega.{arith}
use borrow.Author.Rules.{rules}
use Rattle.probing.proofs.Asking.{probed_as, refused_past, update_as}
use Rattle.probing.proofs.call_of.Goals as goal

pub returns-in-0 : goal.returns-in-0
returns-in-0 c = probed_as _ _ _ _ _ _ _ _ _ c.in-0.is c.start.ensures

pub returns-in-1 : goal.returns-in-1
returns-in-1 c = probed_as _ _ _ _ _ _ _ _ _ c.in-1.is (update_as _ _ _ _ _ _ _ c.update_from.ensures c.update.ensures)

pub returns-in-2 : goal.returns-in-2
returns-in-2 c = probed_as _ _ _ _ _ _ _ _ _ c.in-2.is c.read.ensures

pub returns-in-3 : goal.returns-in-3
returns-in-3 c = probed_as _ _ _ _ _ _ _ _ _ c.in-3.is (search rules)

pub returns-in-4 : goal.returns-in-4
returns-in-4 c = probed_as _ _ _ _ _ _ _ _ _ c.in-4.is (search rules)

pub returns-in-5 : goal.returns-in-5
returns-in-5 c = probed_as _ _ _ _ _ _ _ _ _ c.in-5.is c.confirmed.ensures

pub returns-in-6 : goal.returns-in-6
returns-in-6 c = probed_as _ _ _ _ _ _ _ _ _ c.in-6.is c.ask.ensures

pub returns-in-7 : goal.returns-in-7
returns-in-7 c = probed_as _ _ _ _ _ _ _ _ _ c.in-7.is c.give_up.ensures

pub returns-in-8 : goal.returns-in-8
returns-in-8 c = probed_as _ _ _ _ _ _ _ _ _ c.in-8.is c.receive.ensures

pub returns-in-9 : goal.returns-in-9
returns-in-9 c = probed_as _ _ _ _ _ _ _ _ _ c.in-9.is c.pull.ensures

pub returns-in-10 : goal.returns-in-10
returns-in-10 c = probed_as _ _ _ _ _ _ _ _ _ c.in-10.is c.accept.ensures

pub returns-in-11 : goal.returns-in-11
returns-in-11 c = probed_as _ _ _ _ _ _ _ _ _ c.in-11.is c.serverdrop.ensures

pub returns-in-12 : goal.returns-in-12
returns-in-12 c = probed_as _ _ _ _ _ _ _ _ _ c.in-12.is c.crash.ensures

pub returns-in-13 : goal.returns-in-13
returns-in-13 c = probed_as _ _ _ _ _ _ _ _ _ c.in-13.is c.batch.ensures

pub returns-in-14 : goal.returns-in-14
returns-in-14 c = probed_as _ _ _ _ _ _ _ _ _ c.in-14.is c.cut.ensures

pub returns-in_default : goal.returns-in_default
returns-in_default c = refused_past _ _ _ _ _ _ (let n = c.requires in omega arith)
