-- `device::renew::renew` meets its contract: what it makes of the record is the law's.
use lib.ListN.{length-set}
use native.Mathlib.Omega.{arith}
use Rattle.device.proofs.Renews.{renew_unheld, renew_held}
use Rattle.device.proofs.renew.renew.Goals as goal

pub bounds-r-7 : goal.bounds-r-7
bounds-r-7 c = simp length-set (omega (arith, c.requires.0.valid.size))

pub returns-then-connection-eq0 : goal.returns-then-connection-eq0
returns-then-connection-eq0 c = let p = c.requires in renew_unheld _ _ _ _ _ p.0 p.1 p.2 c.if-connection-eq0.true

pub returns : goal.returns
returns c = let p = c.requires in renew_held _ _ _ _ _ p.0 p.1 p.2 c.if-connection-eq0.false
