-- `device::pull::pull` meets its contract: what it makes of the record is the law's.
use native.Mathlib.Omega.{arith}
use lib.ListN.{length-set}
use Rattle.words.proofs.Tests.{not_zero}
use Rattle.device.proofs.Pulls.{pull_nothing, has_pending, pull_done}
use Rattle.device.proofs.pull.pull.Goals as goal

pub returns-then-r-eq0 : goal.returns-then-r-eq0
returns-then-r-eq0 c = pull_nothing _ _ _ c.requires.0 _ c.if-r-eq0.true

pub take_in-requires : goal.take_in-requires
take_in-requires c = let R = c.requires.0 in (R.valid.size, R.valid.known, R.valid.received (not_zero _ c.if-r-eq0.false))

pub forget-requires : goal.forget-requires
forget-requires c = has_pending _ _ _ c.requires.0 c.args.d (not_zero _ c.if-r-eq0.false) _ (omega (arith, c.requires.0.valid.size, c.take_in.auto.r)) c.take_in.ensures

pub returns : goal.returns
returns c = pull_done _ _ _ c.requires.0 _ (not_zero _ c.if-r-eq0.false) _ (omega (arith, c.requires.0.valid.size, c.take_in.auto.r)) c.take_in.ensures c.requires.1 _ (omega (arith, c.requires.0.valid.size, c.take_in.auto.r, simp length-set at c.forget.auto.r)) c.forget.ensures
