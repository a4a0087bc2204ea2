-- `words::across::copy_from` meets its contract: each turn stores one place more.
use Rattle.std.proofs.Common.{◌≡◌, arith}
use Rattle.words.proofs.Places.{place_local, filled_none, filled_more}
use Rattle.words.proofs.across.copy_from.Goals as goal

pub loop-i-init : goal.loop-i-init
loop-i-init g c = filled_none _ (place_local _ _) _ _ _

pub loop-i-preserved : goal.loop-i-preserved
loop-i-preserved g c = filled_more _ (place_local _ _) _ _ _ _ _ c.loop-i.i _ c.loop-i.invariant c.put.ensures c.get-v.ensures.is

pub returns : goal.returns
returns g c = let e : c.loop-i.i ≡ c.args.n = omega arith in rw e at c.loop-i.invariant
