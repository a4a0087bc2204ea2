-- `delivery::deliver::deliver` meets its contract: behind the last, or joined to it.
use native.Mathlib.Omega.{arith}
use Rattle.delivery.proofs.Delivers.{stackable, last_behind, last_joinable, last_joined}
use Rattle.delivery.proofs.deliver.deliver.Goals as goal

pub put_behind-requires : goal.put_behind-requires
put_behind-requires c = stackable _ _ _ _ c.requires c.if-r.true

pub returns-then-r : goal.returns-then-r
returns-then-r c = last_behind _ _ _ _ c.requires _ c.if-r.true c.put_behind.ensures

pub join_to-requires : goal.join_to-requires
join_to-requires c = last_joinable _ _ _ _ c.requires (omega (arith, c.if-r.false))

pub returns : goal.returns
returns c = last_joined _ _ _ _ c.requires (omega (arith, c.if-r.false)) _ c.join_to.ensures
