-- `link::ends::end_connection` meets its contract: the rounds of a stale connection go, then two words are stored.
use lib.ListN.{length-set}
use native.Mathlib.Omega.{arith}
use Rattle.link.proofs.EndLaws.{some_go, ended_so}
use Rattle.link.proofs.ends.end_connection.Goals as goal

pub drop_waiting-requires : goal.drop_waiting-requires
drop_waiting-requires c = some_go _ _ _ c.args.request _ c.requires.0 c.requires.1 c.going-k.ensures

pub bounds-r-4-2 : goal.bounds-r-4-2
bounds-r-4-2 c = simp length-set (omega (arith, c.requires.0.valid.size, c.drop_waiting.auto.r))

pub returns : goal.returns
returns c = ended_so _ _ _ _ _ c.requires.0 c.requires.1 c.going-k.ensures _ (omega (arith, c.requires.0.valid.size, c.drop_waiting.auto.r)) c.drop_waiting.ensures
