-- `queues::round::add_round` meets its contract: the round is stored behind the last, and counted.
use native.Mathlib.Omega.{arith}
use Rattle.queues.proofs.Rounds.{add_beside, add_out, round_added}
use Rattle.queues.proofs.round.add_round.Goals as goal

pub store_round-requires : goal.store_round-requires
store_round-requires c = let A = c.requires in (add_beside _ _ _ _ A, add_out _ _ _ _ A)

pub returns : goal.returns
returns c = let A = c.requires in round_added _ _ _ _ A _ (omega (arith, A.size, A.single)) c.store_round.ensures
