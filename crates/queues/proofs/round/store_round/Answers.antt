-- `queues::round::store_round` meets its contract: the number is stored, then the changes.
use Rattle.queues.proofs.Rounds.{round_beside, round_stored}
use Rattle.queues.proofs.round.store_round.Goals as goal

pub copy-requires : goal.copy-requires
copy-requires c = round_beside _ _ _ _ _ c.requires.0 c.requires.1

pub returns : goal.returns
returns c = round_stored _ _ _ _ _ c.requires.0 c.requires.1 _ c.copy.ensures
