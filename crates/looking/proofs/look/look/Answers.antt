-- `looking::look::look` meets its contract: each arm is its question.
use Rattle.looking.proofs.Looks.{tells_as}
use Rattle.looking.proofs.look.look.Goals as goal

pub returns-in-Read : goal.returns-in-Read
returns-in-Read c = tells_as _ _ _ _ _ _ c.in-Read.is c.read.ensures

pub returns-in-Confirmed : goal.returns-in-Confirmed
returns-in-Confirmed c = tells_as _ _ _ _ _ _ c.in-Confirmed.is c.confirmed.ensures
