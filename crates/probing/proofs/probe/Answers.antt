-- `probing::probe` meets its contract: the block, or the call of the number.
use Rattle.probing.proofs.Asking.{probed_as}
use Rattle.probing.proofs.probe.Goals as goal

pub returns-in-15 : goal.returns-in-15
returns-in-15 c = probed_as _ _ _ _ _ _ _ _ _ c.in-15.is c.paste.ensures
