-- `device::give_up::give_up` meets its contract: it is no channel, in the place of one.
use Rattle.device.proofs.Renews.{drop_refused, drop_done}
use Rattle.device.proofs.give_up.give_up.Goals as goal

pub returns-then-r-eq0 : goal.returns-then-r-eq0
returns-then-r-eq0 c = drop_refused _ _ _ c.requires c.if-r-eq0.true

pub returns : goal.returns
returns c = drop_done _ _ _ _ _ c.if-r-eq0.false c.renew.ensures
