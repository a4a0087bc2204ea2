-- `device::ask::ask` meets its contract: it is a new channel, asked for.
use Rattle.device.proofs.Renews.{ask_done}
use Rattle.device.proofs.ask.ask.Goals as goal

pub returns : goal.returns
returns c = ask_done _ _ _ _ _ c.renew.ensures
