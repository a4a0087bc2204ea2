-- `link::waiting::share` meets its contract: by the connection, and then by what waits.
use Rattle.link.proofs.Gathers.{some_share}
use Rattle.std.proofs.Common.{rules}
use Rattle.link.proofs.waiting.share.Goals as goal

pub returns : goal.returns
returns c = some_share _ _ _ _ c.requires c.if-connection-eq0.false (search rules)
