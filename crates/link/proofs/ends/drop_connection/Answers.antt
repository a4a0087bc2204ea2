-- `link::ends::drop_connection` meets its contract: there is no connection, or it ends.
use Rattle.link.proofs.EndLaws.{serverdrop_refused, serverdrop_done}
use Rattle.link.proofs.ends.drop_connection.Goals as goal

pub returns-then-r-eq0 : goal.returns-then-r-eq0
returns-then-r-eq0 c = serverdrop_refused _ _ _ c.requires c.if-r-eq0.true

pub returns : goal.returns
returns c = serverdrop_done _ _ _ _ _ c.if-r-eq0.false c.end_connection.ensures
