-- `server::calls::serverdrop` meets its contract: no table, no such device, or the step.
use Rattle.std.proofs.lemmas.Result.{err_from_is_err_and}
use Rattle.protocol.specs.Machine.{serverdrop_at}
use Rattle.sheet.specs.Sheet.{sheet}
use Rattle.table.proofs.Here.{record_here, stepped_here}
use Rattle.table.proofs.Lifted.{not_known}
use Rattle.server.proofs.Crashes.{serverdrop_at_is}
use Rattle.server.proofs.calls.serverdrop.Goals as goal

pub returns-in_err-extent : goal.returns-in_err-extent
returns-in_err-extent c =
    let p = err_from_is_err_and c.from_residual.result c.from_residual.ensures.1 in
    rw (p.1, p.2) (not_known _ (serverdrop_at sheet) _ _ (λ _. serverdrop_at_is c.args.d _) _ c.in_err-extent.ensures)

pub drop_connection-requires : goal.drop_connection-requires
drop_connection-requires c = let k = c.in_ok-extent.ensures in record_here _ _ _ c.args.d k.0 k.1

pub returns : goal.returns
returns c = let k = c.in_ok-extent.ensures in stepped_here _ _ _ c.args.d k.0 k.1 _ (serverdrop_at sheet) (serverdrop_at_is c.args.d _) _ _ c.drop_connection.auto.r c.drop_connection.ensures
