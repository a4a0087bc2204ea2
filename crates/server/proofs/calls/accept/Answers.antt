-- `server::calls::accept` meets its contract: no table, no such device, or the step with the present prefix.
use mathlib.Core.Path.{refl}
use Rattle.std.proofs.lemmas.Result.{err_from_is_err_and}
use Rattle.protocol.specs.Machine.{accept_with}
use Rattle.sheet.specs.Sheet.{sheet}
use Rattle.table.proofs.Here.{record_here, stepped_here}
use Rattle.table.proofs.Lifted.{not_known}
use Rattle.server.proofs.Accepts.{accept_at_is, prefix_item}
use Rattle.server.proofs.calls.accept.Goals as goal

pub returns-in_err-extent : goal.returns-in_err-extent
returns-in_err-extent c =
    let p = err_from_is_err_and c.from_residual.result c.from_residual.ensures.1 in
    rw (p.1, p.2) (not_known _ (accept_with sheet _) _ _ (λ _. accept_at_is c.args.d _ _ refl) _ c.in_err-extent.ensures)

pub make_prefix-requires : goal.make_prefix-requires
make_prefix-requires c = (c.in_ok-extent.ensures.0, refl)

pub take_request-requires : goal.take_request-requires
take_request-requires c = let k = c.in_ok-extent.ensures in (record_here _ _ _ c.args.d k.0 k.1, prefix_item _ _ _ _ k.0 c.make_prefix.ensures)

pub returns : goal.returns
returns c =
    let k = c.in_ok-extent.ensures in
    stepped_here _ _ _ c.args.d k.0 k.1 _ (accept_with sheet _) (accept_at_is c.args.d _ _ c.make_prefix.ensures.is) _ _ c.take_request.auto.r c.take_request.ensures
