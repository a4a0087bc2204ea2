-- `devices::calls::ask_device` meets its contract: no table, no such device, or what the record tells.
use mathlib.Core.Path.{refl}
use Rattle.std.proofs.lemmas.Result.{err_from_is_err_and}
use Rattle.looking.specs.Look.{question_of}
use Rattle.table.proofs.Here.{record_here, told_here}
use Rattle.table.proofs.Lifted.{not_known}
use Rattle.devices.proofs.Steps.{asked_is}
use Rattle.devices.proofs.calls.ask_device.Goals as goal

pub returns-in_err-extent : goal.returns-in_err-extent
returns-in_err-extent c =
    let p = err_from_is_err_and c.from_residual.result c.from_residual.ensures.1 in
    rw (p.1, p.2) (not_known _ (question_of _ c.args.q) _ _ (λ _. asked_is _ _ refl c.args.d c.args.q) _ c.in_err-extent.ensures)

pub look-requires : goal.look-requires
look-requires c = let k = c.in_ok-extent.ensures in record_here _ _ _ c.args.d k.0 k.1

pub returns : goal.returns
returns c = let k = c.in_ok-extent.ensures in told_here _ _ _ c.args.d k.0 k.1 _ (question_of c.in_ok-extent.extent.cells c.args.q) (asked_is _ _ k.0.cells_are c.args.d c.args.q) _ c.look.ensures
