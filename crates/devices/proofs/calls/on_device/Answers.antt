-- `devices::calls::on_device` meets its contract: no table, no such device, or the step.
use mathlib.Core.Path.{refl}
use Rattle.std.proofs.lemmas.Result.{err_from_is_err_and}
use Rattle.device.specs.Named.{step_of}
use Rattle.table.proofs.Lifted.{not_known}
use Rattle.devices.proofs.Steps.{named_is}
use Rattle.devices.proofs.calls.on_device.Goals as goal

pub returns-in_err-extent_with : goal.returns-in_err-extent_with
returns-in_err-extent_with c =
    let p = err_from_is_err_and c.from_residual.result c.from_residual.ensures.1 in
    rw (p.1, p.2) (not_known _ (step_of _ c.args.d c.args.operation) _ _ (λ _. named_is _ _ refl c.args.d c.args.operation) _ c.in_err-extent_with.ensures)
