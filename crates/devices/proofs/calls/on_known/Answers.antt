-- `devices::calls::on_known` meets its contract: a step on the record is the step on the table.
use mathlib.Core.Path.{refl}
use Rattle.device.specs.Named.{step_of}
use Rattle.table.proofs.Here.{record_here, stepped_here}
use Rattle.devices.proofs.Steps.{named_is}
use Rattle.devices.proofs.calls.on_known.Goals as goal

pub on_record-requires : goal.on_record-requires
on_record-requires c = (record_here _ _ _ c.args.d (record { table = c.requires.0; devices_are = refl; cells_are = refl }) c.requires.1, c.requires.1)

pub returns : goal.returns
returns c =
    stepped_here _ _ _ c.args.d (record { table = c.requires.0; devices_are = refl; cells_are = refl }) c.requires.1 _ (step_of _ c.args.d c.args.operation) (named_is _ _ refl c.args.d c.args.operation)
    _ _ c.on_record.auto.r c.on_record.ensures
