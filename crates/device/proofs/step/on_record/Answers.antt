-- `device::step::on_record` meets its contract: each arm is its step.
use Rattle.device.proofs.Operations.{did_operation}
use Rattle.device.proofs.step.on_record.Goals as goal

pub returns-in-Update : goal.returns-in-Update
returns-in-Update c = did_operation _ _ _ _ _ _ _ _ c.in-Update.is (c.update.ensures _)

pub returns-in-Push : goal.returns-in-Push
returns-in-Push c = did_operation _ _ _ _ _ _ _ _ c.in-Push.is c.push.ensures

pub returns-in-Send : goal.returns-in-Send
returns-in-Send c = did_operation _ _ _ _ _ _ _ _ c.in-Send.is c.send.ensures

pub returns-in-Ask : goal.returns-in-Ask
returns-in-Ask c = did_operation _ _ _ _ _ _ _ _ c.in-Ask.is c.ask.ensures

pub returns-in-Drop : goal.returns-in-Drop
returns-in-Drop c = did_operation _ _ _ _ _ _ _ _ c.in-Drop.is c.give_up.ensures

pub returns-in-Receive : goal.returns-in-Receive
returns-in-Receive c = did_operation _ _ _ _ _ _ _ _ c.in-Receive.is c.receive.ensures

pub returns-in-Pull : goal.returns-in-Pull
returns-in-Pull c = did_operation _ _ _ _ _ _ _ _ c.in-Pull.is c.pull.ensures
