-- Document 01, "Device": the steps, as an operation names them. Assumes nothing.
use Rattle.std.specs.Prelude.{Bool, ℕ}
use Rattle.cells.specs.declared.Update.{Update}
use Rattle.protocol.specs.Machine.{Channel, Device, Local, Step, fine, renewed, with_link, update_at, push_at, send_at, ask_at, drop_at, receive_at, pull_at}
use Rattle.protocol.specs.Machine as machine
use Rattle.sheet.specs.Changes.{CellUpdate}
use Rattle.sheet.specs.Sheet.{sheet}
use Rattle.device.specs.declared.step.Operation.{Operation}
use Rattle.device.specs.declared.step.Operation.TheVariants.{Push, Send, Ask, Drop, Receive, Pull}

-- "An update names a cell"
abbrev pub update_of : (cell : ℕ) → Update → CellUpdate
update_of cell u = record { cell = cell; update = u }

-- What ask and drop have in common: a new channel, or none, in the old one's place.
abbrev pub renew_at : Channel → Bool → Device sheet → Local sheet
renew_at c r x = fine (with_link sheet x (renewed sheet c r x.link))

-- The machine's step of device d that an operation names.
abbrev pub step_of : (cells d : ℕ) → Operation → Device sheet → Local sheet
step_of cells d (Operation.Update cell u) = update_at sheet cells d (update_of cell u)
step_of cells d Push = push_at sheet
step_of cells d Send = send_at sheet
step_of cells d Ask = ask_at sheet
step_of cells d Drop = drop_at sheet
step_of cells d Receive = receive_at sheet d
step_of cells d Pull = pull_at sheet d

-- The machine's step of the table that it is.
abbrev pub table_step : (d : ℕ) → Operation → Step sheet
table_step d (Operation.Update cell u) = machine.update d (update_of cell u)
table_step d Push = machine.push d
table_step d Send = machine.send d
table_step d Ask = machine.ask d
table_step d Drop = machine.drop_channel d
table_step d Receive = machine.receive d
table_step d Pull = machine.pull d
