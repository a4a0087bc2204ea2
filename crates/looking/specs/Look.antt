-- Document 01's read and confirmed, the two steps of a device that only look. Assumes nothing.
use Rattle.std.specs.Prelude.{ℕ}
use Rattle.protocol.specs.Machine.{Device, Local, Step, read_at, confirmed_at}
use Rattle.protocol.specs.Machine as machine
use Rattle.sheet.specs.Sheet.{sheet}
use Rattle.looking.specs.declared.look.Question.{Question}
use Rattle.looking.specs.declared.look.Question.TheVariants.{Read, Confirmed}

-- The machine's step of a device that a question names.
abbrev pub question_of : (cells : ℕ) → Question → Device sheet → Local sheet
question_of cells (Read c) = read_at sheet cells c
question_of cells Confirmed = confirmed_at sheet cells

-- The machine's step of the table that it is.
abbrev pub question_step : (d : ℕ) → Question → Step sheet
question_step d (Read c) = machine.read d c
question_step d Confirmed = machine.confirmed d
