-- The step program at document 01's machine: what it answers to a line, to lines, and to an input. Document 01's words ("Step program")
-- stand above each definition. Assumes nothing.
use Rattle.std.specs.Prelude.{Bool, ◌&&◌, List, [], ◌∷◌, ◌++◌, ℕ, leb, take}
use Rattle.std.proofs.Math.Option.{Option, none, some}
use Rattle.std.specs.Prelude as std
use Rattle.protocol.specs.declared.Refusal.TheVariants.{NoTable, OutsideAllowed, NoStep}
use Rattle.protocol.specs.Machine.{Table, choose, fresh, step, done, refused}
use Rattle.protocol.specs.Machine as machine
use Rattle.sheet.specs.Sheet.{sheet, started}
use Rattle.device.specs.Named.{update_of}
use Rattle.table.specs.Asked.{Asked, no_step, start, machine_step}
use Rattle.lines.specs.Lines.{lines_of}
use Rattle.text.specs.Number.{on_some}
use Rattle.wording.specs.declared.names.Act.{Act}
use Rattle.steps.specs.Parse.{parse_line}
use Rattle.answers.specs.Answer.{answer_line}
use Rattle.steps.specs.declared.parse.Counts.{Counts}
use Rattle.steps.specs.declared.parse.Step.{Step}

-- "`batch` and `cut` carry one count per device"
abbrev pub count_list : Counts → List ℕ
count_list c = take c.number (c.first ∷ c.second ∷ c.third ∷ [])

-- the steps that name a device alone
abbrev pub act_step : Act → ℕ → machine.Step sheet
act_step Act.Push device = machine.push device
act_step Act.Send device = machine.send device
act_step Act.Confirmed device = machine.confirmed device
act_step Act.Ask device = machine.ask device
act_step Act.Drop device = machine.drop_channel device
act_step Act.Receive device = machine.receive device
act_step Act.Pull device = machine.pull device
act_step Act.Accept device = machine.accept device
act_step Act.Serverdrop device = machine.serverdrop device

-- "First field is the step; then devices and cells for start, the device (and cell) elsewhere; `crash` stands alone."
abbrev pub asked : Step → Asked
asked (Step.Start devices cells) = start devices cells
asked (Step.Update device cell update) = machine_step (machine.update device (update_of cell update))
asked (Step.Read device cell) = machine_step (machine.read device cell)
asked (Step.Device act device) = machine_step (act_step act device)
asked Step.Crash = machine_step machine.crash
asked (Step.Batch counts) = machine_step (machine.batch (count_list counts))
asked (Step.Cut counts j) = machine_step (machine.cut (count_list counts) j)

-- "a line that is no step"
abbrev pub asked_by : std.Option Step → Asked
asked_by s = on_some no_step s asked

-- The answer, and the table since the last start: none before one.
pub record Reply : Type 0 where
  pub answer : machine.Answer sheet
  pub table : Option (Table sheet)

-- "devices: 1 to 8", "cells in the sheet: 1 to 64"; "above 3 devices or 16 cells"
abbrev pub allowed : (devices cells : ℕ) → Bool
allowed devices cells = leb 1 devices && leb devices 8 && leb 1 cells && leb cells 64

abbrev pub small : (devices cells : ℕ) → Bool
small devices cells = leb devices 3 && leb cells 16

-- "Start above 3 devices or 16 cells is refused 1 after check 2"; "a new start replaces the table, a refused one keeps it"
unfoldable pub start_from : Option (Table sheet) → (devices cells : ℕ) → Reply
start_from s devices cells =
    choose (allowed devices cells)
    (choose (small devices cells)
    (record { answer = done; table = some (fresh sheet (started devices cells)) })
    (record { answer = refused NoTable; table = s }))
    (record { answer = refused OutsideAllowed; table = s })

-- "before a start every other step gets 1"
abbrev pub step_from : Option (Table sheet) → machine.Step sheet → Reply
step_from none s = record { answer = refused NoTable; table = none }
step_from (some t) s = record { answer = (step sheet s t).answer; table = some (step sheet s t).table }

-- "a line that is no step" is 13
abbrev pub reply_to : Option (Table sheet) → Asked → Reply
reply_to s no_step = record { answer = refused NoStep; table = s }
reply_to s (start devices cells) = start_from s devices cells
reply_to s (machine_step m) = step_from s m

-- "one count per device (before a start, 1 to 3)": 0 says that there was no start
abbrev pub devices_of : Option (Table sheet) → ℕ
devices_of none = 0
devices_of (some t) = t.devices

-- "13, which goes before all others"
unfoldable pub answer_to : Option (Table sheet) → List ℕ → Reply
answer_to s line = reply_to s (asked_by (parse_line (devices_of s) line))

-- "Answers, one per line": to lines in order, and the table after them
unfoldable pub answers_to : Option (Table sheet) → List (List ℕ) → List ℕ
unfolding answer_to
answers_to s [] = []
answers_to s (line ∷ lines) = answer_line (answer_to s line).answer ++ answers_to (answer_to s line).table lines

unfoldable pub table_after : Option (Table sheet) → List (List ℕ) → Option (Table sheet)
unfolding answer_to
table_after s [] = s
table_after s (line ∷ lines) = table_after (answer_to s line).table lines

-- The whole program: standard output, of standard input.
unfoldable pub output_of : List ℕ → List ℕ
unfolding answers_to
output_of input = answers_to none (lines_of input)
