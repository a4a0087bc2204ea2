-- Document 01, "Case S, input and answer side by side", as the whole program reads and writes it. Assumes nothing.
use Rattle.std.specs.Prelude.{◌≡◌, List, [], ◌∷◌, ◌++◌, ℕ, pos}
use Rattle.cells.specs.declared.Cell.{Cell}
use Rattle.protocol.specs.declared.Refusal.TheVariants.{Held}
use Rattle.protocol.specs.Machine.{Answer, done, value, says_yes, moved, refused}
use Rattle.sheet.specs.Sheet.{sheet}
use Rattle.text.specs.Field.{record_of}
use Rattle.text.specs.Text.{decimal_text, ended, signed_text}
use Rattle.wording.specs.Names.{start_text, update_text, read_text, batch_text, act_text, add_text}
use Rattle.answers.specs.Answer.{answer_line}
use Rattle.wording.specs.declared.names.Act.{Act}
use Rattle.answering.specs.Program.{output_of}

-- a step that names a device alone
abbrev of : Act → ℕ → List ℕ
of act device = ended (record_of (act_text act) (decimal_text device ∷ []))

abbrev read : ℕ → ℕ → List ℕ
read device cell = ended (record_of read_text (decimal_text device ∷ decimal_text cell ∷ []))

-- `batch,1,0`
abbrev batch : List ℕ
batch = ended (record_of batch_text (decimal_text 1 ∷ decimal_text 0 ∷ []))

-- a row of the table: what stands in it, and the answer
pub record Row : Type 0 where
  pub asks : List ℕ
  pub answers : Answer sheet

infix 90 ◌gives◌
abbrev pub ◌gives◌ : List ℕ → Answer sheet → Row
◌gives◌ step answer = record { asks = step; answers = answer }

-- `Held` is refusal 10
abbrev pub case_s : List Row
case_s =
    ended (record_of start_text (decimal_text 2 ∷ decimal_text 4 ∷ [])) gives done
    ∷ ended (record_of update_text (decimal_text 0 ∷ decimal_text 1 ∷ add_text ∷ signed_text (pos 1) ∷ [])) gives done
    ∷ of Act.Push 0 gives done
    ∷ of Act.Ask 0 gives done
    ∷ of Act.Accept 0 gives done
    ∷ of Act.Receive 0 gives done
    ∷ of Act.Send 0 gives done
    ∷ of Act.Ask 0 gives done
    ∷ batch gives moved 1
    ∷ of Act.Accept 0 gives refused Held
    ∷ of Act.Serverdrop 0 gives done
    ∷ of Act.Accept 0 gives done
    ∷ of Act.Receive 0 gives done
    ∷ read 0 1 gives value (Cell.Count (pos 1))
    ∷ of Act.Pull 0 gives done
    ∷ read 0 1 gives value (Cell.Count (pos 1))
    ∷ of Act.Confirmed 0 gives says_yes
    ∷ batch gives moved 0
    ∷ read 1 1 gives value Cell.Blank
    ∷ []

-- the columns as bytes
abbrev pub input : List Row → List ℕ
input [] = []
input (row ∷ rows) = row.asks ++ input rows

abbrev pub output : List Row → List ℕ
output [] = []
output (row ∷ rows) = answer_line row.answers ++ output rows

abbrev pub CaseSAnswered : Type 0
CaseSAnswered = output_of (input case_s) ≡ output case_s
