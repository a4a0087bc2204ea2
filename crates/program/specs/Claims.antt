-- The step program answers as document 01's machine does, to every line, to every list of lines and to every input, however it arrives; and
-- no second outcome fits its promises. Assumes nothing.
use Rattle.std.specs.Prelude.{◌≡◌, ◌↔◌, ◌⊎◌, List, [], ◌∷◌, ◌++◌, map, ℕ, ◌≤◌, length, get_or, take, drop, replicate}
use Rattle.std.proofs.Math.Option.{Option, none, some}
use Rattle.protocol.specs.declared.Refusal.{Refusal}
use Rattle.protocol.specs.declared.Refusal.TheVariants.{NoTable, OutsideAllowed, NoStep}
use Rattle.protocol.specs.Machine.{Table, refused, Answer}
use Rattle.protocol.specs.Machine as machine
use Rattle.protocol.specs.Fits.{Sizes}
use Rattle.protocol.specs.History as history
use Rattle.sheet.specs.Sheet.{sheet, started}
use Rattle.sheet.specs.Answer.{Given, BlockGiven, meaning, block_meaning, written}
use Rattle.words.specs.Layout.{DEVICES}
use Rattle.table.specs.Table.{need, reading, ValidTable}
use Rattle.lines.specs.Lines.{ended_in, unended_after}
use Rattle.lines.specs.Held.{Held, nothing, finish_of}
use Rattle.steps.specs.Grammar.{LineOf}
use Rattle.steps.specs.declared.parse.Step.{Step}
use Rattle.table.specs.Asked.{machine_step}
use Rattle.answering.specs.Program.{asked, devices_of, answer_to, answers_to, table_after, output_of}
use Rattle.answering.specs.Answered.{Small, Answered}
use Rattle.stepping.specs.Bytes.{Standing, Told, BytesFed, ChunkFed, Finished, ChunksFed}

-- The table is reached by steps from a start.
pub record Reached (t : Table sheet) : Type 0 where
  pub devices : ℕ
  pub cells : ℕ
  pub sizes : Sizes devices cells
  pub steps : List (machine.Step sheet)
  pub is : t ≡ history.table_after sheet (started devices cells) steps

-- The words hold the program's table, or none before a start; and there is room for 3 devices.
abbrev pub Holds : Option (Table sheet) → List ℕ → Type 0
Holds none xs = (get_or xs DEVICES 0 ≡ 0) × (need 3 ≤ length xs)
Holds (some t) xs = ValidTable xs × (reading xs ≡ t) × Reached t × (need 3 ≤ length xs)

-- The answer to a line is the machine's, and the words hold its table afterwards.
abbrev pub AnswersAsTheMachine : Type 0
AnswersAsTheMachine = (s : Option (Table sheet)) (line xs : List ℕ) (a : Answer sheet) (ys : List ℕ) → Holds s xs → Answered line xs a ys
    → (a ≡ (answer_to s line).answer) × Holds (answer_to s line).table ys

-- The same of what is given.
abbrev pub GivenAsTheMachine : Type 0
GivenAsTheMachine = (s : Option (Table sheet)) (line xs : List ℕ) (r : BlockGiven) (ys : List ℕ) → Holds s xs → Answered line xs (block_meaning r) ys
    → (r ≡ written (answer_to s line).answer) × Holds (answer_to s line).table ys

-- The words with which the program begins hold no table.
abbrev pub ZerosHoldNoTable : Type 0
ZerosHoldNoTable = (n : ℕ) → need 3 ≤ n → Holds none (replicate n 0)

-- "a refused one keeps it": no refusal changes the table.
abbrev pub RefusalKeepsTheTable : Type 0
RefusalKeepsTheTable = (s : Option (Table sheet)) (line : List ℕ) (r : Refusal) → (answer_to s line).answer ≡ refused r → (answer_to s line).table ≡ s

-- The refusals that are the program's own, each exactly when.
pub record Refusals (s : Option (Table sheet)) (line : List ℕ) : Type 0 where
  -- "a line that is no step", before all others
  pub refused_13 : ((answer_to s line).answer ≡ refused NoStep) ↔ ((t : Step) → LineOf (devices_of s) t line → ⊥)
  -- "start with devices or cells outside the allowed numbers"
  pub refused_2 : ((answer_to s line).answer ≡ refused OutsideAllowed)
      ↔ ((devices : ℕ) × (cells : ℕ) × LineOf (devices_of s) (Step.Start devices cells) line × (Sizes devices cells → ⊥))
  -- "Start above 3 devices or 16 cells is refused 1 after check 2; before a start every other step gets 1"
  pub refused_1 : ((answer_to s line).answer ≡ refused NoTable)
      ↔ (((devices : ℕ) × (cells : ℕ) × LineOf (devices_of s) (Step.Start devices cells) line × Sizes devices cells × (Small devices cells → ⊥))
      ⊎ ((s ≡ none) × (t : Step) × (m : machine.Step sheet) × LineOf (devices_of s) t line × (asked t ≡ machine_step m)))

abbrev pub RefusedExactlyWhen : Type 0
RefusedExactlyWhen = (s : Option (Table sheet)) (line : List ℕ) → Refusals s line

-- Lines, each answered on the words that the one before it left.
abbrev pub AllAnswered : List (List ℕ) → (xs : List ℕ) → List (Answer sheet) → (ys : List ℕ) → Type 0
AllAnswered [] xs [] ys = xs ≡ ys
AllAnswered [] xs (a ∷ answers) ys = ⊥
AllAnswered (line ∷ lines) xs [] ys = ⊥
AllAnswered (line ∷ lines) xs (a ∷ answers) ys = (zs : List ℕ) × Answered line xs a zs × AllAnswered lines zs answers ys

abbrev pub machine_answers : Option (Table sheet) → List (List ℕ) → List (Answer sheet)
machine_answers s [] = []
machine_answers s (line ∷ lines) = (answer_to s line).answer ∷ machine_answers (answer_to s line).table lines

-- The answers to any list of lines are the machine's.
abbrev pub AnswersEveryLine : Type 0
AnswersEveryLine = (s : Option (Table sheet)) (lines : List (List ℕ)) (xs : List ℕ) (answers : List (Answer sheet)) (ys : List ℕ) → Holds s xs → AllAnswered lines xs answers ys
    → (answers ≡ machine_answers s lines) × Holds (table_after s lines) ys

-- The same of what is given.
abbrev pub EveryLineGiven : Type 0
EveryLineGiven = (s : Option (Table sheet)) (lines : List (List ℕ)) (xs : List ℕ) (given : List BlockGiven) (ys : List ℕ) → Holds s xs
    → AllAnswered lines xs (map block_meaning given) ys → (given ≡ map written (machine_answers s lines)) × Holds (table_after s lines) ys

-- Bytes behind an unended line q: the lines that end in them are answered as the machine answers them, and the line that is left is held.
pub record FedAsTheMachine (s : Option (Table sheet)) (q input text : List ℕ) (y : Standing) : Type 0 where
  pub text_is : text ≡ answers_to s (ended_in q input)
  pub holds : Holds (table_after s (ended_in q input)) y.words
  pub held : Held (unended_after q input) y.buffer y.unended
  pub room : 81 ≤ length y.buffer

abbrev pub FeedsAsTheMachine : Type 0
FeedsAsTheMachine = (s : Option (Table sheet)) (q : List ℕ) (x : Standing) (input text : List ℕ) (y : Standing)
    → 81 ≤ length x.buffer → Held q x.buffer x.unended → Holds s x.words → BytesFed x input text y → FedAsTheMachine s q input text y

-- The output buffer after a chunk: the answers to exactly the lines that ended in it, in order, and behind them what stood there before.
pub record ChunkAnswered (s : Option (Table sheet)) (q input before after : List ℕ) (at : ℕ) (y : Standing) : Type 0 where
  pub answers : take at after ≡ answers_to s (ended_in q input)
  pub behind : drop at after ≡ drop at before
  pub then_is : FedAsTheMachine s q input (take at after) y

abbrev pub AnswersAChunk : Type 0
AnswersAChunk = (s : Option (Table sheet)) (q : List ℕ) (x : Standing) (input before after : List ℕ) (at : ℕ) (y : Standing)
    → 81 ≤ length x.buffer → Held q x.buffer x.unended → Holds s x.words → ChunkFed x input before after at y → ChunkAnswered s q input before after at y

-- The chunks in which an input arrives, as one.
abbrev pub whole : List (List ℕ) → List ℕ
whole [] = []
whole (chunk ∷ chunks) = chunk ++ whole chunks

-- The whole program, from words that no start has filled: what is written is the output of the whole input, however it arrived in chunks.
abbrev pub WholeProgram : Type 0
WholeProgram = (buffer xs : List ℕ) (chunks : List (List ℕ)) (text : List ℕ) (y : Standing) (last ys : List ℕ)
    → 81 ≤ length buffer → need 3 ≤ length xs → get_or xs DEVICES 0 ≡ 0
    → ChunksFed (record { buffer = buffer; unended = nothing; words = xs }) chunks text y
    → Told (finish_of y.unended) y.buffer y.words last ys
    → text ++ last ≡ output_of (whole chunks)

-- What is written does not depend on how the input arrives.
abbrev pub HoweverItArrives : Type 0
HoweverItArrives = (buffer xs : List ℕ) (chunks chunks' : List (List ℕ)) (text text' : List ℕ) (y y' : Standing) (last last' ys ys' : List ℕ)
    → 81 ≤ length buffer → need 3 ≤ length xs → get_or xs DEVICES 0 ≡ 0
    → whole chunks ≡ whole chunks'
    → ChunksFed (record { buffer = buffer; unended = nothing; words = xs }) chunks text y
    → Told (finish_of y.unended) y.buffer y.words last ys
    → ChunksFed (record { buffer = buffer; unended = nothing; words = xs }) chunks' text' y'
    → Told (finish_of y'.unended) y'.buffer y'.words last' ys'
    → text ++ last ≡ text' ++ last'

-- No second outcome fits, whatever the words and buffers hold.
abbrev pub OneAnswer : Type 0
OneAnswer = (line xs : List ℕ) (a b : Answer sheet) (ys zs : List ℕ) → Answered line xs a ys → Answered line xs b zs → (a ≡ b) × (ys ≡ zs)

abbrev pub OneAnswerGiven : Type 0
OneAnswerGiven = (line xs : List ℕ) (r q : Given) (ys zs : List ℕ) → Answered line xs (meaning r) ys → Answered line xs (meaning q) zs
    → (r ≡ q) × (ys ≡ zs)

abbrev pub OneChunk : Type 0
OneChunk = (x : Standing) (input before after after' : List ℕ) (at at' : ℕ) (y z : Standing) → ChunkFed x input before after at y → ChunkFed x input before after' at' z
    → (after ≡ after') × (at ≡ at') × (y ≡ z)

abbrev pub OneEnd : Type 0
OneEnd = (x : Standing) (before after after' : List ℕ) (at at' : ℕ) (ys zs : List ℕ) → Finished x before after at ys → Finished x before after' at' zs
    → (after ≡ after') × (at ≡ at') × (ys ≡ zs)
