-- A step on a device's record, named by an operation or a question, is the machine's step on the table. Assumes nothing.
use mathlib.Core.Path.{◌≡◌, refl, sym, ap, ◌∙◌}
use mathlib.Core.List.{List}
use Prim.Native.Nat.{ℕ}
use lib.ListN.{get_or}
use Rattle.protocol.specs.Machine.{Table, at, step}
use Rattle.sheet.specs.Sheet.{sheet}
use Rattle.words.specs.Layout.{CELLS}
use Rattle.device.specs.Named.{step_of, table_step}
use Rattle.device.specs.declared.step.Operation.{Operation}
use Rattle.device.specs.declared.step.Operation.TheVariants.{Push, Send, Ask, Drop, Receive, Pull}
use Rattle.looking.specs.Look.{question_of, question_step}
use Rattle.looking.specs.declared.look.Question.{Question}
use Rattle.looking.specs.declared.look.Question.TheVariants.{Read, Confirmed}
use Rattle.table.specs.Table.{reading}

-- The cells of a table are those that its header says.
pub cells_is : (xs : List ℕ) → (reading xs).cells ≡ get_or xs CELLS 0
cells_is xs = unfold reading in refl

-- The machine's step that an operation names is the device's.
named_at : (d : ℕ) (operation : Operation) (t : Table sheet) → step sheet (table_step d operation) t ≡ at sheet t d (step_of t.cells d operation)
unfolding step
named_at d (Operation.Update cell u) t = refl
named_at d Push t = refl
named_at d Send t = refl
named_at d Ask t = refl
named_at d Drop t = refl
named_at d Receive t = refl
named_at d Pull t = refl

pub named_is : (xs : List ℕ) (cells : ℕ) → cells ≡ get_or xs CELLS 0 → (d : ℕ) (operation : Operation) → step sheet (table_step d operation) (reading xs) ≡ at sheet (reading xs) d (step_of cells d operation)
named_is xs cells e d operation = named_at d operation (reading xs) ∙ ap (λ (c : ℕ). at sheet (reading xs) d (step_of c d operation)) (cells_is xs ∙ sym e)

-- The same of a question.
asked_at : (d : ℕ) (q : Question) (t : Table sheet) → step sheet (question_step d q) t ≡ at sheet t d (question_of t.cells q)
unfolding step
asked_at d (Read c) t = refl
asked_at d Confirmed t = refl

pub asked_is : (xs : List ℕ) (cells : ℕ) → cells ≡ get_or xs CELLS 0 → (d : ℕ) (q : Question) → step sheet (question_step d q) (reading xs) ≡ at sheet (reading xs) d (question_of cells q)
asked_is xs cells e d q = asked_at d q (reading xs) ∙ ap (λ (c : ℕ). at sheet (reading xs) d (question_of c q)) (cells_is xs ∙ sym e)
