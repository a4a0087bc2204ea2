-- No step of the machine answers refusal 1. Assumes nothing.
use mathlib.Core.Path.{◌≡◌, ap, ◌∙◌}
use mathlib.Core.Bool.{true, false≢true}
use Prim.Native.Nat.{ℕ}
use native.Mathlib.Omega.{arith}
use Rattle.protocol.specs.declared.Refusal.{Refusal}
use Rattle.protocol.specs.declared.Refusal.TheVariants.{NoTable, OutsideAllowed, NoDevice, NoCell, NotFinite, NotEstablished, NoPush, NoChannel, NoItem, NothingToDrop, NoRequest, NoConnection, PendingFull, PushesSpent, Held, BufferShort, NoImage, NoStep}
use Rattle.protocol.specs.Machine.{Table, Step, step, Answer, done, value, says_yes, says_no, moved, length_is, refused, refused_at}
use Rattle.protocol.specs.Machine as machine
use Rattle.protocol.specs.Refusals.{number_of}
use Rattle.sheet.specs.Sheet.{sheet}
use Rattle.sheet.proofs.MachineAnswers.{of_machine, is_answer, step_answers}
use Rattle.desk.specs.Demand3.{refusal_number}

-- no refusal of the machine's own has the number 1
own_not_1 : (r : Refusal) → of_machine r ≡ true → number_of r ≡ 1 → ⊥
own_not_1 NoTable e q = false≢true e
own_not_1 OutsideAllowed e q = omega arith
own_not_1 NoDevice e q = omega arith
own_not_1 NoCell e q = omega arith
own_not_1 NotFinite e q = omega arith
own_not_1 NotEstablished e q = omega arith
own_not_1 NoPush e q = omega arith
own_not_1 NoChannel e q = omega arith
own_not_1 NoItem e q = omega arith
own_not_1 NothingToDrop e q = omega arith
own_not_1 NoRequest e q = omega arith
own_not_1 NoConnection e q = omega arith
own_not_1 PendingFull e q = omega arith
own_not_1 PushesSpent e q = omega arith
own_not_1 Held e q = omega arith
own_not_1 BufferShort e q = omega arith
own_not_1 NoImage e q = omega arith
own_not_1 NoStep e q = omega arith

answer_not_1 : (a : Answer sheet) → is_answer (a) ≡ true → refusal_number a ≡ 1 → ⊥
answer_not_1 done e q = omega arith
answer_not_1 (value c) e q = omega arith
answer_not_1 says_yes e q = omega arith
answer_not_1 says_no e q = omega arith
answer_not_1 (moved k) e q = omega arith
answer_not_1 (length_is k) e q = omega arith
answer_not_1 (refused r) e q = own_not_1 r e q
answer_not_1 (refused_at r k) e q = own_not_1 r e q

-- a call that answers as a step, and one that writes an image or has no room for it
pub step_never_1 : (s : Step sheet) (t : Table sheet) (a : Answer sheet) → a ≡ (step sheet s t).answer → refusal_number a ≡ 1 → ⊥
step_never_1 s t a e = answer_not_1 a (ap is_answer e ∙ step_answers s t)

pub length_never_1 : (a : Answer sheet) (n : ℕ) → a ≡ machine.length_is n → refusal_number a ≡ 1 → ⊥
length_never_1 a n e = answer_not_1 a (ap is_answer e)

pub short_never_1 : (a : Answer sheet) → a ≡ machine.refused BufferShort → refusal_number a ≡ 1 → ⊥
short_never_1 a e q = let z = ap refusal_number (e) in omega arith
