use mathlib.Core.List.{List}
use Rattle.std.specs.Prelude.{Ok}
use Rattle.sheet.specs.Answer.{meaning}
use Rattle.sheet.specs.declared.Answer.{Answer}
use Prim.Native.Nat.{ℕ}
use mathlib.Core.Path.{sym, ap}
use native.Mathlib.Omega.{arith}
use Rattle.text.specs.Field.{record_of}
use Rattle.text.proofs.PutLaws.{put_none, put_as}
use Rattle.text.proofs.DecimalText.{decimal_length}
use Rattle.answers.specs.Answer.{answer_text}
use Rattle.answers.proofs.Answers.{one_text}
use Rattle.answers.proofs.answer.put_given.Goals as goal

abbrev ok_text : Answer → List ℕ
ok_text a = answer_text (meaning (Ok a))

pub returns-in-Done : goal.returns-in-Done
unfolding answer_text
returns-in-Done c = one_text 32 _ _ _ _ _ (ap ok_text c.in-Done.is) (omega arith) c.put.ensures

pub returns-in-Value : goal.returns-in-Value
unfolding answer_text
returns-in-Value c = record { puts = put_as _ _ _ _ (sym (ap ok_text c.in-Value.is)) c.put_cell.ensures.puts; within = c.put_cell.ensures.within }

pub returns-in-Yes : goal.returns-in-Yes
unfolding answer_text
returns-in-Yes c = one_text 32 _ _ _ _ _ (ap ok_text c.in-Yes.is) (omega arith) c.put-in-Yes.ensures

pub returns-in-No : goal.returns-in-No
unfolding answer_text
returns-in-No c = one_text 32 _ _ _ _ _ (ap ok_text c.in-No.is) (omega arith) c.put-in-No.ensures

pub returns-in-Moved : goal.returns-in-Moved
unfolding answer_text record_of
returns-in-Moved c = one_text 32 _ _ _ _ _ (ap ok_text c.in-Moved.is) (omega (arith, decimal_length c.in-Moved.k (omega arith))) c.put_numbered.ensures

pub returns-in-Length : goal.returns-in-Length
unfolding answer_text
returns-in-Length c = one_text 32 _ _ _ _ _ (ap ok_text c.in-Length.is) (omega arith) (put_none _ _)
