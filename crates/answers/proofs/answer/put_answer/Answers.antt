-- `answers::answer::put_answer` meets its contract: a refusal is its word and its number.
use mathlib.Core.List.{[], ◌∷◌}
use mathlib.Core.Path.{sym, ap, ◌∙◌}
use Prim.Native.Nat.{ℕ}
use Rattle.std.specs.Prelude.{Some}
use native.Mathlib.Omega.{arith}
use Rattle.text.specs.Field.{record_of}
use Rattle.text.specs.Text.{decimal_text}
use Rattle.text.proofs.DecimalText.{decimal_length}
use Rattle.wording.specs.Names.{refused_text}
use Rattle.answers.specs.Answer.{answer_text}
use Rattle.answers.proofs.Answers.{one_text, refused_by}
use Rattle.answers.proofs.answer.put_answer.Goals as goal

pub returns-in-Ok : goal.returns-in-Ok
returns-in-Ok g c = rw (c.in-Ok.is, g.met.E.Refused.given) c.put_given.ensures

pub returns-in-Err : goal.returns-in-Err
unfolding record_of
returns-in-Err g c =
    one_text 32 _ _ _ _ _ (ap (λ a. answer_text (g.E.Refused.meant a)) c.in-Err.is ∙ refused_by _ _ _ (g.met.E.Refused.refuses _ ∙ ap Some (sym c.told-refusal.ensures)) ∙ ap (λ (n : ℕ). record_of refused_text (decimal_text n ∷ [])) (sym c.number_of.ensures))
    (omega (arith, decimal_length c.number_of.result (omega arith))) c.put_numbered.ensures
