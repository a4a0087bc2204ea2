use mathlib.Core.List.{List, [], ◌∷◌}
use Prim.Native.Nat.{ℕ}
use mathlib.Core.Path.{sym, ap, ◌∙◌}
use native.Mathlib.Omega.{arith}
use Rattle.text.specs.Field.{record_of}
use Rattle.text.specs.Text.{hex_text}
use Rattle.text.proofs.HexText.{hex_length}
use Rattle.wording.specs.Names.{count_text, measure_text}
use Rattle.answers.specs.Answer.{cell_text}
use Rattle.answers.proofs.Answers.{one_text, two_texts, signed_read, signed_read_length}
use borrow.Author.Rules.{rules}
use Rattle.answers.proofs.answer.put_cell.Goals as goal

pub put_signed-requires : goal.put_signed-requires
put_signed-requires c =
    let p = c.put-m.ensures in
    omega (arith, p.behind, p.long, signed_read_length c.in-Count.n (search rules))

pub put_hex-requires : goal.put_hex-requires
put_hex-requires c = let p = c.put-m-in-Measure.ensures in omega (arith, p.behind, p.long)

pub returns-in-Blank : goal.returns-in-Blank
unfolding cell_text
returns-in-Blank c = one_text 32 _ _ _ _ _ (ap cell_text c.in-Blank.is) (omega arith) c.put.ensures

pub returns-in-Count : goal.returns-in-Count
unfolding cell_text record_of
returns-in-Count c =
    two_texts 32 _ _ _ _ _ _ _ _ (ap cell_text c.in-Count.is ∙ ap (λ (t : List ℕ). record_of count_text (t ∷ [])) (sym (signed_read c.in-Count.n (search rules))))
    (omega (arith, signed_read_length c.in-Count.n (search rules))) c.put-m.ensures c.put_signed.ensures

pub returns-in-Measure : goal.returns-in-Measure
unfolding cell_text record_of
returns-in-Measure c =
    two_texts 32 _ _ _ _ _ _ _ _ (ap cell_text c.in-Measure.is ∙ ap (λ (n : ℕ). record_of measure_text (hex_text 16 n ∷ [])) (sym c.bits_of.ensures))
    (omega (arith, hex_length 16 c.bits_of.result)) c.put-m-in-Measure.ensures c.put_hex.ensures
