-- `coding::cell::cell_meant` meets its contract: a token that a cell has is good, and each good token is its cell's.
use mathlib.Core.Bool.{true≢false}
use mathlib.Core.Path.{◌∙◌, refl, subst, sym}
use native.Mathlib.Omega.{arith}
use Rattle.cbor.specs.Token.{TokenFits}
use Rattle.coding.specs.Item.{cell_token}
use Rattle.coding.proofs.Meaning.{Good, good, means_float, means_neg, means_pos}
use Rattle.coding.proofs.cell.cell_meant.Goals as goal

pub returns-in-Unsigned : goal.returns-in-Unsigned
returns-in-Unsigned c = means_pos _ _ c.if-a-lt-COUNTS.true c.in-Unsigned.is

pub returns-in-Negative : goal.returns-in-Negative
returns-in-Negative c = means_neg _ _ _ c.if-a-lt-COUNTS-2.true c.below_zero.ensures c.in-Negative.is

pub returns-in-Null : goal.returns-in-Null
unfolding cell_token
returns-in-Null c = (record { fits = tt; finite = refl }, sym c.in-Null.is)

pub returns-in-Float : goal.returns-in-Float
returns-in-Float c =
    let t = c.in-Float in
    means_float t.b c.f64_of_bits.result _ (subst TokenFits t.is c.requires) (sym c.if-finite_bits.ensures) c.f64_of_bits.ensures t.is

pub returns-in_default : goal.returns-in_default
returns-in_default c d ok e = let g = subst Good (e ∙ c.in-Unsigned.is) (good d ok) in omega arith

pub returns-in_default-2 : goal.returns-in_default-2
returns-in_default-2 c d ok e = let g = subst Good (e ∙ c.in-Negative.is) (good d ok) in omega arith

pub returns-in_default-3 : goal.returns-in_default-3
returns-in_default-3 c d ok e = true≢false (sym (subst Good (e ∙ c.in-Float.is) (good d ok)) ∙ sym c.if-finite_bits.ensures)

pub returns-in_default-4 : goal.returns-in_default-4
returns-in_default-4 c d ok e = subst Good (e ∙ c.in_default.is) (good d ok)
