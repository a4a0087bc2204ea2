-- Signed numbers as the machine has them, and their texts. Assumes nothing.
use Prim.Native.Nat.{ℕ, ◌^◌, ◌≤◌, ◌<◌}
use mathlib.Core.Path.{◌≡◌, refl, ap, sym, ◌∙◌}
use mathlib.Core.List.{[], ◌∷◌, ◌++◌}
use mathlib.Core.Bool.{Bool, true, false}
use native.Mathlib.Omega.{arith}
use borrow.Author.Tests.{le-ltb}
use lib.ListN.{length}
use lib.IntN.{ℤ, pos, negsuc, nat_abs}
use lib.Signed.{lt_z}
use mir.Syntax.{w64}
use mir.Val.{SFits, to_z, of_z}
use mir.ValLaws.{to_z-of_z}
use Rattle.text.specs.Text.{decimal_text, is_negative, signed_text}
use Rattle.text.proofs.DecimalText.{decimal_length}

-- the machine's signed numbers

sign_of : (z : ℤ) → lt_z z (pos 0) ≡ is_negative z
unfolding is_negative
sign_of (pos n) = le-ltb n 0 (omega arith)
sign_of (negsuc n) = refl

pub magnitude_fits : (z : ℤ) → SFits w64 z → nat_abs z ≤ 2 ^ 63
magnitude_fits (pos n) h = let b : n < 2 ^ 63 = h.sfits in omega arith
magnitude_fits (negsuc n) h = let b : n < 2 ^ 63 = h.sfits in omega arith

-- what the machine answers of z's sign and magnitude
module _ (z : ℤ) (h : SFits w64 z) where
  pub sign_read : {t : Bool} → lt_z (to_z w64 (of_z w64 z)) (pos 0) ≡ t → is_negative z ≡ t
  sign_read e = sym (ap (λ (x : ℤ). lt_z x (pos 0)) (to_z-of_z w64 z h) ∙ sign_of z) ∙ e

  pub magnitude_read : {r : ℕ} → r ≡ nat_abs (to_z w64 (of_z w64 z)) → r ≡ nat_abs z
  magnitude_read e = e ∙ ap nat_abs (to_z-of_z w64 z h)

-- the text of a signed number
pub signed_below : (z : ℤ) → is_negative z ≡ true → signed_text z ≡ (45 ∷ []) ++ decimal_text (nat_abs z)
unfolding signed_text
signed_below z e = rw e

pub signed_above : (z : ℤ) → is_negative z ≡ false → signed_text z ≡ decimal_text (nat_abs z)
unfolding signed_text
signed_above z e = rw e

signed_length_by : (z : ℤ) (b : Bool) → is_negative z ≡ b → SFits w64 z → length (signed_text z) ≤ 21
signed_length_by z true e h = omega (arith, ap length (signed_below z e), decimal_length (nat_abs z) (omega (arith, magnitude_fits z h)))
signed_length_by z false e h = omega (arith, ap length (signed_above z e), decimal_length (nat_abs z) (omega (arith, magnitude_fits z h)))

pub signed_length : (z : ℤ) → SFits w64 z → length (signed_text z) ≤ 21
signed_length z h = signed_length_by z (is_negative z) refl h
