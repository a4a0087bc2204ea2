-- Texts in which a byte does not stand: those of numbers have none below 45, so no comma (44) and no CR (13). Assumes nothing.
use Prim.Native.Nat.{ℕ, zero, suc, ◌+◌, ◌/◌, ◌%◌, ◌<◌}
use mathlib.Core.Path.{◌≡◌, refl, sym, subst}
use mathlib.Core.List.{List, [], ◌∷◌, ◌++◌}
use mathlib.Core.Bool.{Bool, true, false, cond}
use native.Mathlib.Omega.{arith}
use borrow.Author.Tests.{eqb-false}
use lib.Dec.{T, eqb, ltb}
use lib.IntN.{ℤ, nat_abs}
use Rattle.text.specs.Text.{Without, decimal_text, digit_byte, hex_text, is_negative, signed_text}
use Rattle.text.proofs.DecimalText.{by_digits, decimal_small, decimal_more}
use Rattle.text.proofs.Sign.{signed_below, signed_above}

module _ (b : ℕ) where
  pub without_append : (k l : List ℕ) → Without b k → Without b l → Without b (k ++ l)
  without_append [] l p q = q
  without_append (x ∷ k) l p q = (p.0, without_append k l p.1 q)

  -- by a test that computes
  abbrev pub lacks : List ℕ → Bool
  lacks [] = true
  lacks (x ∷ l) = cond (eqb x b) false (lacks l)

  pub without : (l : List ℕ) → T (lacks l) → Without b l
  without [] t = tt
  without (x ∷ l) t = by (eqb x b) refl t (without l)
    where
      by : (s : Bool) → eqb x b ≡ s → T (cond s false (lacks l)) → (T (lacks l) → Without b l) → (x ≡ b → ⊥) × Without b l
      by true q t ih = absurd t
      by false q t ih = (eqb-false x b q, ih t)

  -- the texts of numbers
  module _ (small : b < 45) where
    pub decimal_without : (n : ℕ) → Without b (decimal_text n)
    decimal_without = by_digits (λ (n : ℕ). Without b (decimal_text n))
        (λ n h. subst (Without b) (sym (decimal_small n h)) ((λ e. omega arith), tt))
        (λ n h ih. subst (Without b) (sym (decimal_more n h)) (without_append (decimal_text (n / 10)) ((48 + n % 10) ∷ []) ih ((λ e. omega arith), tt)))

    pub signed_without : (z : ℤ) → Without b (signed_text z)
    signed_without z = by (is_negative z) refl
      where
        by : (t : Bool) → is_negative z ≡ t → Without b (signed_text z)
        by true e = subst (Without b) (sym (signed_below z e)) ((λ k. omega arith), decimal_without (nat_abs z))
        by false e = subst (Without b) (sym (signed_above z e)) (decimal_without (nat_abs z))

    byte_without : (d : ℕ) → digit_byte d ≡ b → ⊥
    unfolding digit_byte
    byte_without d = by (ltb d 10)
      where
        by : (t : Bool) → cond t (48 + d) (55 + d) ≡ b → ⊥
        by true e = omega arith
        by false e = omega arith

    pub hex_without : (k n : ℕ) → Without b (hex_text k n)
    unfolding hex_text
    hex_without zero n = tt
    hex_without (suc k) n = without_append (hex_text k (n / 16)) (digit_byte (n % 16) ∷ []) (hex_without k (n / 16)) (byte_without (n % 16), tt)
