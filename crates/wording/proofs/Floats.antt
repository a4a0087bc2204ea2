-- Which patterns are a NaN's, as the code tests it. Assumes nothing.
use Prim.Native.Nat.{ℕ, ◌%◌, ◌≤◌, ◌<◌}
use mathlib.Core.Path.{◌≡◌, refl, sym, subst, ◌∙◌}
use mathlib.Core.Bool.{Bool, true, not}
use borrow.Author.Tests.{lt-ltb, le-ltb}
use lib.Dec.{T}
use lib.Ieee.{Float, nan, inf, fin, binary64, of_bits, of_fields, odd, is_nan, nan_bits, div, to_bits}
use lib.Ieee.Bits.{nan_bits_is, nan_bits_above}
use native.Mathlib.Omega.{arith}

nan_of : (x : Float) → is_nan x ≡ true → x ≡ nan
unfolding is_nan
nan_of nan e = refl
nan_of (inf s) e = let z : ◌≡◌ {A = ℕ} 0 1 = cc in absurd (omega arith)
nan_of (fin s m e') e = let z : ◌≡◌ {A = ℕ} 0 1 = cc in absurd (omega arith)

module _ (n : ℕ) where
  pub nan_above : 9218868437227405312 < n % 9223372036854775808 → of_bits binary64 n ≡ nan
  nan_above h = nan_of _ (sym (nan_bits_is binary64 n) ∙ nan_bits_above binary64 n ∙ lt-ltb _ _ h)

  pub plain_below : n % 9223372036854775808 ≤ 9218868437227405312 → T (not (nan_bits binary64 n))
  plain_below h = subst (λ (b : Bool). T (not b)) (sym (nan_bits_above binary64 n ∙ le-ltb _ _ h)) tt

pub made : div binary64 (of_bits binary64 0) (of_bits binary64 0) ≡ nan
unfolding div of_bits of_fields odd
made = refl

-- the word of every NaN
pub nan_word : (x : Float) → is_nan x ≡ true → 9221120237041090560 ≡ to_bits binary64 x
unfolding to_bits
nan_word x e = rw (nan_of x e)
