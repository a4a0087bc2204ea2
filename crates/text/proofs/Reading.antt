-- What the reading of digits, decimals and signed numbers answers, test by test. Assumes nothing.
use Prim.Native.Nat.{ℕ, ◌-◌, ◌≤◌, ◌<◌}
use mathlib.Core.Path.{◌≡◌}
use mathlib.Core.List.{List}
use mathlib.Core.Bool.{true, false}
use borrow.Author.Tests.{lt-leb, le-leb, lt-ltb, eq-eqb, ne_eqb}
use lib.ListN.{length, get_or, drop}
use lib.Dec.{eqb}
use lib.IntN.{pos, negsuc}
use Rattle.text.specs.Number.{digits_from, leading_zero, decimal_of, positive_of, negative_of, starts_minus, signed_of, bits_of}
use Rattle.std.specs.Prelude.{Some, None}

module _ (most : ℕ) (f : List ℕ) where
  pub decimal_is : (length f ≡ 0 → ⊥) → false ≡ leading_zero f → digits_from 10 most 0 f ≡ decimal_of most f
  unfolding decimal_of
  decimal_is h e = rw (ne_eqb (length f) 0 h, ← e)

-- signed numbers
module _ (v : ℕ) where
  pub positive_is : v ≤ 9223372036854775807 → positive_of (Some v) ≡ Some (pos v)
  unfolding positive_of
  positive_is h = rw (le-leb v 9223372036854775807 h)

  pub positive_not : 9223372036854775807 < v → positive_of (Some v) ≡ None
  unfolding positive_of
  positive_not h = rw (lt-leb v 9223372036854775807 h)

  pub negative_is : (v ≡ 0 → ⊥) → v ≤ 9223372036854775808 → negative_of (Some v) ≡ Some (negsuc (v - 1))
  unfolding negative_of
  negative_is z h = rw (ne_eqb v 0 z, le-leb v 9223372036854775808 h)

  pub negative_not : (v ≡ 0 → ⊥) → 9223372036854775808 < v → negative_of (Some v) ≡ None
  unfolding negative_of
  negative_not z h = rw (ne_eqb v 0 z, lt-leb v 9223372036854775808 h)

  pub negative_zero : v ≡ 0 → negative_of (Some v) ≡ None
  unfolding negative_of
  negative_zero h = rw h

module _ (f : List ℕ) where
  pub minus_first : 0 < length f → eqb (get_or f 0 0) 45 ≡ starts_minus f
  unfolding starts_minus
  minus_first h = rw (lt-ltb 0 (length f) h)

  pub signed_minus : starts_minus f ≡ true → negative_of (decimal_of 9223372036854775808 (drop 1 f)) ≡ signed_of f
  unfolding signed_of
  signed_minus h = rw h

  pub signed_plain : starts_minus f ≡ false → positive_of (decimal_of 9223372036854775808 f) ≡ signed_of f
  unfolding signed_of
  signed_plain h = rw h

module _ (f : List ℕ) where
  pub bits_is : length f ≡ 16 → digits_from 16 18446744073709551615 0 f ≡ bits_of f
  unfolding bits_of
  bits_is h = rw (eq-eqb (length f) 16 h)

  pub bits_not : (length f ≡ 16 → ⊥) → None ≡ bits_of f
  unfolding bits_of
  bits_not h = rw (ne_eqb (length f) 16 h)
