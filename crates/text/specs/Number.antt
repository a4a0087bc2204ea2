-- Numbers as fields give them (document 01, "Step program"). Assumes nothing.
use Rattle.std.specs.Prelude.{ℕ, ◌+◌, ◌-◌, ◌*◌, List, [], ◌∷◌, Bool, false, cond, ◌&&◌, length, get_or, drop, ltb, leb, eqb, ℤ, pos, negsuc, Option, Some, None}

-- what is made of a value that was read, and of none
abbrev pub on_some : {A B : Type 0} → B → Option A → (A → B) → B
on_some none (Some v) some = some v
on_some none None some = none

-- The value of a digit: 0 to 9 (48 to 57), then A to F (65 to 70). "Input hex is upper case."
unfoldable pub digit_of : ℕ → Option ℕ
digit_of b = cond (leb 48 b && leb b 57) (Some (b - 48)) (cond (leb 65 b && leb b 70) (Some (b - 55)) None)

-- the number with the digit d of a base behind it, where that is at most `most`
unfoldable pub with_digit : ℕ → ℕ → ℕ → ℕ → Option ℕ
with_digit base most number d = cond (ltb d base && leb (number * base + d) most) (Some (number * base + d)) None

unfoldable pub next_digit : ℕ → ℕ → ℕ → ℕ → Option ℕ
unfolding digit_of with_digit
next_digit base most number b = on_some None (digit_of b) (with_digit base most number)

-- the digits that are left, read behind a number
unfoldable pub digits_from : ℕ → ℕ → ℕ → List ℕ → Option ℕ
unfolding next_digit
digits_from base most number [] = Some number
digits_from base most number (b ∷ rest) = on_some None (next_digit base most number b) (λ v. digits_from base most v rest)

-- a 0 (48) with something behind it
unfoldable pub leading_zero : List ℕ → Bool
leading_zero l = cond (ltb 1 (length l)) (eqb (get_or l 0 0) 48) false

-- "Decimals have no leading zeros": digits, at least one, and the number at most `most`.
unfoldable pub decimal_of : ℕ → List ℕ → Option ℕ
unfolding digits_from leading_zero
decimal_of most l = cond (eqb (length l) 0) None (cond (leading_zero l) None (digits_from 10 most 0 l))

-- "and fit 64 signed bits": a number as it stands, and behind a minus, where it is not 0
unfoldable pub positive_of : Option ℕ → Option ℤ
positive_of (Some v) = cond (leb v 9223372036854775807) (Some (pos v)) None
positive_of None = None

unfoldable pub negative_of : Option ℕ → Option ℤ
negative_of (Some v) = cond (eqb v 0) None (cond (leb v 9223372036854775808) (Some (negsuc (v - 1))) None)
negative_of None = None

unfoldable pub starts_minus : List ℕ → Bool
starts_minus l = cond (ltb 0 (length l)) (eqb (get_or l 0 0) 45) false

-- "A minus stands only before a nonzero n" (45 is the minus).
unfoldable pub signed_of : List ℕ → Option ℤ
unfolding positive_of negative_of decimal_of starts_minus
signed_of l =
    cond (starts_minus l) (negative_of (decimal_of 9223372036854775808 (drop 1 l))) (positive_of (decimal_of 9223372036854775808 l))

-- "16 hex digits": the 64 bits that they are
unfoldable pub bits_of : List ℕ → Option ℕ
unfolding digits_from
bits_of l = cond (eqb (length l) 16) (digits_from 16 18446744073709551615 0 l) None
