-- Numbers written as text, the end of a record, and text put into a buffer (document 01, "Step program"). Assumes nothing.
use Rattle.std.specs.Prelude.{ℕ, zero, suc, ◌+◌, ◌/◌, ◌%◌, ◌≡◌, List, [], ◌∷◌, ◌++◌, Bool, true, false, cond, length, take, drop, ℤ, pos, negsuc, nat_abs, ltb}

-- A text was put at a place of a buffer that held `before` and then holds `after`; `next` is the place behind the text. What stands before the place
-- and what stands behind the text are as they were.
pub record Put (before : List ℕ) (at : ℕ) (text after : List ℕ) (next : ℕ) : Type 0 where
  pub behind : next ≡ at + length text
  pub long : length after ≡ length before
  pub holds : take next after ≡ take at before ++ text
  pub kept : drop next after ≡ drop next before

-- "CRLF": a record and the end of its line
abbrev pub ended : List ℕ → List ℕ
ended l = l ++ (13 ∷ 10 ∷ [])

-- a text in which the byte b does not stand
abbrev pub Without : ℕ → List ℕ → Type 0
Without b [] = Unit {0}
Without b (x ∷ l) = (x ≡ b → ⊥) × Without b l

-- the digits of n, the most significant first, in at most `steps` of them
unfoldable pub decimal_in : ℕ → ℕ → List ℕ
decimal_in zero n = []
decimal_in (suc steps) n = cond (ltb n 10) ((48 + n % 10) ∷ []) (decimal_in steps (n / 10) ++ ((48 + n % 10) ∷ []))

-- "Decimals have no leading zeros."
unfoldable pub decimal_text : ℕ → List ℕ
unfolding decimal_in
decimal_text n = decimal_in (suc n) n

-- a digit's byte: 0 to 9 (48 to 57), then A to F (65 to 70)
unfoldable pub digit_byte : ℕ → ℕ
digit_byte d = cond (ltb d 10) (48 + d) (55 + d)

-- "Upper-case hex digits": the last k of n.
unfoldable pub hex_text : ℕ → ℕ → List ℕ
unfolding digit_byte
hex_text zero n = []
hex_text (suc k) n = hex_text k (n / 16) ++ (digit_byte (n % 16) ∷ [])

unfoldable pub is_negative : ℤ → Bool
is_negative (pos n) = false
is_negative (negsuc n) = true

-- "A minus stands only before a nonzero n" (45 is the minus).
unfoldable pub signed_text : ℤ → List ℕ
unfolding decimal_text
signed_text z = cond (is_negative z) (45 ∷ decimal_text (nat_abs z)) (decimal_text (nat_abs z))
