-- The hex digits of a number, from the last one on. Assumes nothing.
use Prim.Native.Nat.{ℕ, zero, suc, ◌+◌, ◌-◌, ◌/◌, ◌%◌, ◌≤◌, ◌<◌}
use mathlib.Core.Path.{◌≡◌, refl, ◌∙◌}
use mathlib.Core.List.{[], ◌∷◌, ◌++◌}
use native.Mathlib.Numerals.{add-one, sub-one}
use borrow.Author.Tests.{lt-ltb, le-ltb}
use lib.ListN.{length, length-append}
use Rattle.text.specs.Text.{digit_byte, hex_text}

pub low_byte : (d : ℕ) → d < 10 → digit_byte d ≡ 48 + d
unfolding digit_byte
low_byte d h = rw (lt-ltb d 10 h)

pub high_byte : (d : ℕ) → 10 ≤ d → digit_byte d ≡ 55 + d
unfolding digit_byte
high_byte d h = rw (le-ltb d 10 h)

-- a digit's byte as the code makes it

pub hex_more : (k n : ℕ) → (k ≡ 0 → ⊥) → hex_text k n ≡ hex_text (k - 1) (n / 16) ++ (digit_byte (n % 16) ∷ [])
unfolding hex_text
hex_more zero n z = absurd (z refl)
hex_more (suc k) n z = rw sub-one

pub hex_none : (k n : ℕ) → k ≡ 0 → hex_text k n ≡ []
unfolding hex_text
hex_none k n e = rw e

pub hex_length : (k n : ℕ) → length (hex_text k n) ≡ k
unfolding hex_text
hex_length zero n = refl
hex_length (suc k) n = length-append (hex_text k (n / 16)) _ ∙ rw (hex_length k (n / 16)) (add-one k)
