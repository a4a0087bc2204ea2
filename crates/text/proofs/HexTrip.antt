-- What is written as 16 hex digits is read as that number, and nothing else is. Assumes nothing.
use Prim.Native.Nat.{ℕ, zero, suc, ◌+◌, ◌/◌, ◌%◌, ◌^◌, ◌≤◌, ◌<◌}
use mathlib.Core.Path.{◌≡◌, refl, ap, sym, ◌∙◌}
use mathlib.Core.List.{List, [], ◌∷◌, ◌++◌, append_assoc, append-nil}
use mathlib.Core.Bool.{Bool, true, false}
use native.Mathlib.Omega.{arith}
use borrow.Author.Tests.{eqb-true, eqb-false}
use lib.ListN.{length}
use lib.Dec.{eqb}
use native.Mathlib.Nat.{pow-suc}
use Rattle.text.specs.Number.{on_some, next_digit, digits_from, bits_of}
use Rattle.std.specs.Prelude.{Option, Some, None}
use Rattle.text.specs.Text.{digit_byte, hex_text}
use Rattle.text.proofs.Digits.{next_is, next_read, snoc, on_is, not_is, is_is}
use Rattle.text.proofs.HexText.{hex_length}
use Rattle.text.proofs.Reading.{bits_is, bits_not}

-- the largest number of 64 bits
abbrev top : ℕ
top = 18446744073709551615

hex_start : (number : ℕ) → digits_from 16 top number [] ≡ Some number
unfolding digits_from
hex_start number = refl

hex_text_back : (k n : ℕ) → n < 16 ^ k → n ≤ top → digits_from 16 top 0 (hex_text k n) ≡ Some n
unfolding hex_text
hex_text_back zero n h g = hex_start 0 ∙ ap Some (omega arith)
hex_text_back (suc k) n h g =
    snoc 16 top 0 (hex_text k (n / 16)) (digit_byte (n % 16))
    ∙ ap (λ (w : Option ℕ). on_some None w (λ v. next_digit 16 top v (digit_byte (n % 16)))) (hex_text_back k (n / 16) (omega (arith, pow-suc 16 k)) (omega arith))
    ∙ next_is 16 top (n / 16) (digit_byte (n % 16)) (n % 16) n (omega arith) refl (omega arith) (omega arith) g

-- a number's 16 digits are read as the number
pub bits_complete : (n : ℕ) → n < 2 ^ 64 → bits_of (hex_text 16 n) ≡ Some n
bits_complete n h = sym (bits_is (hex_text 16 n) (hex_length 16 n)) ∙ hex_text_back 16 n (omega arith) (omega arith)

hex_sound :
    (k number : ℕ) (l : List ℕ) (v : ℕ)
    → number ≤ top
    → digits_from 16 top number l ≡ Some v
    → (hex_text (k + length l) v ≡ hex_text k number ++ l) × (v ≤ top)
unfolding digits_from hex_text
hex_sound k number [] v g e =
    let s : number ≡ v = is_is e in
    let m : k + 0 ≡ k = omega arith in
    (ap (λ (n : ℕ). hex_text n v) m ∙ ap (hex_text k) (sym s) ∙ sym (append-nil (hex_text k number)), omega arith)
hex_sound k number (b ∷ l) v g e =
    let o = on_is (next_digit 16 top number b) (λ u. digits_from 16 top u l) v e in
    let r = next_read 16 top number b o.0 o.1 in
    let i = hex_sound (suc k) o.0 l v r.fits o.2 in
    let m : k + suc (length l) ≡ suc k + length l = omega arith in
    let q : o.0 / 16 ≡ number = omega (arith, r.is, r.low) in
    let d : o.0 % 16 ≡ r.digit = omega (arith, r.is, r.low) in (
      ap (λ (n : ℕ). hex_text n v) m
          ∙ i.0
          ∙ ap (λ (t : List ℕ). t ++ l)
          (ap (λ (n : ℕ). hex_text k n ++ (digit_byte (o.0 % 16) ∷ [])) q
          ∙ ap (λ (x : ℕ). hex_text k number ++ (x ∷ [])) (ap digit_byte d ∙ r.byte))
          ∙ append_assoc (hex_text k number) (b ∷ []) l,
      i.1,
    )

bits_by : (l : List ℕ) (v : ℕ) → bits_of l ≡ Some v → (length l ≡ 16) × (digits_from 16 top 0 l ≡ Some v)
bits_by l v e = by (eqb (length l) 16) refl
  where
    by : (t : Bool) → eqb (length l) 16 ≡ t → (length l ≡ 16) × (digits_from 16 top 0 l ≡ Some v)
    by true q = let n = eqb-true (length l) 16 q in (n, bits_is l n ∙ e)
    by false q = not_is (bits_not l (eqb-false (length l) 16 q) ∙ e)

-- what is read as 64 bits is the 16 digits of the number
pub bits_sound : (l : List ℕ) (v : ℕ) → bits_of l ≡ Some v → (l ≡ hex_text 16 v) × (v < 2 ^ 64)
unfolding hex_text
bits_sound l v e =
    let b = bits_by l v e in
    let s = hex_sound 0 0 l v (omega arith) b.1 in
    let m : 16 ≡ 0 + length l = omega (arith, b.0) in
    (sym (ap (λ (n : ℕ). hex_text n v) m ∙ s.0), omega (arith, s.1))
