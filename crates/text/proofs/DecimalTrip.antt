-- What is written as a decimal is read as that number, and nothing else is. Assumes nothing.
use Prim.Native.Nat.{ℕ, zero, suc, ◌+◌, ◌/◌, ◌%◌, ◌≤◌, ◌<◌}
use mathlib.Core.Path.{◌≡◌, refl, ap, sym, ◌∙◌}
use mathlib.Core.List.{List, [], ◌∷◌, ◌++◌, append_assoc, append-nil}
use mathlib.Core.Bool.{Bool, true, false, cond}
use native.Mathlib.Omega.{arith}
use borrow.Author.Tests.{lt-ltb, le-ltb, ne_eqb, leb-true, leb-false}
use lib.ListN.{length, get_or}
use lib.Dec.{ltb, leb, eqb}
use Rattle.text.specs.Number.{on_some, next_digit, digits_from, leading_zero, decimal_of}
use Rattle.std.specs.Prelude.{Option, Some, None}
use Rattle.text.specs.Text.{decimal_text}
use Rattle.text.proofs.Digits.{next_is, NextRead, next_read, snoc, one_digit, on_is, not_is, is_is}
use Rattle.text.proofs.HexText.{low_byte}
use Rattle.text.proofs.DecimalText.{by_digits, decimal_small, decimal_more, text_some, text_head}
use Rattle.text.proofs.Reading.{decimal_is}

digits_text : (most n : ℕ) → n ≤ most → digits_from 10 most 0 (decimal_text n) ≡ Some n
digits_text most = by_digits (λ (n : ℕ). n ≤ most → digits_from 10 most 0 (decimal_text n) ≡ Some n)
    (λ n h l. ap (digits_from 10 most 0) (decimal_small n h) ∙ one_digit 10 most 0 (48 + n % 10) ∙ last 0 n (omega arith) l)
    (λ n h ih l.
    ap (digits_from 10 most 0) (decimal_more n h)
    ∙ snoc 10 most 0 (decimal_text (n / 10)) (48 + n % 10)
    ∙ ap (λ (w : Option ℕ). on_some None w (λ v. next_digit 10 most v (48 + n % 10))) (ih (omega arith))
    ∙ last (n / 10) n (omega arith) l)
  where
    last : (number n : ℕ) → n / 10 ≡ number → n ≤ most → next_digit 10 most number (48 + n % 10) ≡ Some n
    last number n e l =
        next_is 10 most number (48 + n % 10) (n % 10) n (omega arith) (low_byte (n % 10) (omega arith)) (omega arith) (omega arith) l

text_plain : (n : ℕ) → leading_zero (decimal_text n) ≡ false
unfolding leading_zero
text_plain n = by (leb n 9) refl
  where
    by : (b : Bool) → leb n 9 ≡ b → leading_zero (decimal_text n) ≡ false
    by true e =
        let s : length (decimal_text n) ≤ 1 = let h : n ≤ 9 = leb-true n 9 e in omega (arith, ap length (decimal_small n (omega arith))) in
        rw (le-ltb 1 (length (decimal_text n)) s)
    by false e =
        let h : 9 < n = leb-false n 9 e in
        let g : 48 < get_or (decimal_text n) 0 0 = text_head n (omega arith) in
        by_head (ltb 1 (length (decimal_text n))) (ne_eqb (get_or (decimal_text n) 0 0) 48 (λ q. omega arith))
      where
        by_head : (b : Bool) → eqb (get_or (decimal_text n) 0 0) 48 ≡ false → cond b (eqb (get_or (decimal_text n) 0 0) 48) false ≡ false
        by_head true q = q
        by_head false q = refl

-- a number's text is read as the number
pub decimal_complete : (most n : ℕ) → n ≤ most → decimal_of most (decimal_text n) ≡ Some n
decimal_complete most n h =
    sym (decimal_is most (decimal_text n) (λ e. omega (arith, text_some n)) (sym (text_plain n))) ∙ digits_text most n h

-- the number with one digit more, as text
module _ (most number b v : ℕ) (r : NextRead 10 most number b v) where
  byte_is : 48 + v % 10 ≡ b
  byte_is =
      let e = low_byte r.digit r.low in
      omega (arith, e, r.byte, r.low, r.is)

  text_next : 1 ≤ number → decimal_text v ≡ decimal_text number ++ (b ∷ [])
  text_next h =
      let q : v / 10 ≡ number = omega (arith, r.low, r.is) in
      decimal_more v (omega (arith, r.is))
      ∙ ap (λ (k : ℕ). decimal_text k ++ ((48 + v % 10) ∷ [])) q
      ∙ ap (λ (k : ℕ). decimal_text number ++ (k ∷ [])) byte_is

  text_first : number ≡ 0 → decimal_text v ≡ b ∷ []
  text_first z = decimal_small v (omega (arith, r.low, r.is)) ∙ ap (λ (k : ℕ). k ∷ []) byte_is

digits_sound :
    (most number : ℕ) (l : List ℕ) (v : ℕ)
    → 1 ≤ number
    → number ≤ most
    → digits_from 10 most number l ≡ Some v
    → (decimal_text v ≡ decimal_text number ++ l) × (v ≤ most)
unfolding digits_from
digits_sound most number [] v h f e =
    let s : number ≡ v = is_is e in (ap decimal_text (sym s) ∙ sym (append-nil (decimal_text number)), omega arith)
digits_sound most number (b ∷ l) v h f e =
    let o = on_is (next_digit 10 most number b) (λ u. digits_from 10 most u l) v e in
    let r = next_read 10 most number b o.0 o.1 in
    let i = digits_sound most o.0 l v (omega (arith, r.is)) r.fits o.2 in
    (i.0 ∙ ap (λ (t : List ℕ). t ++ l) (text_next most number b o.0 r h) ∙ append_assoc (decimal_text number) (b ∷ []) l, i.1)

zero_leads : (b x : ℕ) (l : List ℕ) → b ≡ 48 → leading_zero (b ∷ x ∷ l) ≡ false → ⊥
unfolding leading_zero
zero_leads b x l k z =
    let t : leading_zero (b ∷ x ∷ l) ≡ true = rw (lt-ltb 1 (suc (suc (length l))) (omega arith), k) in
    let q : ◌≡◌ {A = ℕ} 0 1 = cc in omega arith

pub not_zero : (n : ℕ) → (n ≡ 0 → ⊥) → 1 ≤ n
not_zero zero k = absurd (k refl)
not_zero (suc n) k = omega arith

first_sound :
    (most b : ℕ) (l : List ℕ) (v : ℕ)
    → leading_zero (b ∷ l) ≡ false
    → digits_from 10 most 0 (b ∷ l) ≡ Some v
    → (b ∷ l ≡ decimal_text v) × (v ≤ most)
unfolding digits_from
first_sound most b l v z e =
    let o = on_is (next_digit 10 most 0 b) (λ u. digits_from 10 most u l) v e in
    by l z o.0 (next_read 10 most 0 b o.0 o.1) o.2
  where
    by : (l : List ℕ) → leading_zero (b ∷ l) ≡ false → (u : ℕ) → NextRead 10 most 0 b u → digits_from 10 most u l ≡ Some v → (b ∷ l ≡ decimal_text v) × (v ≤ most)
    by [] z u r q = let s : u ≡ v = is_is q in (sym (ap decimal_text (sym s) ∙ text_first most 0 b u r refl), omega (arith, r.fits))
    by (x ∷ l) z u r q =
        let g : 1 ≤ u = not_zero u (λ k. zero_leads b x l (omega (arith, byte_is most 0 b u r)) z) in
        let i = digits_sound most u (x ∷ l) v g r.fits q in
        (sym (i.0 ∙ ap (λ (t : List ℕ). t ++ (x ∷ l)) (text_first most 0 b u r refl)), i.1)

decimal_by :
    (most : ℕ) (l : List ℕ) (v : ℕ) (a b : Bool)
    → eqb (length l) 0 ≡ a
    → leading_zero l ≡ b
    → decimal_of most l ≡ Some v
    → (leading_zero l ≡ false) × (digits_from 10 most 0 l ≡ Some v)
unfolding decimal_of
decimal_by most l v true b e z h = not_is (sym (rw e) ∙ h)
decimal_by most l v false true e z h = not_is (sym (rw (e, z)) ∙ h)
decimal_by most l v false false e z h = (z, sym (rw (e, z)) ∙ h)

-- what is read as a number is the number's text, and within the bound
pub decimal_sound : (most : ℕ) (l : List ℕ) (v : ℕ) → decimal_of most l ≡ Some v → (l ≡ decimal_text v) × (v ≤ most)
unfolding decimal_of
decimal_sound most [] v h = not_is h
decimal_sound most (b ∷ l) v h =
    let d = decimal_by most (b ∷ l) v (eqb (length (b ∷ l)) 0) (leading_zero (b ∷ l)) refl refl h in
    first_sound most b l v d.0 d.1
