-- Digits of a base, read one behind the other. Assumes nothing.
use Prim.Native.Nat.{ℕ, ◌+◌, ◌-◌, ◌*◌, ◌≤◌, ◌<◌}
use mathlib.Core.Path.{◌≡◌, refl, ap, sym, ◌∙◌}
use mathlib.Core.List.{List, [], ◌∷◌, ◌++◌}
use mathlib.Core.Bool.{Bool, true, false}
use native.Mathlib.Omega.{arith}
use borrow.Author.Tests.{lt-leb, le-leb, lt-ltb, le-ltb, leb-true, leb-false, ltb-true, ltb-false}
use lib.Dec.{ltb, leb}
use Rattle.text.specs.Number.{on_some, digit_of, with_digit, next_digit, digits_from}
use Rattle.text.specs.Text.{digit_byte}
use Rattle.std.specs.Prelude.{Option, Some, None}
use Rattle.text.proofs.HexText.{low_byte, high_byte}

pub not_is : {A : Type 0} {v : ℕ} → None ≡ Some v → A
not_is e = let z : ◌≡◌ {A = ℕ} 0 1 = cc in absurd (omega arith)

pub is_is : {u v : ℕ} → Some u ≡ Some v → u ≡ v
is_is e = cc

pub on_is : (w : Option ℕ) (k : ℕ → Option ℕ) (v : ℕ) → on_some None w k ≡ Some v → (u : ℕ) × (w ≡ Some u) × (k u ≡ Some v)
on_is (Some u) k v e = (u, refl, e)
on_is None k v e = not_is e

-- a byte's value as a digit
module _ (b : ℕ) where
  pub digit_low : b < 48 → None ≡ digit_of b
  unfolding digit_of
  digit_low h = simp (lt-leb 48 b, lt-leb 65 b (omega arith))

  pub digit_number : {v : ℕ} → 48 ≤ b → b ≤ 57 → v ≡ b - 48 → Some v ≡ digit_of b
  unfolding digit_of
  digit_number l h e = simp (le-leb 48 b, le-leb b 57, e)

  pub digit_between : 57 < b → b < 65 → None ≡ digit_of b
  unfolding digit_of
  digit_between l h = simp (le-leb 48 b (omega arith), lt-leb b 57, lt-leb 65 b)

  pub digit_letter : {v : ℕ} → 65 ≤ b → b ≤ 70 → v ≡ b - 55 → Some v ≡ digit_of b
  unfolding digit_of
  digit_letter l h e = simp (le-leb 48 b (omega arith), lt-leb b 57 (omega arith), le-leb 65 b, le-leb b 70, e)

  pub digit_high : 70 < b → None ≡ digit_of b
  unfolding digit_of
  digit_high h = simp (le-leb 48 b (omega arith), lt-leb b 57 (omega arith), le-leb 65 b (omega arith), lt-leb b 70)

-- a digit's byte is read as the digit, and no other byte is
byte_digit : (d : ℕ) → d < 16 → digit_of (digit_byte d) ≡ Some d
byte_digit d g = by (ltb d 10) refl
  where
    by : (t : Bool) → ltb d 10 ≡ t → digit_of (digit_byte d) ≡ Some d
    by true q =
        let e : digit_byte d ≡ 48 + d = low_byte d (ltb-true d 10 q) in
        let l : d < 10 = ltb-true d 10 q in
        sym (digit_number (digit_byte d) (omega arith) (omega arith) (omega arith))
    by false q =
        let e : digit_byte d ≡ 55 + d = high_byte d (ltb-false d 10 q) in
        let l : 10 ≤ d = ltb-false d 10 q in
        sym (digit_letter (digit_byte d) (omega arith) (omega arith) (omega arith))

digit_byte_is : (b d : ℕ) → digit_of b ≡ Some d → (d < 16) × (digit_byte d ≡ b)
digit_byte_is b d e = first (leb 48 b) refl
  where
    letter : 65 ≤ b → (t : Bool) → leb b 70 ≡ t → (d < 16) × (digit_byte d ≡ b)
    letter l true q =
        let h : b ≤ 70 = leb-true b 70 q in
        let s : b - 55 ≡ d = is_is (digit_letter b l h refl ∙ e) in
        (omega arith, high_byte d (omega arith) ∙ omega arith)
    letter l false q = not_is (digit_high b (leb-false b 70 q) ∙ e)

    between : 57 < b → (t : Bool) → leb 65 b ≡ t → (d < 16) × (digit_byte d ≡ b)
    between l true q = letter (leb-true 65 b q) (leb b 70) refl
    between l false q = not_is (digit_between b l (leb-false 65 b q) ∙ e)

    number : 48 ≤ b → (t : Bool) → leb b 57 ≡ t → (d < 16) × (digit_byte d ≡ b)
    number l true q =
        let h : b ≤ 57 = leb-true b 57 q in
        let s : b - 48 ≡ d = is_is (digit_number b l h refl ∙ e) in
        (omega arith, low_byte d (omega arith) ∙ omega arith)
    number l false q = between (leb-false b 57 q) (leb 65 b) refl

    first : (t : Bool) → leb 48 b ≡ t → (d < 16) × (digit_byte d ≡ b)
    first true q = number (leb-true 48 b q) (leb b 57) refl
    first false q = not_is (digit_low b (leb-false 48 b q) ∙ e)

-- one digit more
module _ (base most number d : ℕ) where
  pub with_other : base ≤ d → None ≡ with_digit base most number d
  unfolding with_digit
  with_other h = simp (le-ltb d base)

  pub with_over : d < base → most < number * base + d → None ≡ with_digit base most number d
  unfolding with_digit
  with_over h o = simp (lt-ltb d base, lt-leb (number * base + d) most)

  pub with_is : d < base → number * base + d ≤ most → Some (number * base + d) ≡ with_digit base most number d
  unfolding with_digit
  with_is h o = simp (lt-ltb d base, le-leb (number * base + d) most)

  with_read : (v : ℕ) → with_digit base most number d ≡ Some v → (d < base) × (v ≡ number * base + d) × (v ≤ most)
  with_read v e = by (ltb d base) refl (leb (number * base + d) most) refl
    where
      by : (s : Bool) → ltb d base ≡ s → (t : Bool) → leb (number * base + d) most ≡ t → (d < base) × (v ≡ number * base + d) × (v ≤ most)
      by false p t q = not_is (with_other (ltb-false d base p) ∙ e)
      by true p false q = not_is (with_over (ltb-true d base p) (leb-false _ most q) ∙ e)
      by true p true q =
          let o : number * base + d ≤ most = leb-true _ most q in
          let s : number * base + d ≡ v = is_is (with_is (ltb-true d base p) o ∙ e) in
          (ltb-true d base p, sym s, omega arith)

-- a byte more
pub next_is :
    (base most number b d v : ℕ)
    → d < 16
    → digit_byte d ≡ b
    → d < base
    → v ≡ number * base + d
    → v ≤ most
    → next_digit base most number b ≡ Some v
unfolding next_digit
next_is base most number b d v s g h e o =
    let r : digit_of b ≡ Some d = ap digit_of (sym g) ∙ byte_digit d s in
    rw r (sym (with_is base most number d h (omega arith)) ∙ ap Some (sym e))

pub record NextRead (base most number b v : ℕ) : Type 0 where
  pub digit : ℕ
  pub byte : digit_byte digit ≡ b
  pub low : digit < base
  pub is : v ≡ number * base + digit
  pub fits : v ≤ most

pub next_read : (base most number b v : ℕ) → next_digit base most number b ≡ Some v → NextRead base most number b v
unfolding next_digit
next_read base most number b v e =
    let o = on_is (digit_of b) (with_digit base most number) v e in
    let w = with_read base most number o.0 v o.2 in
    record { digit = o.0; byte = (digit_byte_is b o.0 o.1).1; low = w.0; is = w.1; fits = w.2 }

-- a digit at the end
module _ (base most : ℕ) where
  pub snoc :
      (number : ℕ) (xs : List ℕ) (b : ℕ)
      → digits_from base most number (xs ++ (b ∷ [])) ≡ on_some None (digits_from base most number xs) (λ v. next_digit base most v b)
  unfolding digits_from
  snoc number [] b = by (next_digit base most number b)
    where
      by : (w : Option ℕ) → on_some None w (λ v. Some v) ≡ w
      by (Some v) = refl
      by None = refl
  snoc number (x ∷ xs) b = by (next_digit base most number x) (λ v. snoc v xs b)
    where
      by :
          (w : Option ℕ)
          → ((v : ℕ) → digits_from base most v (xs ++ (b ∷ [])) ≡ on_some None (digits_from base most v xs) (λ u. next_digit base most u b))
          → on_some None w (λ v. digits_from base most v (xs ++ (b ∷ [])))
          ≡ on_some None (on_some None w (λ v. digits_from base most v xs)) (λ u. next_digit base most u b)
      by (Some v) ih = ih v
      by None ih = refl

  pub one_digit : (number b : ℕ) → digits_from base most number (b ∷ []) ≡ next_digit base most number b
  unfolding digits_from
  one_digit number b = snoc number [] b
