-- The digits of a decimal, from the last one on, and how many there are. Assumes nothing.
use Prim.Native.Nat.{ℕ, zero, suc, ◌+◌, ◌/◌, ◌%◌, ◌^◌, ◌≤◌, ◌<◌}
use mathlib.Core.Path.{◌≡◌, refl, ap, ◌∙◌}
use mathlib.Core.List.{List, [], ◌∷◌, ◌++◌}
use mathlib.Core.Bool.{Bool, true, false}
use native.Mathlib.Omega.{arith}
use borrow.Author.Tests.{lt-ltb, le-ltb, ltb-true, ltb-false}
use lib.ListN.{length, get_or, length-append, get_or-append}
use lib.Dec.{ltb}
use native.Mathlib.Nat.{pow-suc}
use Rattle.text.specs.Text.{decimal_in, decimal_text}

-- decimals
decimal_steps : (b : Bool) (f g n : ℕ) → ltb n 10 ≡ b → n < f → n < g → decimal_in f n ≡ decimal_in g n
unfolding decimal_in
decimal_steps b zero g n e h k = absurd (omega arith)
decimal_steps b (suc f) zero n e h k = absurd (omega arith)
decimal_steps true (suc f) (suc g) n e h k = rw e
decimal_steps false (suc f) (suc g) n e h k =
    let t : 10 ≤ n = ltb-false n 10 e in
    rw e (ap (λ (l : List ℕ). l ++ ((48 + n % 10) ∷ [])) (decimal_steps (ltb (n / 10) 10) f g (n / 10) refl (omega arith) (omega arith)))

pub decimal_small : (n : ℕ) → n < 10 → decimal_text n ≡ (48 + n % 10) ∷ []
unfolding decimal_text decimal_in
decimal_small n h = rw (lt-ltb n 10 h)

pub decimal_more : (n : ℕ) → 10 ≤ n → decimal_text n ≡ decimal_text (n / 10) ++ ((48 + n % 10) ∷ [])
unfolding decimal_text decimal_in
decimal_more n h =
    rw (le-ltb n 10 h)
    (ap (λ (l : List ℕ). l ++ ((48 + n % 10) ∷ [])) (decimal_steps (ltb (n / 10) 10) n (suc (n / 10)) (n / 10) refl (omega arith) (omega arith)))

-- every number, from those below ten up by one digit
pub by_digits : (P : ℕ → Type 0) → ((n : ℕ) → n < 10 → P n) → ((n : ℕ) → 10 ≤ n → P (n / 10) → P n) → (n : ℕ) → P n
by_digits P base step n = go (suc n) n (omega arith)
  where
    at : (f n : ℕ) (b : Bool) → ltb n 10 ≡ b → n < suc f → ((m : ℕ) → m < f → P m) → P n
    at f n true e h ih = base n (ltb-true n 10 e)
    at f n false e h ih = let t : 10 ≤ n = ltb-false n 10 e in step n t (ih (n / 10) (omega arith))

    go : (f n : ℕ) → n < f → P n
    go zero n h = absurd (omega arith)
    go (suc f) n h = at f n (ltb n 10) refl h (go f)

pub decimal_more_length : (n : ℕ) → 10 ≤ n → length (decimal_text n) ≡ length (decimal_text (n / 10)) + 1
decimal_more_length n h = ap length (decimal_more n h) ∙ length-append (decimal_text (n / 10)) _

pub text_some : (n : ℕ) → 1 ≤ length (decimal_text n)
text_some = by_digits (λ (n : ℕ). 1 ≤ length (decimal_text n)) (λ n h. omega (arith, ap length (decimal_small n h)))
    (λ n h ih. omega (arith, ap length (decimal_more n h), length-append (decimal_text (n / 10)) ((48 + n % 10) ∷ [])))

pub text_head : (n : ℕ) → 1 ≤ n → 48 < get_or (decimal_text n) 0 0
text_head = by_digits (λ (n : ℕ). 1 ≤ n → 48 < get_or (decimal_text n) 0 0)
    (λ n h l. omega (arith, ap (λ (t : List ℕ). get_or t 0 0) (decimal_small n h)))
    (λ n h ih l.
    let i : 48 < get_or (decimal_text (n / 10)) 0 0 = ih (omega arith) in
    let a = get_or-append (decimal_text (n / 10)) ((48 + n % 10) ∷ []) 0 0 (omega (arith, text_some (n / 10))) in
    omega (arith, a, ap (λ (t : List ℕ). get_or t 0 0) (decimal_more n h)))

-- the first byte of a decimal is a digit
pub head_digit : (n : ℕ) → 48 ≤ get_or (decimal_text n) 0 0
head_digit = by_digits (λ (n : ℕ). 48 ≤ get_or (decimal_text n) 0 0)
    (λ n h. omega (arith, ap (λ (t : List ℕ). get_or t 0 0) (decimal_small n h)))
    (λ n h i.
    let a = get_or-append (decimal_text (n / 10)) ((48 + n % 10) ∷ []) 0 0 (omega (arith, text_some (n / 10))) in
    omega (arith, a, ap (λ (t : List ℕ). get_or t 0 0) (decimal_more n h)))

-- how long a decimal is
decimal_length_by :
    (k n : ℕ) (b : Bool)
    → ltb n 10 ≡ b
    → n < 10 ^ suc (suc k)
    → ((m : ℕ) → m < 10 ^ suc k → length (decimal_text m) ≤ suc k)
    → length (decimal_text n) ≤ suc (suc k)
decimal_length_by k n true e h ih = omega (arith, ap length (decimal_small n (ltb-true n 10 e)))
decimal_length_by k n false e h ih =
    let t : 10 ≤ n = ltb-false n 10 e in
    let g : n / 10 < 10 ^ suc k = omega (arith, pow-suc 10 (suc k)) in
    omega (arith, decimal_more_length n t, ih (n / 10) g)

decimal_length_in : (k n : ℕ) → n < 10 ^ suc k → length (decimal_text n) ≤ suc k
decimal_length_in zero n h = omega (arith, ap length (decimal_small n (omega arith)))
decimal_length_in (suc k) n h = decimal_length_by k n (ltb n 10) refl h (decimal_length_in k)

pub decimal_length : (n : ℕ) → n < 2 ^ 64 → length (decimal_text n) ≤ 20
decimal_length n h = decimal_length_in 19 n (omega arith)
