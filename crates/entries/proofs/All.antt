-- What a test of every number below n answers. Assumes nothing.
use Rattle.std.proofs.Common.{◌≡◌, ℕ, ◌+◌, ◌<◌, Bool, true, false, length, get_or, arith, subst, refl, ◌∙◌}
use Rattle.std.specs.Bool.{MatchBool}
use Rattle.std.specs.List.{AllWithin, HoldsAt, range_with_len}
use Rattle.std.proofs.lemmas.List.FromFn.{length-range_with_len, get_or-range_with_len}
use Rattle.words.specs.Place.{Decides}
use Rattle.words.proofs.Tests.{says_true, says_false}

number_at : (n k d : ℕ) → k < n → get_or (range_with_len 0 n) k d ≡ k
number_at n k d h = let e : 0 + k ≡ k = omega arith in get_or-range_with_len 0 n k d h ∙ e

pub decides_all : {P : ℕ → Type 0} (n : ℕ) (r : Bool) → MatchBool r (AllWithin P (range_with_len 0 n) 0 (length (range_with_len 0 n))) ((k : ℕ) × (k < length (range_with_len 0 n)) × HoldsAt (λ j. P j → ⊥) (range_with_len 0 n) k) → Decides r ((j : ℕ) → j < n → P j)
decides_all {P} n true m = says_true (λ j h. subst P (number_at n j 0 h) (m j 0 (omega arith) (omega (arith, h, length-range_with_len 0 n))))
decides_all {P} n false m = says_false (λ all. let h : m.0 < n = omega (arith, m.1, length-range_with_len 0 n) in subst (λ j. P j → ⊥) (number_at n m.0 0 h) (m.2 0) (all m.0 h))

-- A test that answered.
pub answered_yes : {P : Type 0} → Decides true P → P
answered_yes d = d.sure refl

pub answered_no : {P : Type 0} → Decides false P → P → ⊥
answered_no d = d.never refl
