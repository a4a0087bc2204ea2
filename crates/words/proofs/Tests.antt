-- What a test's answer says. Assumes nothing.
use mathlib.Core.Path.{◌≡◌, sym, subst}
use mathlib.Core.Bool.{Bool, true, false}
use Prim.Native.Nat.{ℕ, ◌<◌}
use native.Mathlib.Omega.{arith}
use lib.Dec.{T}
use Rattle.words.specs.Place.{Decides}

pub true_false : {P : Type 0} → true ≡ false → P
true_false e = absurd (subst T e tt)

pub says_true : {P : Type 0} → P → Decides true P
says_true p = record { sure = λ e. p; never = λ e. true_false e }

pub says_false : {P : Type 0} → (P → ⊥) → Decides false P
says_false n = record { sure = λ e. true_false (sym e); never = λ e. n }

pub decides_iff : {P Q : Type 0} {r : Bool} → Decides r P → (P → Q) → (Q → P) → Decides r Q
decides_iff d f g = record { sure = λ e. f (d.sure e); never = λ e q. d.never e (g q) }

-- A comparison that is the answer.
pub not_zero : (a : ℕ) → (a ≡ 0 → ⊥) → 0 < a
not_zero a n = omega arith
