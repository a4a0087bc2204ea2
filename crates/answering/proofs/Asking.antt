-- The answer to one line, on any words. Assumes nothing.
use mathlib.Core.Path.{◌≡◌, refl, sym, ap, ◌∙◌}
use mathlib.Core.List.{List}
use mathlib.Core.Logic.{⊎_elim}
use Prim.Native.Nat.{ℕ, min}
use native.Mathlib.Omega.{arith}
use lib.ListN.{length, take}
use lib.Seq.{take_all}
use Rattle.words.proofs.Places.{lt_or_ge}
use Rattle.protocol.specs.declared.Refusal.TheVariants.{NoTable, OutsideAllowed}
use Rattle.protocol.specs.Fits.{Sizes}
use Rattle.protocol.specs.Machine.{Answer, refused}
use Rattle.sheet.specs.Sheet.{sheet}
use Rattle.table.specs.Promise.{Started}
use Rattle.answering.specs.Answered.{Small, StartedSmall}

-- the first n of a list, where there may be fewer
pub take_min : {A : Type 0} (i n : ℕ) (l : List A) → i ≡ min n (length l) → take i l ≡ take n l
take_min i n l e = ⊎_elim (λ h. let g : i ≡ n = omega arith in ap (λ (k : ℕ). take k l) g) (λ h. take_all i l (omega arith) ∙ sym (take_all n l (omega arith))) (lt_or_ge n (length l))

-- The three ways in which a start ends.
module _ (devices cells : ℕ) (xs : List ℕ) where
  pub start_outside : (Sizes devices cells → ⊥) → StartedSmall devices cells xs (refused OutsideAllowed) xs
  start_outside n = record { outside = λ m. record { number = refl; untouched = refl }; large = λ z. absurd (n z); begun = λ z. absurd (n z) }

  pub start_large : Sizes devices cells → (Small devices cells → ⊥) → StartedSmall devices cells xs (refused NoTable) xs
  start_large z n = record { outside = λ m. absurd (m z); large = λ y m. record { number = refl; untouched = refl }; begun = λ y s. absurd (n s) }

  pub start_small : (a : Answer sheet) (ys : List ℕ) → Sizes devices cells → Small devices cells → Started devices cells xs a ys → StartedSmall devices cells xs a ys
  start_small a ys z s S = record { outside = λ m. absurd (m z); large = λ y m. absurd (m s); begun = λ y m. S }
