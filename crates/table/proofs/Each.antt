-- Records that a loop changes one after the other, and a word of one of them. Assumes nothing.
use mathlib.Core.Path.{◌≡◌, refl, ◌∙◌, subst}
use mathlib.Core.Logic.{⊎_elim}
use mathlib.Core.List.{List}
use Prim.Native.Nat.{ℕ, ◌+◌, ◌*◌, ◌-◌, ◌/◌, ◌%◌, ◌≤◌, ◌<◌}
use native.Mathlib.Omega.{arith}
use lib.ListN.{length}
use Rattle.words.specs.Layout.{RECORD, RECORDS}
use Rattle.words.proofs.Places.{below_suc, lt_or_ge}
use Rattle.table.specs.Table.{record_at}
use Rattle.table.specs.Promise.{Each}
use Rattle.table.proofs.Part.{Replaced, record_same, other_record}

-- A word stands in the record of one of n devices, or in none.
pub in_some_record : {P : Type 0} (n i : ℕ) → ((d k : ℕ) → d < n → k < RECORD → i ≡ RECORDS + RECORD * d + k → P) → ((RECORDS ≤ i → i < RECORDS + RECORD * n → ⊥) → P) → P
in_some_record n i inside outside =
    let d : ℕ = (i - RECORDS) / RECORD in
    let k : ℕ = (i - RECORDS) % RECORD in
    ⊎_elim (λ l. outside (λ p q. omega arith)) (λ p. ⊎_elim (λ q. inside d k (omega arith) (omega arith) (omega arith)) (λ g. outside (λ a b. omega arith)) (lt_or_ge i (RECORDS + RECORD * n))) (lt_or_ge i RECORDS)

module _ (Q : ℕ → List ℕ → List ℕ → Type 0) (xs : List ℕ) where
  pub each_none : Each Q xs xs 0
  each_none = record { each = λ d h. absurd (omega arith); kept = λ i out. refl }

  -- the record that the loop comes to is as it was
  pub each_ahead : (ys : List ℕ) (n d : ℕ) → length ys ≡ length xs → RECORDS + RECORD * d + RECORD ≤ length xs → n ≤ d → Each Q xs ys n → record_at ys d ≡ record_at xs d
  each_ahead ys n d l h m B = record_same xs ys d h l (λ i b. B.kept (RECORDS + RECORD * d + i) (λ p q. omega arith))

  pub each_more : (ys zs rs : List ℕ) (n : ℕ) → length ys ≡ length xs → RECORDS + RECORD * n + RECORD ≤ length xs → Each Q xs ys n → Replaced ys zs n rs → Q n (record_at ys n) rs → Each Q xs zs (n + 1)
  each_more ys zs rs n l h B R G = record {
    each = below_suc {P = λ d. Q d (record_at xs d) (record_at zs d)} n
        (λ d b. rw (other_record ys zs n d rs R (omega arith) (λ q. omega arith)) (B.each d b))
        (rw R.here (subst (λ (r : List ℕ). Q n r rs) (each_ahead ys n n l h (omega arith) B) G));
    kept = λ i out. R.out i (λ p q. out (omega arith) (omega arith)) ∙ B.kept i (λ p q. out p (omega arith));
  }
