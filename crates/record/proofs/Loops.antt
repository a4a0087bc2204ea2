-- What the loops over places make of a reading: cleared, copied, joined, applied. Assumes nothing.
use mathlib.Core.Path.{◌≡◌, refl, ◌∙◌, fun_ext}
use mathlib.Core.Logic.{⊎_elim}
use mathlib.Core.List.{List}
use Prim.Native.Nat.{ℕ, ◌+◌, ◌*◌}
use borrow.Author.Tests.{lt-ltb, le-ltb}
use Rattle.cells.specs.Cells.{joined, applied}
use Rattle.cells.specs.declared.Cell.TheVariants.{Blank}
use Rattle.cells.specs.declared.Change.TheVariants.{Nothing}
use Rattle.words.specs.Layout.{CELL, CHANGE}
use Rattle.words.specs.Place.{Place, cell_place, change_place, cell_at, change_at, Filled}
use Rattle.words.proofs.Places.{lt_or_ge}
use Rattle.record.specs.Reading.{below, places_at, sheet_at, changes_at}
use Rattle.record.proofs.Same.{places_filled}

-- Cutting goes through a function of two values that keeps what is past the cut.
below_both : {A B D : Type 0} (g : A → B → D) (n : ℕ) (f : ℕ → A) (h : ℕ → B) (a : A) (b : B) (c : ℕ) → below n (λ k. g (f k) (h k)) (g a b) c ≡ g (below n f a c) (below n h b c)
below_both g n f h a b c = ⊎_elim (λ l. rw (lt-ltb c n l) refl) (λ k. rw (le-ltb c n k) refl) (lt_or_ge c n)

below_constant : {A : Type 0} (n : ℕ) (a : A) (c : ℕ) → below n (λ k. a) a c ≡ a
below_constant n a c = ⊎_elim (λ l. rw (lt-ltb c n l) refl) (λ k. rw (le-ltb c n k) refl) (lt_or_ge c n)

-- Joined and applied, where the changes may be those of another slice.
pub joined_across : (cells : ℕ) (xs ys ss : List ℕ) (to from : ℕ) → Filled change_place xs ys to cells (λ k. joined (change_at xs (to + CHANGE * k)) (change_at ss (from + CHANGE * k))) → changes_at cells ys to ≡ (λ c. joined (changes_at cells xs to c) (changes_at cells ss from c))
unfolding places_at
joined_across cells xs ys ss to from F = places_filled change_place Nothing cells xs ys to _ F ∙ fun_ext (below_both joined cells _ _ Nothing Nothing)

pub applied_across : (cells : ℕ) (xs ys ss : List ℕ) (to from : ℕ) → Filled cell_place xs ys to cells (λ k. applied (cell_at xs (to + CELL * k)) (change_at ss (from + CHANGE * k))) → sheet_at cells ys to ≡ (λ c. applied (sheet_at cells xs to c) (changes_at cells ss from c))
unfolding places_at
applied_across cells xs ys ss to from F = places_filled cell_place Blank cells xs ys to _ F ∙ fun_ext (below_both applied cells _ _ Blank Nothing)

module _ (cells : ℕ) (xs ys : List ℕ) (to from : ℕ) where
  pub cleared : (P : Place) (past : P.Holds) → Filled P xs ys to cells (λ k. past) → places_at P past cells ys to ≡ (λ c. past)
  cleared P past F = places_filled P past cells xs ys to _ F ∙ fun_ext (below_constant cells past)

  pub copied : (P : Place) (past : P.Holds) → Filled P xs ys to cells (λ k. P.value_at xs (from + P.width * k)) → places_at P past cells ys to ≡ places_at P past cells xs from
  unfolding places_at
  copied P past F = places_filled P past cells xs ys to _ F

  pub joined_changes : Filled change_place xs ys to cells (λ k. joined (change_at xs (to + CHANGE * k)) (change_at xs (from + CHANGE * k))) → changes_at cells ys to ≡ (λ c. joined (changes_at cells xs to c) (changes_at cells xs from c))
  joined_changes F = joined_across cells xs ys xs to from F

  pub applied_changes : Filled cell_place xs ys to cells (λ k. applied (cell_at xs (to + CELL * k)) (change_at xs (from + CHANGE * k))) → sheet_at cells ys to ≡ (λ c. applied (sheet_at cells xs to c) (changes_at cells xs from c))
  applied_changes F = applied_across cells xs ys xs to from F
