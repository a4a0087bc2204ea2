-- Laws of places: storing one, filling a run of them, and what stays where words stay. Assumes nothing.
use mathlib.Core.Path.{◌≡◌, refl, sym, ap, ◌∙◌, subst}
use mathlib.Core.Bool.{Bool, true, false}
use mathlib.Core.Logic.{◌⊎◌, inl, inr, ⊎_elim}
use mathlib.Core.List.{List}
use Prim.Native.Nat.{ℕ, ◌+◌, ◌*◌, ◌≤◌, ◌<◌}
use native.Mathlib.Nat.{mul-suc, mul-le-mul_left}
use native.Mathlib.Numerals.{add-one}
use native.Mathlib.Omega.{arith}
use lib.ListN.{length, get_or, set, length-set}
use lib.Seq.{get_or-set_same, get_or-set_other}
use lib.Dec.{ltb}
use borrow.Author.Tests.{ltb-true, ltb-false}
use Rattle.words.specs.Place.{Place, Put, Filled, Kept, Apart, Numbers, words_at, place, cell_at, cell_ok, change_at, change_ok, cell_place, change_place}
use Rattle.cells.specs.Stored.{cell_finite, change_finite, cell_of, cell_words_ok, change_from, change_words_ok}
use Rattle.cells.proofs.StoredForm.{words_cell_fits, words_change_fits}

pub lt_or_ge : (a b : ℕ) → (a < b) ⊎ (b ≤ a)
lt_or_ge a b = go (ltb a b) refl
  where
    go : (t : Bool) → ltb a b ≡ t → (a < b) ⊎ (b ≤ a)
    go true e = inl (ltb-true a b e)
    go false e = inr (ltb-false a b e)

-- What holds of each number below i, and of i, holds of each below i + 1.
pub below_suc : {P : ℕ → Type 0} (i : ℕ) → ((k : ℕ) → k < i → P k) → P i → (k : ℕ) → k < i + 1 → P k
below_suc {P} i all here k h = ⊎_elim (λ l. all k l) (λ g. let e : k ≡ i = omega arith in subst P (sym e) here) (lt_or_ge k i)

pub set_kept : (xs : List ℕ) (j v i : ℕ) → (i ≡ j → ⊥) → get_or (set xs j v) i 0 ≡ get_or xs i 0
set_kept xs j v i h = get_or-set_other xs j i v 0 h

pub set_new : (xs : List ℕ) (j v : ℕ) → j < length xs → get_or (set xs j v) j 0 ≡ v
set_new xs j v h = get_or-set_same xs j v 0 h

-- xs and ys have the same n words from o on.
abbrev pub Same : List ℕ → List ℕ → ℕ → ℕ → Type 0
Same xs ys o n = (i : ℕ) → o ≤ i → i < o + n → get_or ys i 0 ≡ get_or xs i 0

-- A place whose value and validity are those of its own words.
pub record Local (P : Place) : Type 0 where
  pub value_same : (xs ys : List ℕ) (o : ℕ) → Same xs ys o P.width → P.value_at ys o ≡ P.value_at xs o
  pub valid_same : (xs ys : List ℕ) (o : ℕ) → Same xs ys o P.width → P.valid_at ys o ≡ P.valid_at xs o

pub place_local : {A : Type 0} (read : ℕ → ℕ → A) (ok : ℕ → ℕ → Bool) → Local (place read ok)
unfolding words_at
place_local read ok = record {
  value_same = λ xs ys o S. (λ i. read (S o (omega arith) (omega arith) i) (S (o + 1) (omega arith) (omega arith) i));
  valid_same = λ xs ys o S. (λ i. ok (S o (omega arith) (omega arith) i) (S (o + 1) (omega arith) (omega arith) i));
}

abbrev pub cell_local : Local cell_place
cell_local = place_local cell_of cell_words_ok

abbrev pub change_local : Local change_place
change_local = place_local change_from change_words_ok

-- Two words stored one after the other.
module _ (xs : List ℕ) (o a b : ℕ) (fits : o + 2 ≤ length xs) where
  pub first_word : get_or (set (set xs o a) (o + 1) b) o 0 ≡ a
  first_word = set_kept (set xs o a) (o + 1) b o (λ q. omega arith) ∙ set_new xs o a (omega arith)

  pub second_word : get_or (set (set xs o a) (o + 1) b) (o + 1) 0 ≡ b
  second_word = set_new (set xs o a) (o + 1) b (simp length-set (omega arith))

  pub two_kept : Kept xs (set (set xs o a) (o + 1) b) o 2
  two_kept i out = set_kept (set xs o a) (o + 1) b i (λ q. out (omega arith) (omega arith)) ∙ set_kept xs o a i (λ q. out (omega arith) (omega arith))

pub put_is : {A : Type 0} (read : ℕ → ℕ → A) (ok : ℕ → ℕ → Bool) (xs : List ℕ) (o a b : ℕ) (v : A) → o + 2 ≤ length xs → read a b ≡ v → ok a b ≡ true → Put (place read ok) xs (set (set xs o a) (o + 1) b) o v
unfolding words_at
put_is read ok xs o a b v fits e f =
    let p = first_word xs o a b fits in
    let q = second_word xs o a b fits in
    record {
      is = (λ i. read (p i) (q i)) ∙ e;
      valid = (λ i. ok (p i) (q i)) ∙ f;
      kept = two_kept xs o a b fits;
    }

-- Places of one width, one after the other.
pub next_place : (w k : ℕ) → w * (k + 1) ≡ w * k + w
next_place w k = ap (λ (n : ℕ). w * n) (add-one k) ∙ mul-suc w k

pub place_below : (w k i : ℕ) → k < i → w * k + w ≤ w * i
place_below w k i h = let m : k + 1 ≤ i = omega arith in omega (arith, next_place w k, mul-le-mul_left w m)

-- A run that a loop fills.
module _ (P : Place) (L : Local P) (xs : List ℕ) (o : ℕ) (f : ℕ → P.Holds) where
  pub filled_none : Filled P xs xs o 0 f
  filled_none = record { is = λ k h. absurd (omega arith); valid = λ k h. absurd (omega arith); kept = λ i out. refl }

  pub filled_more : (ys zs : List ℕ) (i : ℕ) (v : P.Holds) → Filled P xs ys o i f → Put P ys zs (o + P.width * i) v → v ≡ f i → Filled P xs zs o (i + 1) f
  filled_more ys zs i v F W e = record {
    is = below_suc {P = λ k. P.value_at zs (o + P.width * k) ≡ f k} i (λ k h. L.value_same ys zs (o + P.width * k) (before k h) ∙ F.is k h) (W.is ∙ e);
    valid = below_suc {P = λ k. P.valid_at zs (o + P.width * k) ≡ true} i (λ k h. L.valid_same ys zs (o + P.width * k) (before k h) ∙ F.valid k h) W.valid;
    kept = λ j out. W.kept j (λ p q. out (omega (arith, p, q)) (omega (arith, next_place P.width i, p, q)))
        ∙ F.kept j (λ p q. out p (omega (arith, next_place P.width i, q)));
  }
    where
      before : (k : ℕ) → k < i → Same ys zs (o + P.width * k) P.width
      before k h j p q = W.kept j (λ a b. omega (arith, place_below P.width k i h, a, q))

  -- the places ahead of the loop are as they were
  pub ahead : (ys : List ℕ) (i k : ℕ) → Filled P xs ys o i f → i ≤ k → Same xs ys (o + P.width * k) P.width
  ahead ys i k F h j p q = F.kept j (λ a b. omega (arith, mul-le-mul_left P.width h, p, b))

  -- and so are places that the run has no word of
  pub aside : (ys : List ℕ) (i n from w k : ℕ) → Filled P xs ys o i f → i ≤ n → k < n → Apart o (P.width * n) from (w * n) → Same xs ys (from + w * k) w
  aside ys i n from w k F h l A j p q =
      F.kept j (λ a b. A j a (omega (arith, mul-le-mul_left P.width h, b)) (omega (arith, p)) (omega (arith, place_below w k n l, q)))

-- A run filled with values under another name.
pub filled_as : (P : Place) (xs ys : List ℕ) (o n : ℕ) (f g : ℕ → P.Holds) → ((k : ℕ) → k < n → f k ≡ g k) → Filled P xs ys o n f → Filled P xs ys o n g
filled_as P xs ys o n f g e F = record { is = λ k h. F.is k h ∙ e k h; valid = F.valid; kept = F.kept }

-- Numbers that a loop stores.
pub numbers_none : (xs : List ℕ) (o : ℕ) (f : ℕ → ℕ) → Numbers xs xs o 0 f
numbers_none xs o f = record { is = λ k h. absurd (omega arith); kept = λ i out. refl }

pub numbers_more : (xs ys : List ℕ) (o i v : ℕ) (f : ℕ → ℕ) → Numbers xs ys o i f → o + i < length ys → v ≡ f i → Numbers xs (set ys (o + i) v) o (i + 1) f
numbers_more xs ys o i v f F l e = record {
  is = below_suc {P = λ k. get_or (set ys (o + i) v) (o + k) 0 ≡ f k} i (λ k b. set_kept ys (o + i) v (o + k) (λ q. omega arith) ∙ F.is k b) (set_new ys (o + i) v l ∙ e);
  kept = λ j out. set_kept ys (o + i) v j (λ q. out (omega arith) (omega arith)) ∙ F.kept j (λ p q. out p (omega arith));
}

-- The value of valid words is finite.
pub cell_is_finite : (xs : List ℕ) (o : ℕ) → cell_ok xs o ≡ true → cell_finite (cell_at xs o) ≡ true
unfolding words_at
cell_is_finite xs o e = (words_cell_fits (get_or xs o 0) (get_or xs (o + 1) 0) e).1

pub change_is_finite : (xs : List ℕ) (o : ℕ) → change_ok xs o ≡ true → change_finite (change_at xs o) ≡ true
unfolding words_at
change_is_finite xs o e = (words_change_fits (get_or xs o 0) (get_or xs (o + 1) 0) e).1
