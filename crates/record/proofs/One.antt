-- Valid words are given by what they say: those of a place, of a run of places, of an item. Assumes nothing.
use mathlib.Core.Path.{◌≡◌, refl, sym, ap, ◌∙◌, subst}
use mathlib.Core.Bool.{true}
use mathlib.Core.List.{List}
use mathlib.Core.Option.{none}
use Prim.Native.Nat.{ℕ, zero, suc, ◌+◌, ◌*◌, ◌-◌, ◌/◌, ◌%◌, ◌≤◌, ◌<◌}
use native.Mathlib.Nat.{mul_comm, mod-lt, div-add-mod', div-lt_iff_lt-mul}
use native.Mathlib.Omega.{arith}
use lib.ListN.{get_or}
use borrow.Author.Tests.{lt-ltb}
use Rattle.cells.specs.declared.Cell.TheVariants.{Blank}
use Rattle.cells.specs.declared.Change.TheVariants.{Nothing}
use Rattle.cells.specs.Stored.{cell_kind, cell_payload, change_kind, change_payload}
use Rattle.cells.proofs.StoredForm.{words_cell, words_change}
use Rattle.words.specs.Layout.{ITEM_NUMBERS, ITEM_PLACES, PREFIX, SEGMENT}
use Rattle.words.specs.Place.{Place, cell_place, change_place, words_at, Valid}
use Rattle.record.specs.Reading.{below, places_at, sheet_at, changes_at, numbers_at, given_at, given_by, item_of, item_at}
use Rattle.record.specs.Valid.{InItem, ValidItem}

-- A place whose valid words are given by its value.
pub record One (P : Place) : Type 0 where
  pub wide : 0 < P.width
  pub words : (xs ys : List ℕ) (o : ℕ) → P.valid_at xs o ≡ true → P.valid_at ys o ≡ true → P.value_at xs o ≡ P.value_at ys o → (k : ℕ) → k < P.width → get_or xs (o + k) 0 ≡ get_or ys (o + k) 0

two_words : (P : ℕ → Type 0) → P 0 → P 1 → (k : ℕ) → k < 2 → P k
two_words P a b zero h = a
two_words P a b (suc zero) h = b
two_words P a b (suc (suc k)) h = absurd (omega arith)

from_0 : (xs : List ℕ) (o : ℕ) → get_or xs (o + 0) 0 ≡ get_or xs o 0
from_0 xs o = let e : o + 0 ≡ o = omega arith in ap (λ (i : ℕ). get_or xs i 0) e

pub cell_one : One cell_place
unfolding words_at
cell_one = record {
  wide = omega arith;
  words = λ xs ys o u v e. two_words (λ k. get_or xs (o + k) 0 ≡ get_or ys (o + k) 0)
      (from_0 xs o ∙ sym (words_cell (get_or xs o 0) (get_or xs (o + 1) 0) u).0 ∙ ap cell_kind e ∙ (words_cell (get_or ys o 0) (get_or ys (o + 1) 0) v).0 ∙ sym (from_0 ys o))
      (sym (words_cell (get_or xs o 0) (get_or xs (o + 1) 0) u).1 ∙ ap cell_payload e ∙ (words_cell (get_or ys o 0) (get_or ys (o + 1) 0) v).1);
}

pub change_one : One change_place
unfolding words_at
change_one = record {
  wide = omega arith;
  words = λ xs ys o u v e. two_words (λ k. get_or xs (o + k) 0 ≡ get_or ys (o + k) 0)
      (from_0 xs o ∙ sym (words_change (get_or xs o 0) (get_or xs (o + 1) 0) u).0 ∙ ap change_kind e ∙ (words_change (get_or ys o 0) (get_or ys (o + 1) 0) v).0 ∙ sym (from_0 ys o))
      (sym (words_change (get_or xs o 0) (get_or xs (o + 1) 0) u).1 ∙ ap change_payload e ∙ (words_change (get_or ys o 0) (get_or ys (o + 1) 0) v).1);
}

-- What a cut reading says below the cut.
pub cut_in : {A : Type 0} (n : ℕ) (f g : ℕ → A) (past : A) → below n f past ≡ below n g past → (c : ℕ) → c < n → f c ≡ g c
cut_in {A} n f g past e c h = rw (lt-ltb c n h) at (ap (λ (r : ℕ → A). r c) e)

pub places_in : (P : Place) (past : P.Holds) (cells : ℕ) (xs ys : List ℕ) (o : ℕ) → places_at P past cells xs o ≡ places_at P past cells ys o → (c : ℕ) → c < cells → P.value_at xs (o + P.width * c) ≡ P.value_at ys (o + P.width * c)
unfolding places_at
places_in P past cells xs ys o e c h = cut_in cells (λ c. P.value_at xs (o + P.width * c)) (λ c. P.value_at ys (o + P.width * c)) past e c h

module _ (P : Place) (W : One P) (past : P.Holds) (cells : ℕ) (xs ys : List ℕ) (o : ℕ) (X : Valid P xs o cells) (Y : Valid P ys o cells) (e : places_at P past cells xs o ≡ places_at P past cells ys o) where
  -- the words of a run of places
  pub places_words : (i : ℕ) → o ≤ i → i < o + P.width * cells → get_or xs i 0 ≡ get_or ys i 0
  places_words i l h =
      let w : ℕ = P.width in
      let c : ℕ = (i - o) / w in
      let k : ℕ = (i - o) % w in
      let split = div-add-mod' (i - o) w in
      let turn = mul_comm c w in
      let turn2 = mul_comm w cells in
      let at : o + w * c + k ≡ i = omega arith in
      let below : c < cells = (div-lt_iff_lt-mul {k = w} {x = i - o} {y = cells} W.wide).1 (omega arith) in
      subst (λ (j : ℕ). get_or xs j 0 ≡ get_or ys j 0) at
      (W.words xs ys (o + w * c) (X c below) (Y c below) (places_in P past cells xs ys o e c below) k (mod-lt (i - o) W.wide))

-- A number that a segment gives or not.
pub given_one : (a b : ℕ) → given_by a ≡ given_by b → a ≡ b
given_one zero zero e = refl
given_one zero (suc b) e = let z : ◌≡◌ {A = ℕ} 0 1 = cc in absurd (omega arith)
given_one (suc a) zero e = let z : ◌≡◌ {A = ℕ} 0 1 = cc in absurd (omega arith)
given_one (suc a) (suc b) e = ap suc (cc)

-- The words of an item.
module _ (devices cells : ℕ) (xs ys : List ℕ) (o : ℕ) (X : ValidItem devices cells xs o) (Y : ValidItem devices cells ys o) (e : item_at devices cells xs o ≡ item_at devices cells ys o) where
  same_kind : get_or xs o 0 ≡ get_or ys o 0
  unfolding item_at
  same_kind = go (get_or xs o 0) (get_or ys o 0) X.kind_from_1 X.kind_to_2 Y.kind_from_1 Y.kind_to_2 e
    where
      go : (k m : ℕ) → 1 ≤ k → k ≤ 2 → 1 ≤ m → m ≤ 2 → item_of devices cells k xs o ≡ item_of devices cells m ys o → k ≡ m
      go zero m a b c d q = absurd (omega arith)
      go (suc zero) zero a b c d q = absurd (omega arith)
      go (suc (suc k)) zero a b c d q = absurd (omega arith)
      go (suc zero) (suc zero) a b c d q = refl
      go (suc zero) (suc (suc m)) a b c d q = let z : ◌≡◌ {A = ℕ} 0 1 = cc in absurd (omega arith)
      go (suc (suc k)) (suc zero) a b c d q = let z : ◌≡◌ {A = ℕ} 0 1 = cc in absurd (omega arith)
      go (suc (suc k)) (suc (suc m)) a b c d q = omega arith

  -- equal items of one kind have equal parts
  record Parts (k : ℕ) : Type 0 where
    number : (d : ℕ) → d < devices → get_or xs (o + ITEM_NUMBERS + d) 0 ≡ get_or ys (o + ITEM_NUMBERS + d) 0
    cell : k ≡ PREFIX → sheet_at cells xs (o + ITEM_PLACES) ≡ sheet_at cells ys (o + ITEM_PLACES)
    change : k ≡ SEGMENT → changes_at cells xs (o + ITEM_PLACES) ≡ changes_at cells ys (o + ITEM_PLACES)

  parts_of : (k : ℕ) → get_or xs o 0 ≡ k → get_or ys o 0 ≡ k → item_of devices cells k xs o ≡ item_of devices cells k ys o → Parts k
  unfolding numbers_at given_at
  parts_of zero a b q = absurd (omega (arith, X.kind_from_1))
  parts_of (suc zero) a b q = record {
    number = λ d h. let m : get_or xs (o + ITEM_NUMBERS + d) 0 - 1 ≡ get_or ys (o + ITEM_NUMBERS + d) 0 - 1 = cut_in devices (λ d. get_or xs (o + ITEM_NUMBERS + d) 0 - 1) (λ d. get_or ys (o + ITEM_NUMBERS + d) 0 - 1) 0 (cc) d h in
        omega (arith, X.prefix_numbers a d h, Y.prefix_numbers b d h);
    cell = λ p. cc;
    change = λ p. absurd (omega arith);
  }
  parts_of (suc (suc k)) a b q = record {
    number = λ d h. given_one _ _ (cut_in devices (λ d. given_by (get_or xs (o + ITEM_NUMBERS + d) 0)) (λ d. given_by (get_or ys (o + ITEM_NUMBERS + d) 0)) none (cc) d h);
    cell = λ p. absurd (omega arith);
    change = λ p. cc;
  }

  parts : Parts (get_or xs o 0)
  parts = parts_of (get_or xs o 0) refl (sym same_kind) (unfold item_at in e ∙ ap (λ (k : ℕ). item_of devices cells k ys o) (sym same_kind))

  pub item_words : (i : ℕ) → InItem devices cells xs o i → get_or xs i 0 ≡ get_or ys i 0
  item_words i InItem.kind = same_kind
  item_words i (InItem.number l h) =
      let at : o + ITEM_NUMBERS + (i - (o + ITEM_NUMBERS)) ≡ i = omega arith in
      subst (λ (j : ℕ). get_or xs j 0 ≡ get_or ys j 0) at (parts.number (i - (o + ITEM_NUMBERS)) (omega arith))
  item_words i (InItem.cell p l h) = places_words cell_place cell_one Blank cells xs ys (o + ITEM_PLACES) (X.prefix_places p) (Y.prefix_places (sym same_kind ∙ p)) (parts.cell p) i l h
  item_words i (InItem.change p l h) = places_words change_place change_one Nothing cells xs ys (o + ITEM_PLACES) (X.segment_places p) (Y.segment_places (sym same_kind ∙ p)) (parts.change p) i l h
