-- Document 01's cell and change as they lie in the lent table, and what it means to store one. Assumes nothing.
use Rattle.std.specs.Prelude.{◌≡◌, Bool, true, false, List, ℕ, zero, suc, ◌+◌, ◌*◌, ◌≤◌, ◌<◌, length, get_or}
use Rattle.words.specs.Layout.{PLACE}
use Rattle.cells.specs.Stored.{cell_of, cell_words_ok, change_from, change_words_ok}
use Rattle.cells.specs.declared.Cell.{Cell}
use Rattle.cells.specs.declared.Change.{Change}

-- What the two words from o on are read as.
unfoldable pub words_at : {A : Type 0} → (ℕ → ℕ → A) → List ℕ → ℕ → A
words_at f xs o = f (get_or xs o 0) (get_or xs (o + 1) 0)

-- The cell in the words from o on, and whether these are a cell's words.
abbrev pub cell_at : List ℕ → ℕ → Cell
cell_at = words_at cell_of

abbrev pub cell_ok : List ℕ → ℕ → Bool
cell_ok = words_at cell_words_ok

-- The change in the words from o on, and whether these are a change's words.
abbrev pub change_at : List ℕ → ℕ → Change
change_at = words_at change_from

abbrev pub change_ok : List ℕ → ℕ → Bool
change_ok = words_at change_words_ok

-- A kind of place: how many words it takes, its value, and whether its words are valid.
pub record Place : Type 1 where
  pub Holds : Type 0
  pub width : ℕ
  pub value_at : List ℕ → ℕ → Holds
  pub valid_at : List ℕ → ℕ → Bool

-- The place of what is read from two words, a kind and a payload: a cell's and a change's.
abbrev pub place : {A : Type 0} → (ℕ → ℕ → A) → (ℕ → ℕ → Bool) → Place
place {A} read ok = record { Holds = A; width = PLACE; value_at = words_at read; valid_at = words_at ok }

abbrev pub cell_place : Place
cell_place = place cell_of cell_words_ok

abbrev pub change_place : Place
change_place = place change_from change_words_ok

-- i is none of the n words from o on.
abbrev pub Out : ℕ → ℕ → ℕ → Type 0
Out o n i = o ≤ i → i < o + n → ⊥

-- Every word but the n from o on is kept.
abbrev pub Kept : List ℕ → List ℕ → ℕ → ℕ → Type 0
Kept xs ys o n = (i : ℕ) → Out o n i → get_or ys i 0 ≡ get_or xs i 0

-- The n words from o on and the m words from p on have none in common.
abbrev pub Apart : ℕ → ℕ → ℕ → ℕ → Type 0
Apart o n p m = (i : ℕ) → o ≤ i → i < o + n → p ≤ i → i < p + m → ⊥

-- ys is xs with v stored in the place at o.
pub record Put (P : Place) (xs ys : List ℕ) (o : ℕ) (v : P.Holds) : Type 0 where
  pub is : P.value_at ys o ≡ v
  pub valid : P.valid_at ys o ≡ true
  pub kept : Kept xs ys o P.width

-- ys is xs with f k stored in the k-th of the n places from o on.
pub record Filled (P : Place) (xs ys : List ℕ) (o n : ℕ) (f : ℕ → P.Holds) : Type 0 where
  pub is : (k : ℕ) → k < n → P.value_at ys (o + P.width * k) ≡ f k
  pub valid : (k : ℕ) → k < n → P.valid_at ys (o + P.width * k) ≡ true
  pub kept : Kept xs ys o (P.width * n)

-- The n places from o on have valid words.
abbrev pub Valid : Place → List ℕ → ℕ → ℕ → Type 0
Valid P xs o n = (k : ℕ) → k < n → P.valid_at xs (o + P.width * k) ≡ true

-- What a loop over the n places from `to` on asks that reads the n places of kind Q from `from` on: they are in the slice, valid, and apart.
pub record Beside (P Q : Place) (xs : List ℕ) (to from n : ℕ) : Type 0 where
  pub to_fits : to + P.width * n ≤ length xs
  pub from_fits : from + Q.width * n ≤ length xs
  pub from_valid : Valid Q xs from n
  pub apart : Apart to (P.width * n) from (Q.width * n)

-- The same, where the places that it reads are those of another slice.
pub record Across (P Q : Place) (xs ss : List ℕ) (to from n : ℕ) : Type 0 where
  pub to_fits : to + P.width * n ≤ length xs
  pub from_fits : from + Q.width * n ≤ length ss
  pub from_valid : Valid Q ss from n

-- ys is xs with f k stored in the k-th of the n words from o on.
pub record Numbers (xs ys : List ℕ) (o n : ℕ) (f : ℕ → ℕ) : Type 0 where
  pub is : (k : ℕ) → k < n → get_or ys (o + k) 0 ≡ f k
  pub kept : Kept xs ys o n

-- Of two words that give a number or, as 0, none, the second is later: it decides where it gives one.
abbrev pub later_number : ℕ → ℕ → ℕ
later_number old zero = old
later_number old (suc k) = suc k

-- r says whether P.
pub record Decides (r : Bool) (P : Type 0) : Type 0 where
  pub sure : r ≡ true → P
  pub never : r ≡ false → P → ⊥
