-- What the two arrays of a stored image hold, cells and devices' numbers (document 01, "Stored image"): any kind of element. Assumes nothing.
use Rattle.std.specs.Prelude.{true, List, ◌≡◌, ℕ, ◌+◌, ◌*◌, ◌<◌, ◌≤◌, length, get_or}
use Rattle.words.specs.Layout.{CELL}
use Rattle.words.specs.Place.{Kept, cell_at, cell_ok}
use Rattle.coding.specs.Image.{NumberAllowed}
use Rattle.coding.specs.Item.{CellAllowed}

-- the k-th of the elements that stand from `first` on, each `stride` words behind the one before
abbrev pub spaced : {A : Type 0} → (List ℕ → ℕ → A) → List ℕ → ℕ → ℕ → ℕ → A
spaced stands words first stride k = stands words (first + stride * k)

-- x was stored as the k-th element of a buffer, in as many words as one takes, behind those that it holds.
pub record Appended {A : Type 0} (width : ℕ) (held : List ℕ → ℕ → A) (Sound : List ℕ → ℕ → Type 0) (old new : List ℕ) (k : ℕ) (x : A) : Type 0 where
  pub is : held new k ≡ x
  pub sound : Sound new k
  pub stays : (i : ℕ) → i < k → held new i ≡ held old i
  pub sound_stays : (i : ℕ) → i < k → Sound old i → Sound new i
  pub kept : Kept old new (width * k) width

-- A cell, and a number, is ready to be read at a place.
pub record CellReady (words : List ℕ) (p : ℕ) : Type 0 where
  pub room : p + CELL ≤ length words
  pub valid : cell_ok words p ≡ true
  pub allowed : CellAllowed (cell_at words p)

pub record NumberReady (words : List ℕ) (p : ℕ) : Type 0 where
  pub room : p < length words
  pub allowed : NumberAllowed (get_or words p 0)
