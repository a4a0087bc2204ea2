-- Runs of values: read one by one into a buffer, and written one by one from lent words. Assumes nothing.
use mathlib.Core.Bool.{true}
use mathlib.Core.List.{List, [], ◌++◌, ◌∷◌}
use mathlib.Core.Path.{◌∙◌, ◌≡◌, ap}
use Prim.Native.Nat.{◌*◌, ◌+◌, ◌<◌, ◌≤◌, ℕ}
use native.Mathlib.Numerals.{add-one}
use native.Mathlib.Omega.{arith}
use lib.ListN.{get_or, length}
use Rattle.cbor.proofs.Codes.{each_more, each_none}
use Rattle.cbor.specs.Code.{Here, HereEach}
use Rattle.cells.proofs.StoredForm.{words_cell_fits}
use Rattle.cells.specs.declared.Cell.{Cell}
use Rattle.words.specs.Layout.{CELL}
use Rattle.words.specs.Place.{Put, words_at, cell_ok, cell_place}
use Rattle.words.proofs.Places.{Same, cell_local}
use Rattle.record.specs.Reading.{queue}
use Rattle.record.proofs.Same.{queue_same}
use Rattle.coding.specs.Item.{CellAllowed}
use Rattle.image.specs.Element.{Appended, CellReady}
use Rattle.image.specs.Words.{CellsAt, cell_in}

-- The values passed are those that a buffer holds: g before the next one is stored, h after.
module _ {A : Type 0} (f : A → List ℕ) (Ok : A → Type 0) where
  pub passed_none : (g : ℕ → A) (s : List ℕ) (p : ℕ) → p ≤ length s → HereEach f Ok 0 s p (queue 0 g) p
  unfolding queue
  passed_none g s p h = each_none f Ok s p h

  pub passed_more : (g h : ℕ → A) (s : List ℕ) (p i q n : ℕ) (a : A) → HereEach f Ok i s p (queue i g) q → Here f Ok s q a n → ((k : ℕ) → k < i → h k ≡ g k) → h i ≡ a → HereEach f Ok (i + 1) s p (queue (i + 1) h) n
  passed_more g h s p i q n a v w same new = rw one_more (each_more f Ok s p i q n (queue i g) a v w)
    where
      one_more : queue (i + 1) h ≡ queue i g ++ (a ∷ [])
      one_more = unfold queue in (rw add-one (ap (λ (l : List A). l ++ (h i ∷ [])) (queue_same i h g same) ∙ ap (λ (x : A). queue i g ++ (x ∷ [])) new))

-- A cell stored after those that a buffer holds.
module _ (xs ys : List ℕ) (i : ℕ) (c : Cell) (W : Put cell_place xs ys (0 + CELL * i) c) where
  before : (k : ℕ) → k < i → Same xs ys (0 + CELL * k) CELL
  before k h j p q = W.kept j (λ a b. omega arith)

  pub cell_appended : Appended CELL (λ words. cell_in words 0) (λ words k. cell_ok words (0 + CELL * k) ≡ true) xs ys i c
  cell_appended = record {
    is = W.is;
    sound = W.valid;
    stays = λ k h. cell_local.value_same xs ys (0 + CELL * k) (before k h);
    sound_stays = λ k h ok. cell_local.valid_same xs ys (0 + CELL * k) (before k h) ∙ ok;
    kept = λ j o. W.kept j (λ a b. o (omega arith) (omega arith));
  }

-- The cells of a run are allowed.
pub cell_in_allowed : (words : List ℕ) (from n i : ℕ) → CellsAt words from n → i < n → CellAllowed (cell_in words from i)
unfolding words_at
cell_in_allowed words from n i v h = let w = words_cell_fits (get_or words (from + CELL * i) 0) (get_or words (from + CELL * i + 1) 0) (v.valid i h) in record { fits = w.0; finite = w.1 }

pub cell_ready : (words : List ℕ) (from n i : ℕ) → CellsAt words from n → i < n → CellReady words (from + CELL * i)
cell_ready words from n i v h = record { room = omega (arith, v.room); valid = v.valid i h; allowed = cell_in_allowed words from n i v h }
