-- Beyond document 01: an image as text (docs/DECISIONS.md, "The stored image"). The lines of an image's text, one by one: where a line ends, and which text is a cell or a number. Assumes nothing.
use Rattle.std.specs.Prelude.{bytes_eq, cond, List, ◌++◌, ◌≡◌, ℕ, ◌≤◌, eqb, length, take, drop, Option, Some, None}
use Rattle.std.specs.Float.{binary64}
use Rattle.std.specs.Float.Ieee.{of_bits}
use Rattle.cbor.specs.Bytes.{Got}
use Rattle.cbor.specs.Code.{Nowhere, ReadIs}
use Rattle.cells.specs.Finite.{finite_word}
use Rattle.cells.specs.declared.Cell.{Cell}
use Rattle.cells.specs.declared.Cell.TheVariants.{Blank, Count, Measure}
use Rattle.text.specs.Field.{commas_of, field_of}
use Rattle.text.specs.Number.{on_some, decimal_of, signed_of, bits_of}
use Rattle.text.specs.Text.{Without, ended}
use Rattle.wording.specs.Values.{update_name_of}
use Rattle.wording.specs.declared.values.UpdateName.{UpdateName}
use Rattle.coding.specs.Image.{NumberAllowed}
use Rattle.coding.specs.Item.{CellAllowed}
use Rattle.listing.specs.Shown.{cell_line, number_text, number_line}

-- the texts of lines: without a CR, and of at most 80 bytes
pub record LineText (t : List ℕ) : Type 0 where
  pub plain : Without 13 t
  pub short : length t ≤ 80

-- t is the text of the line from p up to n, and no other text without a CR is
pub record EndsAt (s : List ℕ) (p : ℕ) (t : List ℕ) (n : ℕ) : Type 0 where
  pub here : Got s p (ended t) n
  pub only : (u r : List ℕ) → Without 13 u → drop p s ≡ ended u ++ r → u ≡ t

-- the line from p on, its text at the buffer's front, or that no line is there
abbrev pub LineReadIs : List ℕ → ℕ → List ℕ → Option (ℕ × ℕ) → Type 0
LineReadIs s p line (Some (k, n)) = (k ≤ 80) × EndsAt s p (take k line) n
LineReadIs s p line None = Nowhere ended LineText s p

-- count,n: the count that the field behind the comma is
unfoldable pub count_of : List ℕ → Option Cell
count_of f = on_some None (signed_of f) (λ z. Some (Count z))

-- measure, and 16 hex digits: the measured number that they are, where it is finite
unfoldable pub finite_of : ℕ → Option Cell
finite_of n = cond (finite_word n) (Some (Measure (of_bits binary64 n))) None

unfoldable pub measure_of : List ℕ → Option Cell
unfolding finite_of
measure_of f = on_some None (bits_of f) finite_of

-- the cell by its name, of a text with n commas
unfoldable pub cell_by : Option UpdateName → ℕ → List ℕ → Option Cell
unfolding count_of measure_of
cell_by (Some UpdateName.Blank) n t = cond (eqb n 0) (Some Blank) None
cell_by (Some UpdateName.Count) n t = cond (eqb n 1) (count_of (field_of 1 t)) None
cell_by (Some UpdateName.Measure) n t = cond (eqb n 1) (measure_of (field_of 1 t)) None
cell_by (Some UpdateName.Add) n t = None
cell_by None n t = None

-- the cell that a text is; `proofs/Exactly.antt` shows that it finds exactly the texts of cells
unfoldable pub cell_from : List ℕ → Option Cell
unfolding cell_by
cell_from t = cell_by (update_name_of (field_of 0 t)) (commas_of t) t

-- the number that a text is, in the same way
unfoldable pub number_from : List ℕ → Option ℕ
number_from t = cond (eqb (commas_of t) 1) (cond (bytes_eq (field_of 0 t) number_text) (decimal_of 1000000 (field_of 1 t)) None) None

-- a cell's line at a place, or that none is there; and a number's
abbrev pub CellLineIs : List ℕ → ℕ → Option (Cell × ℕ) → Type 0
CellLineIs = ReadIs cell_line CellAllowed

abbrev pub NumberLineIs : List ℕ → ℕ → Option (ℕ × ℕ) → Type 0
NumberLineIs = ReadIs number_line NumberAllowed
