-- Cells and numbers that lie in lent words, for the image of them (document 01, "Stored image"). Assumes nothing.
use Rattle.std.specs.Prelude.{List, ℕ, ◌+◌, ◌*◌, ◌≤◌, ◌<◌, length, get_or}
use Rattle.cbor.specs.Code.{Within}
use Rattle.cells.specs.declared.Cell.{Cell}
use Rattle.words.specs.Layout.{CELL}
use Rattle.words.specs.Place.{cell_at, cell_place, Valid}
use Rattle.record.specs.Reading.{queue}
use Rattle.coding.specs.Image.{image_of, NumberAllowed}
use Rattle.image.specs.declared.writing.Places.{Places}

-- Cell k of those from `from` on.
abbrev pub cell_in : List ℕ → ℕ → ℕ → Cell
cell_in words from k = cell_at words (from + CELL * k)

-- Device d's number, where device 0's stands at `first` and the next one's `stride` words later.
abbrev pub number_in : List ℕ → ℕ → ℕ → ℕ → ℕ
number_in words first stride d = get_or words (first + stride * d) 0

-- The first n cells, and the first n numbers, of a buffer that holds nothing else.
abbrev pub cells_of : List ℕ → ℕ → List Cell
cells_of words n = queue n (cell_in words 0)

abbrev pub numbers_of : List ℕ → ℕ → List ℕ
numbers_of numbers n = queue n (λ k. get_or numbers k 0)

-- n cells lie there, and n numbers.
pub record CellsAt (words : List ℕ) (from n : ℕ) : Type 0 where
  pub room : from + CELL * n ≤ length words
  pub valid : Valid cell_place words from n

abbrev pub NumbersAt : List ℕ → ℕ → ℕ → ℕ → Type 0
NumbersAt words first stride n = (d : ℕ) → d < n → first + stride * d < length words

-- What an image is written from: allowed numbers of cells and devices, in their places.
pub record Stored (words numbers : List ℕ) (p : Places) : Type 0 where
  pub some_cells : Within 1 64 p.cells
  pub some_devices : Within 1 8 p.devices
  pub sheet : CellsAt words p.sheet p.cells
  pub placed : NumbersAt numbers p.first p.stride p.devices
  pub allowed : (d : ℕ) → d < p.devices → NumberAllowed (number_in numbers p.first p.stride d)

-- The image of what lies in those places.
abbrev pub image_at : List ℕ → List ℕ → Places → List ℕ
image_at words numbers p = image_of (queue p.cells (cell_in words p.sheet)) (queue p.devices (number_in numbers p.first p.stride))
