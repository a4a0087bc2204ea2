-- Beyond document 01: an image as text (docs/DECISIONS.md, "The stored image"). What making an image of its text promises. Assumes nothing.
use Rattle.std.specs.Prelude.{List, ◌≡◌, ℕ, Option, Some, None}
use Rattle.cells.specs.declared.Cell.{Cell}
use Rattle.protocol.specs.declared.Refusal.TheVariants.{NoImage}
use Rattle.protocol.specs.Machine.{Answer}
use Rattle.sheet.specs.Sheet.{sheet}
use Rattle.words.specs.Place.{cell_place, Valid}
use Rattle.table.specs.Promise.{RefusedWith}
use Rattle.coding.specs.Image.{image_of, Allowed}
use Rattle.image.specs.Promise.{Stores}
use Rattle.image.specs.Words.{cells_of, numbers_of}
use Rattle.words.specs.declared.extent.Extent.{Extent}
use Rattle.listing.specs.Shown.{image_text}

-- The text is that of no image.
abbrev pub NotText : List ℕ → Type 0
NotText t = (cells : List Cell) (numbers : List ℕ) → Allowed cells numbers → t ≡ image_text cells numbers → ⊥

-- The text is that of the n cells and d numbers at the fronts of the two buffers.
pub record TextOf (t words numbers : List ℕ) (n d : ℕ) : Type 0 where
  pub allowed : Allowed (cells_of words n) (numbers_of numbers d)
  pub is : t ≡ image_text (cells_of words n) (numbers_of numbers d)
  pub valid : Valid cell_place words 0 n

-- Where the text is that of no image, nothing is said of the two buffers.
abbrev pub TextReadIs : List ℕ → List ℕ → List ℕ → Option Extent → Type 0
TextReadIs t words numbers (Some c) = TextOf t words numbers c.cells c.devices
TextReadIs t words numbers None = NotText t

-- compose: 12, then 11, and else the image of the text stands at the buffer's front.
pub record Composed (t old : List ℕ) (a : Answer sheet) (new : List ℕ) : Type 0 where
  pub no_text : NotText t → RefusedWith NoImage old a new
  pub stores : (cells : List Cell) (numbers : List ℕ) → Allowed cells numbers → t ≡ image_text cells numbers → Stores (image_of cells numbers) old a new
