-- Beyond document 01: an image as text (docs/DECISIONS.md, "The stored image"). The text of an image: a line for each cell, as an answer prints it, then a line for each device's number. Assumes nothing.
use Rattle.std.specs.Prelude.{List, [], ◌∷◌, ◌++◌, ◌≡◌, ℕ, ◌≤◌, length}
use Rattle.cbor.specs.Code.{each}
use Rattle.cells.specs.declared.Cell.{Cell}
use Rattle.protocol.specs.declared.Refusal.TheVariants.{NoImage}
use Rattle.protocol.specs.Machine.{value, refused}
use Rattle.text.specs.Field.{record_of}
use Rattle.text.specs.Text.{Put, decimal_text, ended}
use Rattle.answers.specs.Answer.{answer_line}
use Rattle.coding.specs.Image.{image_of, Allowed, NotImage}

-- blank, count,n or measure, and 16 upper-case hex digits
abbrev pub cell_line : Cell → List ℕ
cell_line c = answer_line (value c)

-- number,k
abbrev pub number_text : List ℕ
number_text = 110 ∷ 117 ∷ 109 ∷ 98 ∷ 101 ∷ 114 ∷ []

unfoldable pub number_record : ℕ → List ℕ
unfolding record_of
number_record k = record_of number_text (decimal_text k ∷ [])

unfoldable pub number_line : ℕ → List ℕ
unfolding number_record
number_line k = ended (number_record k)

unfoldable pub image_text : List Cell → List ℕ → List ℕ
image_text cells numbers = each cell_line cells ++ each number_line numbers

-- The text of the image stands at the buffer's front, or the line `refused,12`.
pub record Shown (bytes before after : List ℕ) (r : ℕ) : Type 0 where
  pub no_image : NotImage bytes → Put before 0 (answer_line (refused NoImage)) after r
  pub text : (cells : List Cell) (numbers : List ℕ) → Allowed cells numbers → bytes ≡ image_of cells numbers → Put before 0 (image_text cells numbers) after r
  pub within : r ≤ length after
