-- What writing and opening an image (document 01, "Stored image") promise. Assumes nothing.
use Rattle.std.specs.Prelude.{List, ◌++◌, ◌≡◌, ℕ, ◌≤◌, ◌<◌, length, get_or, drop}
use Rattle.cells.specs.declared.Cell.{Cell}
use Rattle.cells.specs.declared.Cell.TheVariants.{Blank}
use Rattle.protocol.specs.declared.Refusal.TheVariants.{NoTable, BufferShort, NoImage}
use Rattle.protocol.specs.Machine.{Table, Start, fresh, done, length_is, Answer}
use Rattle.sheet.specs.Sheet.{sheet}
use Rattle.record.specs.Reading.{queue}
use Rattle.table.specs.Table.{need, reading, IsTable}
use Rattle.table.specs.Promise.{Became, RefusedWith}
use Rattle.coding.specs.Image.{image_of, Allowed, NotImage}

-- "Writing answers the length and touches no later byte"; 11 is "image buffer shorter than the image".
pub record Stores (image old : List ℕ) (a : Answer sheet) (new : List ℕ) : Type 0 where
  pub short : length old < length image → RefusedWith BufferShort old a new
  pub answer : length image ≤ length old → a ≡ length_is (length image)
  pub after : length image ≤ length old → new ≡ image ++ drop (length image) old

-- "a stored image of the server's lasting part": the image of a table's sheet and of its devices' numbers.
abbrev pub image_of_table : Table sheet → List ℕ
image_of_table t = image_of (queue t.cells t.sheet) (queue t.devices t.taken)

-- write_image: 1, then 11, and else the image stands at the buffer's front.
pub record Written (xs old : List ℕ) (a : Answer sheet) (new : List ℕ) : Type 0 where
  pub no_table : (IsTable xs → ⊥) → RefusedWith NoTable old a new
  pub stores : IsTable xs → Stores (image_of_table (reading xs)) old a new

-- "Opening makes a table where each device knows the image's sheet, continues its number, and has no channel": what it starts from. Past the
-- image's cells the sheet is blank, and past its devices a number is 0.
abbrev pub start_of : List Cell → List ℕ → Start sheet
start_of cells numbers = record { devices = length numbers; cells = length cells; sheet = λ c. get_or cells c Blank; numbers = λ d. get_or numbers d 0 }

-- The slice is too short, 1, or became the table that b starts.
pub record Makes (b : Start sheet) (xs : List ℕ) (a : Answer sheet) (ys : List ℕ) : Type 0 where
  pub short : length xs < need b.devices → RefusedWith NoTable xs a ys
  pub answer : need b.devices ≤ length xs → a ≡ done
  pub after : need b.devices ≤ length xs → Became xs ys (fresh sheet b)

-- open_image: "12, 1", and else the table that the image starts.
pub record Opened (bytes xs : List ℕ) (a : Answer sheet) (ys : List ℕ) : Type 0 where
  pub no_image : NotImage bytes → RefusedWith NoImage xs a ys
  pub makes : (cells : List Cell) (numbers : List ℕ) → Allowed cells numbers → bytes ≡ image_of cells numbers → Makes (start_of cells numbers) xs a ys
