-- What the promises of writing and opening an image (document 01, "Stored image") come to. Assumes nothing.
use Rattle.std.specs.Prelude.{List, Ok, ◌++◌, ◌↔◌, ◌≡◌, ℕ, ◌≤◌, ◌<◌, length, get_or, take, drop}
use Rattle.cells.specs.declared.Cell.{Cell}
use Rattle.cells.specs.declared.Cell.TheVariants.{Blank}
use Rattle.protocol.specs.declared.Refusal.TheVariants.{NoTable, BufferShort, NoImage}
use Rattle.protocol.specs.Machine.{Table, fresh_device, done, refused, length_is, Answer}
use Rattle.sheet.specs.Sheet.{sheet}
use Rattle.sheet.specs.Answer.{Given, meaning}
use Rattle.sheet.specs.declared.Answer.TheVariants.{Length}
use Rattle.table.specs.Table.{need, reading, IsTable}
use Rattle.table.specs.Claims.{Agree, MadeAlike}
use Rattle.coding.specs.Image.{image_of, Allowed, NotImage}
use Rattle.image.specs.Promise.{image_of_table, Written, Opened}

-- One image of one sheet with its numbers: allowed cells and numbers are read from it in one way only.
abbrev pub OneEncoding : Type 0
OneEncoding = (cells others : List Cell) (numbers more : List ℕ) → Allowed cells numbers → Allowed others more → image_of cells numbers ≡ image_of others more → (cells ≡ others) × (numbers ≡ more)

-- "Longest: 620 bytes": none is longer, and one is as long.
abbrev pub Longest : Type 0
Longest = (cells : List Cell) (numbers : List ℕ) → Allowed cells numbers → length (image_of cells numbers) ≤ 620

abbrev pub LongestReached : Type 0
LongestReached = (cells : List Cell) × (numbers : List ℕ) × Allowed cells numbers × (length (image_of cells numbers) ≡ 620)

-- Which answer writing gives, and when.
pub record WritingAnswers (xs old : List ℕ) (a : Answer sheet) : Type 0 where
  pub write_1 : (a ≡ refused NoTable) ↔ (IsTable xs → ⊥)
  pub write_11 : IsTable xs → ((a ≡ refused BufferShort) ↔ (length old < length (image_of_table (reading xs))))
  pub write_length : IsTable xs → ((a ≡ length_is (length (image_of_table (reading xs)))) ↔ (length (image_of_table (reading xs)) ≤ length old))

abbrev pub WritingAlwaysAnswers : Type 0
WritingAlwaysAnswers = (xs old new : List ℕ) (a : Answer sheet) → Written xs old a new → WritingAnswers xs old a

-- Which answer opening gives, and when: 12 exactly when the bytes are the encoding of no allowed cells and numbers.
pub record OpeningAnswers (bytes xs : List ℕ) (a : Answer sheet) : Type 0 where
  pub open_12 : (a ≡ refused NoImage) ↔ (NotImage bytes)
  pub open_1 : (cells : List Cell) (numbers : List ℕ) → Allowed cells numbers → bytes ≡ image_of cells numbers → ((a ≡ refused NoTable) ↔ (length xs < need (length numbers)))
  pub open_done : (cells : List Cell) (numbers : List ℕ) → Allowed cells numbers → bytes ≡ image_of cells numbers → ((a ≡ done) ↔ (need (length numbers) ≤ length xs))

abbrev pub OpeningAlwaysAnswers : Type 0
OpeningAlwaysAnswers = (bytes xs ys : List ℕ) (a : Answer sheet) → Opened bytes xs a ys → OpeningAnswers bytes xs a

-- What opening an image makes: a table with its sheet and numbers, and each device as document 01 says.
pub record OpenedTable (cells : List Cell) (numbers ys : List ℕ) : Type 0 where
  pub is_table : IsTable ys
  pub devices : (reading ys).devices ≡ length numbers
  pub some_cells : (reading ys).cells ≡ length cells
  pub server : (c : ℕ) → (reading ys).sheet c ≡ get_or cells c Blank
  pub taken : (d : ℕ) → (reading ys).taken d ≡ get_or numbers d 0
  pub device : (d : ℕ) → d < length numbers → (reading ys).device d ≡ fresh_device sheet (λ c. get_or cells c Blank) (get_or numbers d 0)

abbrev pub OpenedIsTable : Type 0
OpenedIsTable = (cells : List Cell) (numbers xs ys : List ℕ) (a : Answer sheet) → Allowed cells numbers → Opened (image_of cells numbers) xs a ys → a ≡ done → OpenedTable cells numbers ys

-- Two tables have the same lasting part.
pub record SameLasting (s t : Table sheet) : Type 0 where
  pub devices : s.devices ≡ t.devices
  pub cells : s.cells ≡ t.cells
  pub sheet : s.sheet ≡ t.sheet
  pub taken : s.taken ≡ t.taken

-- Written and opened again, in any slice with room, gives the same sheet and numbers.
abbrev pub WrittenOpened : Type 0
WrittenOpened = (xs old new : List ℕ) (a : Answer sheet) (n : ℕ) (zs ws : List ℕ) (b : Answer sheet) → IsTable xs → Written xs old a new → a ≡ length_is n → Opened (take n new) zs b ws → need (reading xs).devices ≤ length zs → (b ≡ done) × SameLasting (reading ws) (reading xs)

-- Each accepted image is written back byte for byte.
abbrev pub OpenedWritten : Type 0
OpenedWritten = (bytes xs ys old new : List ℕ) (a b : Answer sheet) → Opened bytes xs a ys → a ≡ done → Written ys old b new → length bytes ≤ length old → (b ≡ length_is (length bytes)) × (new ≡ bytes ++ drop (length bytes) old)

-- The same of what opening and writing give.
abbrev pub OpenedWrittenGiven : Type 0
OpenedWrittenGiven = (bytes xs ys old new : List ℕ) (r q : Given) → Opened bytes xs (meaning r) ys → meaning r ≡ done → Written ys old (meaning q) new
    → length bytes ≤ length old → (q ≡ Ok (Length (length bytes))) × (new ≡ bytes ++ drop (length bytes) old)

-- No second outcome fits: the answer, and every byte of the buffer or word of the slice.
abbrev pub OneWriting : Type 0
OneWriting = (xs old new other : List ℕ) (a b : Answer sheet) → Written xs old a new → Written xs old b other → (a ≡ b) × (new ≡ other)

abbrev pub OneOpening : Type 0
OneOpening = (bytes xs ys zs : List ℕ) (a b : Answer sheet) → Opened bytes xs a ys → Opened bytes xs b zs → (a ≡ b) × (ys ≡ zs)

-- The same of what writing and opening give.
abbrev pub OneWritingGiven : Type 0
OneWritingGiven = (xs old new other : List ℕ) (r q : Given) → Written xs old (meaning r) new → Written xs old (meaning q) other
    → (r ≡ q) × (new ≡ other)

abbrev pub OneOpeningGiven : Type 0
OneOpeningGiven = (bytes xs ys zs : List ℕ) (r q : Given) → Opened bytes xs (meaning r) ys → Opened bytes xs (meaning q) zs
    → (r ≡ q) × (ys ≡ zs)

-- "Bytes past the table's need stay unread", and so does every word that is not in use: writing answers and writes the same for slices that agree on them.
abbrev pub WritingReadsWordsInUse : Type 0
WritingReadsWordsInUse = (xs ys old new other : List ℕ) (a b : Answer sheet) → Agree xs ys → Written xs old a new → Written ys old b other → (a ≡ b) × (new ≡ other)

-- Opening reads no word of the slice where it makes a table, and leaves alone those that its table does not use.
abbrev pub OpeningReadsNoWord : Type 0
OpeningReadsNoWord = (cells : List Cell) (numbers xs ys xs' ys' : List ℕ) (a b : Answer sheet) → Allowed cells numbers → need (length numbers) ≤ length xs → need (length numbers) ≤ length ys
    → Opened (image_of cells numbers) xs a xs' → Opened (image_of cells numbers) ys b ys' → MadeAlike xs xs' ys' a b

-- The same of what writing and opening give.
abbrev pub WritingGivenByWordsInUse : Type 0
WritingGivenByWordsInUse = (xs ys old new other : List ℕ) (r q : Given) → Agree xs ys → Written xs old (meaning r) new → Written ys old (meaning q) other
    → (r ≡ q) × (new ≡ other)

abbrev pub OpeningGivenByNoWord : Type 0
OpeningGivenByNoWord = (cells : List Cell) (numbers xs ys xs' ys' : List ℕ) (r q : Given) → Allowed cells numbers
    → need (length numbers) ≤ length xs → need (length numbers) ≤ length ys
    → Opened (image_of cells numbers) xs (meaning r) xs' → Opened (image_of cells numbers) ys (meaning q) ys' → r ≡ q
