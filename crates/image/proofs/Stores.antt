-- What is written from a table: where its cells and numbers lie, and the bytes in the buffer. Assumes nothing.
use mathlib.Core.List.{List, ◌++◌}
use mathlib.Core.Path.{◌∙◌, ◌≡◌, ap, refl, sym}
use Prim.Native.Nat.{◌*◌, ◌+◌, ◌<◌, ◌≤◌, ℕ}
use native.Mathlib.Omega.{arith}
use lib.ListN.{drop, get_or, length}
use Rattle.cells.specs.declared.Cell.TheVariants.{Blank}
use Rattle.protocol.specs.declared.Refusal.TheVariants.{BufferShort, NoTable}
use Rattle.protocol.specs.Machine.{Answer, length_is, refused}
use Rattle.sheet.specs.Sheet.{sheet}
use Rattle.words.specs.Layout.{CELLS, DEVICES, RECORD, RECORDS, SHEET, TAKEN}
use Rattle.record.specs.Reading.{places_at, queue}
use Rattle.record.proofs.Same.{queue_same}
use Rattle.table.specs.Table.{IsTable, reading}
use Rattle.table.proofs.Part.{record_word}
use Rattle.table.proofs.Records.{below_in}
use Rattle.table.proofs.Tables.{record_of, taken_at}
use Rattle.coding.specs.Image.{image_of}
use Rattle.image.specs.Promise.{Stores, Written, image_of_table}
use Rattle.image.specs.Words.{Stored, cell_in, image_at, number_in}
use Rattle.image.specs.declared.writing.Places.{Places}

-- The two ways in which the buffer's front is written, or not.
pub stores_short : (v old : List ℕ) → length old < length v → Stores v old (refused BufferShort) old
stores_short v old h = record { short = λ l. record { number = refl; untouched = refl }; answer = λ l. absurd (omega arith); after = λ l. absurd (omega arith) }

pub stores_front : (v w old : List ℕ) (n : ℕ) → n ≡ length v → w ≡ v → length v ≤ length old → Stores v old (length_is n) (w ++ drop n old)
stores_front v w old n e f h = rw (e, f) (record { short = λ l. absurd (omega arith); answer = λ l. refl; after = λ l. refl })

-- Where the cells and numbers of a table lie.
abbrev pub places_of : List ℕ → Places
places_of xs = record { cells = get_or xs CELLS 0; sheet = SHEET; devices = get_or xs DEVICES 0; first = RECORDS + TAKEN; stride = RECORD }

module _ (xs : List ℕ) where
  cell_read : (k : ℕ) → k < get_or xs CELLS 0 → cell_in xs SHEET k ≡ (reading xs).sheet k
  unfolding reading places_at
  cell_read k h = sym (below_in (get_or xs CELLS 0) k (λ c. cell_in xs SHEET c) Blank h)

  number_word : (d : ℕ) → RECORDS + TAKEN + RECORD * d ≡ RECORDS + RECORD * d + TAKEN
  number_word d = omega arith

  number_read : (d : ℕ) → d < get_or xs DEVICES 0 → number_in xs (RECORDS + TAKEN) RECORD d ≡ (reading xs).taken d
  number_read d h = ap (λ (i : ℕ). get_or xs i 0) (number_word d) ∙ sym (record_word xs d TAKEN (omega arith)) ∙ sym (taken_at xs d h)

  pub cells_read : queue (get_or xs CELLS 0) (cell_in xs SHEET) ≡ queue (reading xs).cells (reading xs).sheet
  cells_read = queue_same (get_or xs CELLS 0) _ _ cell_read ∙ (unfold reading in refl)

  pub numbers_read : queue (get_or xs DEVICES 0) (number_in xs (RECORDS + TAKEN) RECORD) ≡ queue (reading xs).devices (reading xs).taken
  numbers_read = queue_same (get_or xs DEVICES 0) _ _ number_read ∙ (unfold reading in refl)

  image_read : image_at xs xs (places_of xs) ≡ image_of_table (reading xs)
  image_read = (λ i. image_of (cells_read i) (numbers_read i))

  -- a table's sheet and numbers are allowed, and in their places
  pub table_stored : IsTable xs → Stored xs xs (places_of xs)
  table_stored T =
      let s = T.valid.sizes in
      let l = T.valid.long in
      record {
        some_cells = (omega arith, omega arith, omega arith);
        some_devices = (omega arith, omega arith, omega arith);
        sheet = record { room = omega arith; valid = T.valid.server };
        placed = λ d h. omega arith;
        allowed = λ d h. let f = (record_of xs T d h).fits in let w = record_word xs d TAKEN (omega arith) in rw (number_word d) (omega (arith, f.taken_to_last, f.last_in_range), omega (arith, f.taken_to_last, f.last_in_range), omega (arith, f.taken_to_last, f.last_in_range));
      }

  pub written_none : (old : List ℕ) → (IsTable xs → ⊥) → Written xs old (refused NoTable) old
  written_none old n = record { no_table = λ m. record { number = refl; untouched = refl }; stores = λ T. absurd (n T) }

  pub written_table : (old new : List ℕ) (a : Answer sheet) → IsTable xs → Stores (image_at xs xs (places_of xs)) old a new → Written xs old a new
  written_table old new a T S = record { no_table = λ n. absurd (n T); stores = λ t. rw image_read at S }
