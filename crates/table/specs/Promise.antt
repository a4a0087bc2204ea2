-- "Each public function's promise determines its answer and the table and buffers afterwards, on every input, refused or not": what a call on the
-- lent table promises. Assumes nothing.
use Rattle.std.specs.Prelude.{◌≡◌, List, ℕ, ◌*◌, ◌≤◌, ◌<◌, length, get_or}
use Rattle.cells.specs.declared.Cell.{Cell}
use Rattle.protocol.specs.declared.Refusal.{Refusal}
use Rattle.protocol.specs.declared.Refusal.TheVariants.{NoTable, OutsideAllowed}
use Rattle.protocol.specs.Machine.{Table, Result, fresh, done, refused, Answer}
use Rattle.protocol.specs.Fits.{Sizes}
use Rattle.sheet.specs.Sheet.{sheet, started}
use Rattle.words.specs.Layout.{RECORD, RECORDS}
use Rattle.words.specs.Place.{Kept}
use Rattle.record.specs.Begun.{Begun}
use Rattle.table.specs.Table.{need, record_at, reading, InTable, ValidTable, IsTable}

-- The words xs became ys: they say the table t, those in use are valid, and every other word is kept.
pub record Became (xs ys : List ℕ) (t : Table sheet) : Type 0 where
  pub says : reading ys ≡ t
  pub valid : ValidTable ys
  pub kept : (i : ℕ) → (InTable ys i → ⊥) → get_or ys i 0 ≡ get_or xs i 0
  pub size : length ys ≡ length xs

-- "A refusal returns its number .. and leaves table and output buffer untouched."
pub record RefusedWith (r : Refusal) (xs : List ℕ) (a : Answer sheet) (ys : List ℕ) : Type 0 where
  pub number : a ≡ refused r
  pub untouched : ys ≡ xs

-- A call that makes the machine's step s of a table, and answers 1 on contents that are none.
pub record Stepped (s : Table sheet → Result sheet) (xs : List ℕ) (a : Answer sheet) (ys : List ℕ) : Type 0 where
  pub no_table : (IsTable xs → ⊥) → RefusedWith NoTable xs a ys
  pub answer : IsTable xs → a ≡ (s (reading xs)).answer
  pub after : IsTable xs → Became xs ys (s (reading xs)).table

-- start: "2, 1", and else the table at first.
pub record Started (devices cells : ℕ) (xs : List ℕ) (a : Answer sheet) (ys : List ℕ) : Type 0 where
  pub outside : (Sizes devices cells → ⊥) → RefusedWith OutsideAllowed xs a ys
  pub short : Sizes devices cells → length xs < need devices → RefusedWith NoTable xs a ys
  pub begun : Sizes devices cells → need devices ≤ length xs → (a ≡ done) × Became xs ys (fresh sheet (started devices cells))

-- ys is xs with the records of the first n devices changed, each as Q says of its number, its old words and its new ones.
pub record Each (Q : ℕ → List ℕ → List ℕ → Type 0) (xs ys : List ℕ) (n : ℕ) : Type 0 where
  pub each : (d : ℕ) → d < n → Q d (record_at xs d) (record_at ys d)
  pub kept : Kept xs ys RECORDS (RECORD * n)

-- The records of n devices begun, each knowing a sheet, at its number.
abbrev pub Begins : (cells : ℕ) → (ℕ → Cell) → (ℕ → ℕ) → List ℕ → List ℕ → ℕ → Type 0
Begins cells known numbers = Each (λ d. Begun cells known (numbers d))
