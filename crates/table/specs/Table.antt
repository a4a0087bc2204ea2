-- "one lent table that holds them all"; "Contents are a table when ..": what its words say, which are in use, and which contents are one. Assumes nothing.
use Rattle.std.specs.Prelude.{◌≡◌, List, ℕ, ◌+◌, ◌*◌, ◌≤◌, ◌<◌, length, get_or, take, drop}
use Rattle.cells.specs.declared.Cell.TheVariants.{Blank}
use Rattle.protocol.specs.Machine.{Table, fresh_device}
use Rattle.protocol.specs.Fits.{Sizes, Fits}
use Rattle.sheet.specs.Sheet.{sheet}
use Rattle.words.specs.Layout.{CELL, TAKEN, RECORD, DEVICES, CELLS, SHEET, RECORDS}
use Rattle.words.specs.Place.{cell_place, Valid}
use Rattle.record.specs.Reading.{below, sheet_at, device_of}
use Rattle.record.specs.Valid.{InUse, ValidRecord}

-- How many words a table of so many devices takes.
abbrev pub need : ℕ → ℕ
need devices = RECORDS + RECORD * devices

-- The record of device d.
unfoldable pub record_at : List ℕ → ℕ → List ℕ
record_at xs d = take RECORD (drop (RECORDS + RECORD * d) xs)

-- The table of document 01's machine that the words say. Past its devices there is nobody.
unfoldable pub reading : List ℕ → Table sheet
reading xs =
    record {
      devices = get_or xs DEVICES 0;
      cells = get_or xs CELLS 0;
      sheet = sheet_at (get_or xs CELLS 0) xs SHEET;
      taken = below (get_or xs DEVICES 0) (λ d. get_or (record_at xs d) TAKEN 0) 0;
      device = below (get_or xs DEVICES 0) (λ d. device_of (get_or xs DEVICES 0) (get_or xs CELLS 0) (record_at xs d)) (fresh_device sheet (λ c. Blank) 0);
    }

-- The words in use: the header, the server's sheet, and in each device's record its own.
pub data InTable (xs : List ℕ) : ℕ → Type 0 where
  header : {i : ℕ} → i < SHEET → InTable xs i
  sheet_cell : {i : ℕ} → SHEET ≤ i → i < SHEET + CELL * get_or xs CELLS 0 → InTable xs i
  in_record : {i : ℕ} (d k : ℕ) → d < get_or xs DEVICES 0 → InUse (get_or xs DEVICES 0) (get_or xs CELLS 0) (record_at xs d) k → i ≡ RECORDS + RECORD * d + k → InTable xs i

-- The words in use are valid.
pub record ValidTable (xs : List ℕ) : Type 0 where
  pub sizes : Sizes (get_or xs DEVICES 0) (get_or xs CELLS 0)
  pub long : need (get_or xs DEVICES 0) ≤ length xs
  pub server : Valid cell_place xs SHEET (get_or xs CELLS 0)
  pub records : (d : ℕ) → d < get_or xs DEVICES 0 → ValidRecord (get_or xs DEVICES 0) (get_or xs CELLS 0) (record_at xs d)

-- "Contents are a table when ..": long enough, valid, and the table that they say fits.
pub record IsTable (xs : List ℕ) : Type 0 where
  pub valid : ValidTable xs
  pub fits : Fits sheet (reading xs)
