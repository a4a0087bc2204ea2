-- What a table says and that it is one, from its header, the server's sheet and every record. Assumes nothing.
use mathlib.Core.Path.{◌≡◌, refl, ap, ◌∙◌}
use mathlib.Core.List.{List}
use Prim.Native.Nat.{ℕ, ◌≤◌, ◌<◌}
use lib.ListN.{length, get_or}
use borrow.Author.Tests.{lt-ltb}
use Rattle.cells.specs.declared.Cell.{Cell}
use Rattle.cells.specs.declared.Cell.TheVariants.{Blank}
use Rattle.protocol.specs.Machine.{Device, fresh_device}
use Rattle.protocol.specs.Fits.{Sizes, Fits, FitsDevice}
use Rattle.sheet.specs.Sheet.{sheet}
use Rattle.words.specs.Layout.{TAKEN, DEVICES, CELLS, SHEET}
use Rattle.words.specs.Place.{cell_place, Valid}
use Rattle.record.specs.Reading.{below, sheet_at, device_of}
use Rattle.record.specs.Valid.{ValidRecord, IsRecord}
use Rattle.record.proofs.Same.{below_same}
use Rattle.queues.specs.Parts.{PlacesAre}
use Rattle.table.specs.Table.{need, record_at, reading, ValidTable, IsTable}

-- The words ys, of which the sizes and the server's sheet are known.
module _ (ys : List ℕ) (devices cells : ℕ) (s : ℕ → Cell) (n : get_or ys DEVICES 0 ≡ devices) (c : get_or ys CELLS 0 ≡ cells) (S : PlacesAre cell_place Blank cells ys SHEET s) where
  -- what they say, from each record's number taken and device
  pub reading_is : (numbers : ℕ → ℕ) (given : ℕ → Device sheet) → ((d : ℕ) → d < devices → get_or (record_at ys d) TAKEN 0 ≡ numbers d) → ((d : ℕ) → d < devices → device_of devices cells (record_at ys d) ≡ given d) → reading ys ≡ record { devices = devices; cells = cells; sheet = s; taken = below devices numbers 0; device = below devices given (fresh_device sheet (λ c. Blank) 0) }
  unfolding reading
  reading_is numbers given t g = (λ i. record {
    devices = n i;
    cells = c i;
    sheet = (ap (λ (k : ℕ). sheet_at k ys SHEET) c ∙ S.is) i;
    taken = (ap (λ (k : ℕ). below k (λ d. get_or (record_at ys d) TAKEN 0) 0) n ∙ below_same devices _ _ 0 t) i;
    device = ((λ j. below (n j) (λ d. device_of (n j) (c j) (record_at ys d)) (fresh_device sheet (λ c. Blank) 0)) ∙ below_same devices _ _ (fresh_device sheet (λ c. Blank) 0) g) i;
  })

  pub valid_from : Sizes devices cells → need devices ≤ length ys → ((d : ℕ) → d < devices → ValidRecord devices cells (record_at ys d)) → ValidTable ys
  valid_from z l r = record { sizes = rw (n, c) z; long = rw n l; server = rw c S.valid; records = λ d h. rw (n, c) (r d (rw n at h)) }

module _ (xs : List ℕ) where
  -- the device and the number taken of a device that is there
  pub device_at : (d : ℕ) → d < get_or xs DEVICES 0 → (reading xs).device d ≡ device_of (get_or xs DEVICES 0) (get_or xs CELLS 0) (record_at xs d)
  unfolding reading
  device_at d h = rw (lt-ltb d (get_or xs DEVICES 0) h) refl

  pub taken_at : (d : ℕ) → d < get_or xs DEVICES 0 → (reading xs).taken d ≡ get_or (record_at xs d) TAKEN 0
  unfolding reading
  taken_at d h = rw (lt-ltb d (get_or xs DEVICES 0) h) refl

  pub table_is : Sizes (get_or xs DEVICES 0) (get_or xs CELLS 0) → need (get_or xs DEVICES 0) ≤ length xs → Valid cell_place xs SHEET (get_or xs CELLS 0) → ((d : ℕ) → d < get_or xs DEVICES 0 → IsRecord (get_or xs DEVICES 0) (get_or xs CELLS 0) (record_at xs d)) → IsTable xs
  table_is s l v r = record {
    valid = record { sizes = s; long = l; server = v; records = λ d h. (r d h).valid };
    fits = fits_is;
  }
    where
      each_fits : (d : ℕ) → d < get_or xs DEVICES 0 → FitsDevice sheet (get_or xs DEVICES 0) ((reading xs).taken d) ((reading xs).device d)
      each_fits d h = rw (taken_at d h, device_at d h) (r d h).fits

      fits_is : Fits sheet (reading xs)
      fits_is = unfold reading in (record { sizes = s; each = each_fits })

  pub record_of : IsTable xs → (d : ℕ) → d < get_or xs DEVICES 0 → IsRecord (get_or xs DEVICES 0) (get_or xs CELLS 0) (record_at xs d)
  record_of T d h = record {
    few_devices = T.valid.sizes.devices_to_8;
    few_cells = T.valid.sizes.cells_to_64;
    valid = T.valid.records d h;
    fits = rw (taken_at d h, device_at d h) at there;
  }
    where
      there : FitsDevice sheet (get_or xs DEVICES 0) ((reading xs).taken d) ((reading xs).device d)
      there = unfold reading in (T.fits.each d h)
