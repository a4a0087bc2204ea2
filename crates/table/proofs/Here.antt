-- A step on the record of a device of a table whose sizes are known. Assumes nothing.
use mathlib.Core.Path.{◌≡◌, ◌∙◌}
use mathlib.Core.List.{List}
use Prim.Native.Nat.{ℕ, ◌+◌, ◌*◌, ◌-◌, ◌<◌}
use native.Mathlib.Omega.{arith}
use lib.ListN.{length, get_or, take, drop}
use borrow.Rule.Slice.PartMut.{put_mid}
use Rattle.protocol.specs.Machine.{Answer, Device, Local, Step, at, step}
use Rattle.sheet.specs.Sheet.{sheet}
use Rattle.words.specs.Layout.{DEVICES, RECORD, RECORDS}
use Rattle.record.specs.Did.{Did, Tells}
use Rattle.record.specs.Valid.{IsRecord}
use Rattle.table.specs.Known.{TableReady}
use Rattle.table.specs.Promise.{Stepped}
use Rattle.table.specs.Table.{reading}
use Rattle.table.proofs.Lifted.{lifted, told}
use Rattle.table.proofs.Part.{part_is, part_length, replaced}
use Rattle.table.proofs.Tables.{record_of}

-- The part of the words that is lent for device d.
abbrev pub part : List ℕ → ℕ → List ℕ
part xs d = take (RECORDS + RECORD * d + RECORD - (RECORDS + RECORD * d)) (drop (RECORDS + RECORD * d) xs)

module _ (xs : List ℕ) (devices cells d : ℕ) (R : TableReady xs devices cells) (h : d < devices) where
  there : d < get_or xs DEVICES 0
  there = let n = R.devices_are in omega arith

  pub record_here : IsRecord devices cells (part xs d)
  record_here = rw (part_is xs d, R.devices_are, R.cells_are) (record_of xs R.table d there)

  module _ (s : Step sheet) (f : Device sheet → Local sheet) (e : step sheet s (reading xs) ≡ at sheet (reading xs) d f) where
    pub stepped_here : (rs : List ℕ) (a : Answer sheet) → length rs ≡ length (part xs d) → Did devices cells f (part xs d) a rs → Stepped (step sheet s) xs a (put_mid (RECORDS + RECORD * d) (RECORDS + RECORD * d + RECORD - (RECORDS + RECORD * d)) xs rs)
    stepped_here rs a l D =
        let ok = R.table.valid in
        let z = ok.sizes in
        let n = there in
        lifted s f xs d e R.table there _ rs a (replaced xs rs d (omega arith) (l ∙ part_length xs d (omega arith))) (rw (part_is xs d, R.devices_are, R.cells_are) at D)

    pub told_here : (a : Answer sheet) → Tells devices cells f (part xs d) a → Stepped (step sheet s) xs a xs
    told_here a t = told s f xs d e R.table there a (rw (part_is xs d, R.devices_are, R.cells_are) at t)
