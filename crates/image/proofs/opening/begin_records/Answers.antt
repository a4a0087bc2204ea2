-- `image::opening::begin_records` meets its contract: each turn begins one record more.
use mathlib.Core.Path.{◌∙◌}
use native.Mathlib.Omega.{arith}
use Prim.Native.Nat.{◌<◌}
use lib.ListN.{get_or}
use lib.Seq.{get_or-take, length-take-le}
use Rattle.record.specs.Begun.{Begun}
use Rattle.record.specs.Reading.{sheet_at}
use Rattle.table.proofs.Each.{each_more}
use Rattle.table.proofs.Part.{part_is, part_length, replaced}
use Rattle.image.proofs.opening.begin_records.Goals as goal

pub loop-d-preserved : goal.loop-d-preserved
loop-d-preserved c =
    let l = c.loop-d in
    let g = c.args in
    let w = c.begin_record in
    let known = length-take-le g.extent.devices g.numbers.now c.requires.1 in
    let within : l.d < g.extent.devices = omega arith in
    let size = w.auto.r ∙ part_length l.t l.d (omega arith) in
    let R = replaced l.t _ l.d (omega arith) size in
    (R.same_length ∙ l.invariant.0, each_more (λ e. Begun g.extent.cells (sheet_at g.extent.cells g.sheet.now 0) (get_or g.numbers.now e 0)) _ l.t _ _ l.d l.invariant.0 (omega arith) l.invariant.1 R (rw (part_is _ _, get_or-take) at w.ensures))
