-- `table::begin::begin_records` meets its contract: each turn begins one record more.
use mathlib.Core.Path.{◌≡◌, ◌∙◌}
use Rattle.table.proofs.Part.{part_is, part_length, replaced}
use Rattle.cells.specs.declared.Cell.TheVariants.{Blank}
use Rattle.record.specs.Begun.{Begun}
use Rattle.table.proofs.Each.{each_none, each_more}
use native.Mathlib.Omega.{arith}
use Rattle.table.proofs.begin.begin_records.Goals as goal

pub loop-d-init : goal.loop-d-init
loop-d-init c = each_none (λ d. Begun _ (λ c. Blank) 0) _

pub begin-requires : goal.begin-requires
begin-requires c = (part_length _ c.loop-d.d (omega arith), c.args.extent.few_cells)

pub loop-d-preserved : goal.loop-d-preserved
loop-d-preserved c =
    let l = c.loop-d in
    let w = c.begin in
    let size = w.auto.r ∙ part_length l.t l.d (omega arith) in
    let R = replaced l.t _ l.d (omega arith) size in
    each_more (λ d. Begun _ (λ c. Blank) 0) _ l.t _ _ l.d l.auto.t (omega arith) l.invariant R (rw (part_is _ _) at w.ensures)

pub returns : goal.returns
returns c =
    let l = c.loop-d in
    let e : l.d ≡ c.args.extent.devices = omega arith in
    rw e at l.invariant
