-- `server::batch::take_rounds` meets its contract: nothing was taken, or the segment is applied and every record settled.
use Rattle.server.proofs.Batches.{segment_item, can_apply, all_sound, took_none, took_some}
use Rattle.server.proofs.batch.take_rounds.Goals as goal

pub returns-then-moved-eq0 : goal.returns-then-moved-eq0
returns-then-moved-eq0 c = took_none _ _ _ _ c.requires _ _ c.gather-moved.ensures _ _ c.if-moved-eq0.true

pub change_from-requires : goal.change_from-requires
change_from-requires c = can_apply _ _ _ _ c.requires _ _ c.gather-moved.ensures

pub settle_all-requires : goal.settle_all-requires
settle_all-requires c =
    let ready = c.requires in
    let segment = c.gather-moved.ensures in
    let applied = c.change_from in
    (all_sound _ _ _ _ ready _ _ segment _ applied.auto.t applied.ensures, segment_item _ _ _ _ ready _ _ segment, segment.kind)

pub returns : goal.returns
returns c =
    let applied = c.change_from in
    let settled = c.settle_all in
    took_some _ _ _ _ c.requires _ _ c.gather-moved.ensures _ applied.auto.t applied.ensures _ _ _ settled.auto.t settled.ensures c.if-moved-eq0.false
