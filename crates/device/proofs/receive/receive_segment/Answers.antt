-- `device::receive::receive_segment` meets its contract: what it makes of the record is the law's.
use native.Mathlib.Omega.{arith}
use Rattle.device.proofs.Segments.{segment_items, segment_received}
use Rattle.device.proofs.receive.receive_segment.Goals as goal

pub pop_item-requires : goal.pop_item-requires
pop_item-requires c = let p = c.requires in segment_items _ _ _ _ p.0 p.1 _ (omega (arith, p.0.recorded.valid.size, c.buffer_first.auto.r)) c.buffer_first.ensures

pub returns : goal.returns
returns c = let p = c.requires in segment_received _ _ _ _ p.0 p.1 _ (omega (arith, p.0.recorded.valid.size, c.buffer_first.auto.r)) c.buffer_first.ensures _ (omega (arith, p.0.recorded.valid.size, c.buffer_first.auto.r, c.pop_item.auto.r)) c.pop_item.ensures
