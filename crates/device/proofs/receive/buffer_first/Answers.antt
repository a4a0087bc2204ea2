-- `device::receive::buffer_first` meets its contract: an empty buffer takes the item, a filled one is joined.
use Rattle.words.proofs.Tests.{not_zero}
use Rattle.device.proofs.Receives.{first_beside}
use Rattle.device.proofs.Segments.{buffer_empty, joinable, buffer_filled}
use Rattle.device.proofs.receive.buffer_first.Goals as goal

pub copy_item-requires : goal.copy_item-requires
copy_item-requires c = let p = c.requires in first_beside _ _ _ p.0 p.1

pub returns-then-r-eq0 : goal.returns-then-r-eq0
returns-then-r-eq0 c = let p = c.requires in buffer_empty _ _ _ p.0 p.1 p.2 _ c.if-r-eq0.true c.copy_item.ensures

pub join_item-requires : goal.join_item-requires
join_item-requires c = let p = c.requires in joinable _ _ _ p.0 p.1 p.2 (not_zero _ c.if-r-eq0.false)

pub returns : goal.returns
returns c = let p = c.requires in buffer_filled _ _ _ p.0 p.1 p.2 _ (not_zero _ c.if-r-eq0.false) c.join_item.ensures
