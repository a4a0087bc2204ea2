-- `device::receive::receive_prefix` meets its contract: what it makes of the record is the law's.
use native.Mathlib.Omega.{arith}
use lib.ListN.{length-set}
use Rattle.device.proofs.Receives.{first_beside}
use Rattle.device.proofs.Prefixes.{word_given, has_pending, prefix_items, prefix_received}
use Rattle.device.proofs.receive.receive_prefix.Goals as goal

pub overflow_sub-number : goal.overflow_sub-number
overflow_sub-number c = let p = c.requires in omega (arith, word_given _ _ _ _ p.0 p.1)

pub copy_item-requires : goal.copy_item-requires
copy_item-requires c = let A = c.requires.0 in first_beside _ _ _ A.recorded A.one

pub put_above-requires : goal.put_above-requires
put_above-requires c = let p = c.requires in has_pending _ _ _ _ p.0 p.1 _ (omega (arith, p.0.recorded.valid.size, c.copy_item.auto.r)) c.copy_item.ensures

pub pop_item-requires : goal.pop_item-requires
pop_item-requires c = let p = c.requires in prefix_items _ _ _ _ p.0 p.1 _ (omega (arith, p.0.recorded.valid.size, c.copy_item.auto.r)) c.copy_item.ensures _ (omega (arith, p.0.recorded.valid.size, c.copy_item.auto.r, c.put_above.auto.r)) c.put_above.ensures

pub returns : goal.returns
returns c = let p = c.requires in prefix_received _ _ _ _ p.0 p.1 _ (omega (arith, p.0.recorded.valid.size, c.copy_item.auto.r)) c.copy_item.ensures _ (omega (arith, p.0.recorded.valid.size, c.copy_item.auto.r, c.put_above.auto.r)) c.put_above.ensures _ (omega (arith, p.0.recorded.valid.size, c.copy_item.auto.r, c.put_above.auto.r, simp length-set at c.pop_item.auto.r)) c.pop_item.ensures
