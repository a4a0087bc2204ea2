-- `queues::item::pop_item` meets its contract: what it makes of the items is the law's.
use native.Mathlib.Omega.{arith}
use Rattle.queues.proofs.Items.{items_movable, item_popped}
use Rattle.queues.proofs.item.pop_item.Goals as goal

pub move_items-requires : goal.move_items-requires
move_items-requires c = items_movable _ _ _ c.requires

pub returns : goal.returns
returns c = item_popped _ _ _ c.requires _ (omega (arith, c.requires.size, c.move_items.auto.r)) c.move_items.ensures
