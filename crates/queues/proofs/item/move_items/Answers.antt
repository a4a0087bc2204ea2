-- `queues::item::move_items` meets its contract: each turn moves one item more.
use Rattle.std.proofs.Common.{◌≡◌, arith}
use Rattle.queues.specs.Parts.{item_entry}
use Rattle.queues.proofs.Entries.{item_local, moved_none, moved_more, next_value, next_beside}
use Rattle.queues.proofs.item.move_items.Goals as goal

pub loop-j-init : goal.loop-j-init
loop-j-init c = let x = c.args.extent in moved_none (item_entry _ _) (item_local _ _ x.few_devices x.few_cells) _ _ _

pub copy_item-requires : goal.copy_item-requires
copy_item-requires c = let l = c.loop-j in let x = c.args.extent in next_beside (item_entry _ _) (item_local _ _ x.few_devices x.few_cells) _ _ _ _ _ l.j _ c.requires c.loop-j-test.true l.invariant l.auto.r

pub loop-j-preserved : goal.loop-j-preserved
loop-j-preserved c = let l = c.loop-j in let x = c.args.extent in moved_more (item_entry _ _) (item_local _ _ x.few_devices x.few_cells) _ _ _ _ _ l.j _ l.invariant c.copy_item.ensures (next_value (item_entry _ _) (item_local _ _ x.few_devices x.few_cells) _ _ _ _ _ l.j _ c.requires c.loop-j-test.true l.invariant)

pub returns : goal.returns
returns c = let e : c.loop-j.j ≡ c.args.n = omega arith in rw e at c.loop-j.invariant
