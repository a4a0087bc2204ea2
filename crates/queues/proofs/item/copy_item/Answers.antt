-- `queues::item::copy_item` meets its contract: kind, numbers and places are copied.
use native.Mathlib.Omega.{arith}
use lib.ListN.{length-set}
use Rattle.queues.proofs.Joins.{numbers_beside, cells_beside, changes_beside, prefix_copied, segment_copied}
use Rattle.queues.proofs.item.copy_item.Goals as goal

pub copy_numbers-requires : goal.copy_numbers-requires
copy_numbers-requires c = let x = c.args.extent in simp length-set (numbers_beside _ _ _ _ _ x.few_devices x.few_cells c.requires)

pub copy-requires : goal.copy-requires
copy-requires c = let x = c.args.extent in cells_beside _ _ _ _ _ x.few_devices x.few_cells c.requires _ (omega (arith, simp length-set at c.copy_numbers.auto.t)) c.copy_numbers.ensures c.if-kind-eq-PREFIX.true

pub returns-then-kind-eq-PREFIX : goal.returns-then-kind-eq-PREFIX
returns-then-kind-eq-PREFIX c = let x = c.args.extent in prefix_copied _ _ _ _ _ x.few_devices x.few_cells c.requires _ (omega (arith, simp length-set at c.copy_numbers.auto.t)) c.copy_numbers.ensures _ c.if-kind-eq-PREFIX.true c.copy.ensures

pub copy-requires-2 : goal.copy-requires-2
copy-requires-2 c = let x = c.args.extent in changes_beside _ _ _ _ _ x.few_devices x.few_cells c.requires _ (omega (arith, simp length-set at c.copy_numbers.auto.t)) c.copy_numbers.ensures c.if-kind-eq-PREFIX.false

pub returns : goal.returns
returns c = let x = c.args.extent in segment_copied _ _ _ _ _ x.few_devices x.few_cells c.requires _ (omega (arith, simp length-set at c.copy_numbers.auto.t)) c.copy_numbers.ensures _ c.if-kind-eq-PREFIX.false c.copy-2.ensures
