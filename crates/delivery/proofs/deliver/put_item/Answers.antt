-- `delivery::deliver::put_item` meets its contract: kind, numbers and places are copied.
use native.Mathlib.Omega.{arith}
use lib.ListN.{length-set}
use Rattle.delivery.proofs.Delivers.{numbers_fit, cells_across, changes_across, prefix_stored, segment_stored}
use Rattle.delivery.proofs.deliver.put_item.Goals as goal

pub copy_numbers_from-requires : goal.copy_numbers_from-requires
copy_numbers_from-requires c = simp length-set (numbers_fit _ _ _ _ _ c.requires)

pub copy_from-requires : goal.copy_from-requires
copy_from-requires c =
    let n = c.copy_numbers_from in
    cells_across _ _ _ _ _ c.requires _ (omega (arith, simp length-set at c.copy_numbers_from.auto.t)) n.ensures c.if-kind-eq-PREFIX.true

pub returns-then-kind-eq-PREFIX : goal.returns-then-kind-eq-PREFIX
returns-then-kind-eq-PREFIX c =
    let n = c.copy_numbers_from in
    prefix_stored _ _ _ _ _ c.requires _ (omega (arith, simp length-set at c.copy_numbers_from.auto.t)) n.ensures _ c.if-kind-eq-PREFIX.true c.copy_from.ensures

pub copy_from-requires-2 : goal.copy_from-requires-2
copy_from-requires-2 c =
    let n = c.copy_numbers_from in
    changes_across _ _ _ _ _ c.requires _ (omega (arith, simp length-set at c.copy_numbers_from.auto.t)) n.ensures c.if-kind-eq-PREFIX.false

pub returns : goal.returns
returns c =
    let n = c.copy_numbers_from in
    segment_stored _ _ _ _ _ c.requires _ (omega (arith, simp length-set at c.copy_numbers_from.auto.t)) n.ensures _ c.if-kind-eq-PREFIX.false c.copy_from-2.ensures
