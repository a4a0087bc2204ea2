-- `queues::item::join_item` meets its contract: numbers are taken over, and the changes applied or joined.
use Rattle.queues.proofs.Joins.{numbers_beside, apply_beside, join_beside, prefix_joined, segment_joined}
use Rattle.queues.proofs.item.join_item.Goals as goal

pub take_numbers-requires : goal.take_numbers-requires
take_numbers-requires c = let J = c.requires in numbers_beside _ _ _ _ _ J.few_devices J.few_cells J.beside

pub change-requires : goal.change-requires
change-requires c = apply_beside _ _ _ _ _ c.requires _ c.take_numbers.auto.t c.take_numbers.ensures c.if-kind-eq-PREFIX.true

pub returns-then-kind-eq-PREFIX : goal.returns-then-kind-eq-PREFIX
returns-then-kind-eq-PREFIX c = prefix_joined _ _ _ _ _ c.requires _ c.take_numbers.auto.t c.take_numbers.ensures _ c.if-kind-eq-PREFIX.true c.change.ensures

pub change-requires-2 : goal.change-requires-2
change-requires-2 c = join_beside _ _ _ _ _ c.requires _ c.take_numbers.auto.t c.take_numbers.ensures c.if-kind-eq-PREFIX.false

pub returns : goal.returns
returns c = segment_joined _ _ _ _ _ c.requires _ c.take_numbers.auto.t c.take_numbers.ensures _ c.if-kind-eq-PREFIX.false c.change-2.ensures
