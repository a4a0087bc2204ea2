-- `delivery::deliver::join_to` meets its contract: numbers are taken over, and the changes applied or joined.
use Rattle.delivery.proofs.Delivers.{numbers_fit, apply_across, join_across, prefix_joined_to, segment_joined_to}
use Rattle.delivery.proofs.deliver.join_to.Goals as goal

pub take_numbers_from-requires : goal.take_numbers_from-requires
take_numbers_from-requires c = numbers_fit _ _ _ _ _ c.requires.storable

pub change_from-requires : goal.change_from-requires
change_from-requires c =
    let n = c.take_numbers_from in
    apply_across _ _ _ _ _ c.requires _ n.auto.t n.ensures c.if-kind-eq-PREFIX.true

pub returns-then-kind-eq-PREFIX : goal.returns-then-kind-eq-PREFIX
returns-then-kind-eq-PREFIX c =
    let n = c.take_numbers_from in
    prefix_joined_to _ _ _ _ _ c.requires _ n.auto.t n.ensures _ c.if-kind-eq-PREFIX.true c.change_from.ensures

pub change_from-requires-2 : goal.change_from-requires-2
change_from-requires-2 c =
    let n = c.take_numbers_from in
    join_across _ _ _ _ _ c.requires _ n.auto.t n.ensures c.if-kind-eq-PREFIX.false

pub returns : goal.returns
returns c =
    let n = c.take_numbers_from in
    segment_joined_to _ _ _ _ _ c.requires _ n.auto.t n.ensures _ c.if-kind-eq-PREFIX.false c.change_from-2.ensures
