-- `link::settle::settle` meets its contract: four stores, one after the other.
use native.Mathlib.Omega.{arith}
use Rattle.link.proofs.Settles.{has_waiting, deliverable, settled_so}
use Rattle.link.proofs.settle.settle.Goals as goal

pub drop_waiting-requires : goal.drop_waiting-requires
drop_waiting-requires c =
    let number = c.take_number in
    has_waiting _ _ _ c.args.count c.args.reaches c.args.crash _ _ c.requires _ c.going-k.ensures _ (omega (arith, c.requires.sound.valid.size, number.auto.r)) number.ensures

pub send_segment-requires : goal.send_segment-requires
send_segment-requires c =
    let number = c.take_number in
    let rounds = c.drop_waiting in
    deliverable _ _ _ c.args.count c.args.reaches c.args.crash _ _ c.requires _ c.going-k.ensures _ (omega (arith, c.requires.sound.valid.size, number.auto.r)) number.ensures _ (omega (arith, c.requires.sound.valid.size, number.auto.r, rounds.auto.r)) rounds.ensures

pub returns : goal.returns
returns c =
    let number = c.take_number in
    let rounds = c.drop_waiting in
    let segment = c.send_segment in
    let end = c.hang_up in
    let size = c.requires.sound.valid.size in
    settled_so _ _ _ c.args.count c.args.reaches c.args.crash _ _ c.requires _ c.going-k.ensures
    _ (omega (arith, size, number.auto.r)) number.ensures
    _ (omega (arith, size, number.auto.r, rounds.auto.r)) rounds.ensures
    _ _ segment.ensures end.ensures (omega (arith, size, number.auto.r, rounds.auto.r, segment.auto.r, end.auto.r))
