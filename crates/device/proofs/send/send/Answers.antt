-- `device::send::send` meets its contract: what it makes of the record is the law's.
use native.Mathlib.Omega.{arith}
use lib.ListN.{length-set}
use Rattle.device.proofs.Sends.{send_not_established, send_no_push, send_full, first_addable, second_addable, send_done}
use Rattle.device.proofs.send.send.Goals as goal

pub returns-then-r-ne-ESTABLISHED : goal.returns-then-r-ne-ESTABLISHED
returns-then-r-ne-ESTABLISHED c = send_not_established _ _ _ c.requires c.if-r-ne-ESTABLISHED.true

pub returns-then-r-eq0 : goal.returns-then-r-eq0
returns-then-r-eq0 c = send_no_push _ _ _ c.requires c.if-r-ne-ESTABLISHED.false c.if-r-eq0.true

pub returns-then-r : goal.returns-then-r
returns-then-r c = send_full _ _ _ c.requires c.if-r-ne-ESTABLISHED.false c.if-r-eq0.false c.if-r.true

pub add_round-requires : goal.add_round-requires
add_round-requires c = first_addable _ _ _ c.requires c.if-r.false

pub add_round-requires-2 : goal.add_round-requires-2
add_round-requires-2 c = second_addable _ _ _ c.requires c.if-r.false _ (omega (arith, c.requires.valid.size, c.add_round.auto.r)) c.add_round.ensures

pub shape_of-r : goal.shape_of-r
shape_of-r c = simp length-set (omega (arith, c.requires.valid.size, c.add_round.auto.r, c.add_round-2.auto.r, c.fill.auto.t))

pub returns : goal.returns
returns c = send_done _ _ _ c.requires c.if-r.false _ (omega (arith, c.requires.valid.size, c.add_round.auto.r)) c.add_round.ensures _ _ c.add_round-2.ensures c.fill.ensures (omega (arith, c.requires.valid.size, c.add_round.auto.r, c.add_round-2.auto.r, c.fill.auto.t)) c.if-r-ne-ESTABLISHED.false c.if-r-eq0.false
