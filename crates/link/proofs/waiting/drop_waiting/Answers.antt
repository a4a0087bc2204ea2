-- `link::waiting::drop_waiting` meets its contract: nothing goes, or the rounds behind move up.
use native.Mathlib.Omega.{arith}
use Rattle.link.proofs.Goes.{waiting_movable, waiting_dropped, none_dropped}
use Rattle.link.proofs.waiting.drop_waiting.Goals as goal

pub returns-then-k-eq0 : goal.returns-then-k-eq0
returns-then-k-eq0 c = none_dropped _ _ _ c.requires c.if-k-eq0.true

pub move_rounds-requires : goal.move_rounds-requires
move_rounds-requires c = (waiting_movable _ _ _ c.requires c.if-k-eq0.false, c.requires.few_cells)

pub returns : goal.returns
returns c = waiting_dropped _ _ _ c.requires _ (omega (arith, c.requires.size, c.move_rounds.auto.r)) c.move_rounds.ensures
