-- `queues::above::forget` meets its contract: what it makes of pending is the law's.
use mathlib.Core.Path.{refl}
use native.Mathlib.Omega.{arith}
use Rattle.queues.proofs.Numbered.{forget_nothing, forget_none, forget_some, down_movable}
use Rattle.queues.proofs.above.forget.Goals as goal

pub returns-then-word-eq0 : goal.returns-then-word-eq0
returns-then-word-eq0 c = forget_nothing _ _ _ c.requires c.if-word-eq0.true

pub returns-then-gone-eq0 : goal.returns-then-gone-eq0
returns-then-gone-eq0 c = forget_none _ _ _ _ c.requires c.count_to-gone.ensures _ refl c.if-word-eq0.false c.if-gone-eq0.true

pub move_rounds-requires : goal.move_rounds-requires
move_rounds-requires c = (down_movable _ _ _ _ c.requires c.count_to-gone.ensures c.if-gone-eq0.false, c.requires.few_cells)

pub returns : goal.returns
returns c = forget_some _ _ _ _ c.requires c.count_to-gone.ensures _ refl c.if-word-eq0.false _ (omega (arith, c.requires.size, c.move_rounds.auto.r)) c.move_rounds.ensures
