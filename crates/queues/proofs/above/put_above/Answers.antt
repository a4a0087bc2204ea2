-- `queues::above::put_above` meets its contract: what it makes of waiting is the law's.
use native.Mathlib.Omega.{arith}
use Rattle.queues.proofs.Numbered.{put_done, across_movable}
use Rattle.queues.proofs.above.put_above.Goals as goal

pub move_rounds-requires : goal.move_rounds-requires
move_rounds-requires c = (across_movable _ _ _ _ c.requires c.count_to-gone.ensures, c.requires.few_cells)

pub returns : goal.returns
returns c = put_done _ _ _ _ c.requires c.count_to-gone.ensures _ (omega (arith, c.requires.size, c.move_rounds.auto.r)) c.move_rounds.ensures
