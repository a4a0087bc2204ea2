-- `stepping::feed::finish_input` meets its contract: what is left is told.
use mathlib.Core.Path.{sym, subst}
use native.Mathlib.Omega.{arith}
use Rattle.lines.proofs.Held as held
use Rattle.stepping.proofs.Feeding.{within_buffer, told_end}
use Rattle.stepping.proofs.feed.finish_input.Goals as goal

pub put_told-requires : goal.put_told-requires
put_told-requires c = (within_buffer c.finish.result c.args.line.now (omega arith) (subst held.Within (sym c.finish.ensures) (held.within_finish _)), omega arith)

pub returns : goal.returns
returns c = told_end _ _ _ _ _ _ _ _ c.finish.ensures c.put_told.ensures
