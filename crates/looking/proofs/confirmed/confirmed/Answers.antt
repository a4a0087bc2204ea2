-- `looking::confirmed::confirmed` meets its contract: each answer is the law's.
use native.Mathlib.Omega.{arith}
use Rattle.looking.proofs.Confirms.{some_pending, some_covered, all_confirmed, some_open}
use Rattle.looking.proofs.confirmed.confirmed.Goals as goal
use Rattle.looking.proofs.confirmed.confirmed.Goals.{else-r-eq0-via-then-r-eq0+then-r-eq0-2+else-are_nothing, else-r-eq0-via-then-r-eq0+else-r-eq0-2, else-r-eq0-via-else-r-eq0}

pub returns-then-are_nothing : goal.returns-then-are_nothing
returns-then-are_nothing c = all_confirmed _ _ _ (omega (arith, c.if-r-eq0.true)) (omega (arith, c.if-r-eq0-2.true)) _ c.are_nothing.ensures c.if-are_nothing.true

pub returns-else-r-eq0 : goal.returns-else-r-eq0
returns-else-r-eq0 c =
    elim c.else-r-eq0.branch [
      | else-r-eq0-via-then-r-eq0+then-r-eq0-2+else-are_nothing w ↦ some_open _ _ _ (omega (arith, w.if-r-eq0.true)) (omega (arith, w.if-r-eq0-2.true)) _ w.are_nothing.ensures w.if-are_nothing.false
      | else-r-eq0-via-then-r-eq0+else-r-eq0-2 w ↦ some_covered _ _ _ (omega (arith, w.if-r-eq0.true)) (omega (arith, w.if-r-eq0-2.false))
      | else-r-eq0-via-else-r-eq0 w ↦ some_pending _ _ _ (omega (arith, w.if-r-eq0.false))
    ]
