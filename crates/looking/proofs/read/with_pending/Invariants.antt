-- `looking::read::with_pending` meets its contract: each turn applies one round more.
use mathlib.Core.Path.{◌≡◌}
use Rattle.looking.proofs.Looks.{after_rounds}
use Rattle.looking.proofs.read.with_pending.Given as goal

abbrev pub invariant-loop-j : goal.invariant-loop-j
invariant-loop-j l = l.c ≡ after_rounds l.fn.extent.cells l.r l.k l.j
