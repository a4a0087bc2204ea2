-- `queues::above::count_to` meets its contract: it stops at the first round above the number.
use Rattle.std.proofs.Common.{ℕ, ◌+◌, ◌*◌, ◌≤◌, ◌<◌, get_or}
use Rattle.words.specs.Layout.{ROUND, PENDING}
use Rattle.queues.proofs.above.count_to.Given as goal

abbrev pub invariant-loop-j : goal.invariant-loop-j
invariant-loop-j l = (i : ℕ) → i < l.j → get_or l.r (PENDING + ROUND * i) 0 ≤ l.number
