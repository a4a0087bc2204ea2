-- `link::gather::join_rounds` meets its contract: each turn joins one round more.
use Rattle.link.specs.Gather.{JoinedRounds}
use Rattle.link.proofs.gather.join_rounds.Given as goal

abbrev pub invariant-loop-j : goal.invariant-loop-j
invariant-loop-j l = JoinedRounds l.cells l.j l.initial.segment l.r l.segment
