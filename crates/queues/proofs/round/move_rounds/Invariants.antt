-- `queues::round::move_rounds` meets its contract: each turn moves one round more.
use Rattle.std.proofs.Common.{◌+◌, ◌*◌}
use Rattle.words.specs.Layout.{ROUND}
use Rattle.record.specs.Reading.{round_at}
use Rattle.queues.specs.Parts.{round_entry, Moved}
use Rattle.queues.proofs.round.move_rounds.Given as goal

abbrev pub invariant-loop-j : goal.invariant-loop-j
invariant-loop-j l = Moved (round_entry l.cells) l.initial.r l.r l.to l.j (λ i. round_at l.cells l.initial.r (l.from + ROUND * i))
