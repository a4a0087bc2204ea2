-- `listing::line::line_from` meets its contract. The loop's invariant: the bytes passed are held, and no line ended in them.
use mathlib.Core.Path.{◌≡◌}
use lib.ListN.{length}
use Rattle.listing.proofs.Walks.{Seen}
use Rattle.listing.proofs.line.line_from.Given as goal

abbrev pub invariant-loop-i : goal.invariant-loop-i
invariant-loop-i l = (length l.line ≡ length l.initial.line) × Seen l.s l.from l.i l.line l.held
