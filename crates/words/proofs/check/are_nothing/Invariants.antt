-- `words::check::are_nothing` meets its contract: it stops at the first change that is not nothing.
use Rattle.std.proofs.Common.{◌≡◌, ◌+◌, ◌*◌, ◌<◌, ℕ}
use Rattle.words.specs.Layout.{PLACE}
use Rattle.words.specs.Place.{change_at}
use Rattle.cells.specs.declared.Change.TheVariants.{Nothing}
use Rattle.words.proofs.check.are_nothing.Given as goal

abbrev pub invariant-loop-i : goal.invariant-loop-i
invariant-loop-i l = (k : ℕ) → k < l.i → change_at l.t (l.at + PLACE * k) ≡ Nothing
