-- `words::check::are_valid` meets its contract: it stops at the first place that is not valid.
use Rattle.words.specs.Place.{place, Valid}
use Rattle.words.proofs.check.are_valid.Given as goal

abbrev pub invariant-loop-i : goal.invariant-loop-i
invariant-loop-i g l = let s = g.T.Stored in Valid (place s.of_words s.words_ok) l.t l.at l.i
