-- `words::run::copy` meets its contract: what it reads is not yet stored over.
use Rattle.std.proofs.Common.{◌+◌, ◌*◌}
use Rattle.words.specs.Layout.{PLACE}
use Rattle.words.specs.Place.{place, words_at, Filled}
use Rattle.words.proofs.run.copy.Given as goal

abbrev pub invariant-loop-i : goal.invariant-loop-i
invariant-loop-i g l = let s = g.T.Stored in Filled (place s.of_words s.words_ok) l.initial.t l.t l.to l.i (λ k. words_at s.of_words l.initial.t (l.from + PLACE * k))
