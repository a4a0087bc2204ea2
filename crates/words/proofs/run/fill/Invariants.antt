-- `words::run::fill` meets its contract: each turn stores one place more.
use Rattle.words.specs.Place.{place, Filled}
use Rattle.words.proofs.run.fill.Given as goal

abbrev pub invariant-loop-i : goal.invariant-loop-i
invariant-loop-i g l = let s = g.T.Stored in Filled (place s.of_words s.words_ok) l.initial.t l.t l.at l.i (λ k. l.v)
