-- `words::across::copy_from` meets its contract: each turn stores one place more.
use Rattle.std.proofs.Common.{◌+◌, ◌*◌}
use Rattle.words.specs.Layout.{PLACE}
use Rattle.words.specs.Place.{place, words_at, Filled}
use Rattle.words.proofs.across.copy_from.Given as goal

abbrev pub invariant-loop-i : goal.invariant-loop-i
invariant-loop-i g l = let s = g.T.Stored in Filled (place s.of_words s.words_ok) l.initial.t l.t l.to l.i (λ k. words_at s.of_words l.s (l.from + PLACE * k))
