-- `words::run::change` meets its contract: the places of a turn are as they were at the start.
use Rattle.std.proofs.Common.{◌+◌, ◌*◌}
use Rattle.words.specs.Layout.{PLACE}
use Rattle.words.specs.Place.{place, words_at, change_at, Filled}
use Rattle.words.proofs.run.change.Given as goal

abbrev pub invariant-loop-i : goal.invariant-loop-i
invariant-loop-i g l =
    let s = g.T.Stored in
    Filled (place s.of_words s.words_ok) l.initial.t l.t l.to l.i (λ k. g.T.Changed.after (words_at s.of_words l.initial.t (l.to + PLACE * k)) (change_at l.initial.t (l.from + PLACE * k)))
