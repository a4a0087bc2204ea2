-- `words::across::take_numbers_from` meets its contract: each turn stores one number more.
use Rattle.std.proofs.Common.{◌+◌, get_or}
use Rattle.words.specs.Place.{Numbers, later_number}
use Rattle.words.proofs.across.take_numbers_from.Given as goal

abbrev pub invariant-loop-i : goal.invariant-loop-i
invariant-loop-i l = Numbers l.initial.t l.t l.to l.i (λ k. later_number (get_or l.initial.t (l.to + k) 0) (get_or l.s (l.from + k) 0))
