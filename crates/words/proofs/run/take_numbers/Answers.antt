-- `words::run::take_numbers` meets its contract: each turn stores one number more.
use Rattle.std.proofs.Common.{◌≡◌, ◌+◌, ◌∙◌, ap₂, arith}
use Rattle.words.specs.Place.{later_number}
use Rattle.words.proofs.Places.{numbers_none, numbers_more}
use Rattle.words.proofs.run.take_numbers.Goals as goal

pub loop-i-init : goal.loop-i-init
loop-i-init c = numbers_none _ _ _

pub loop-i-preserved : goal.loop-i-preserved
loop-i-preserved c =
    let l = c.loop-i in
    let old = l.invariant.kept (c.args.to + l.i) (λ p q. omega arith) in
    let new = l.invariant.kept (c.args.from + l.i) (λ p q. c.requires.2 (c.args.from + l.i) p (omega arith) (omega arith) (omega arith)) in
    numbers_more _ _ _ l.i _ _ l.invariant (omega arith) (c.later_number.ensures ∙ ap₂ later_number old new)

pub returns : goal.returns
returns c = let e : c.loop-i.i ≡ c.args.n = omega arith in rw e at c.loop-i.invariant
