-- `words::across::take_numbers_from` meets its contract: each turn stores one number more.
use Rattle.std.proofs.Common.{◌≡◌, ◌+◌, ◌∙◌, refl, ap₂, arith}
use Rattle.words.specs.Place.{later_number}
use Rattle.words.proofs.Places.{numbers_none, numbers_more}
use Rattle.words.proofs.across.take_numbers_from.Goals as goal

pub loop-i-init : goal.loop-i-init
loop-i-init c = numbers_none _ _ _

pub loop-i-preserved : goal.loop-i-preserved
loop-i-preserved c =
    let l = c.loop-i in
    let old = l.invariant.kept (c.args.to + l.i) (λ p q. omega arith) in
    numbers_more _ _ _ l.i _ _ l.invariant (omega arith) (c.later_number.ensures ∙ ap₂ later_number old refl)

pub returns : goal.returns
returns c = let e : c.loop-i.i ≡ c.args.n = omega arith in rw e at c.loop-i.invariant
