-- `cbor::head::read_argument` meets its contract: five bits below 24 are the argument; else its bytes are read, and the five bits must be the least that lead it.
use mathlib.Core.Path.{◌∙◌, sym}
use native.Mathlib.Omega.{arith}
use borrow.Author.Rules.{rules}
use Rattle.cbor.specs.Head.{width_of}
use Rattle.cbor.proofs.Heads.{got_nil, info_self, no_argument, width_le}
use Rattle.cbor.proofs.Numbers.{enough, got_high_first}
use Rattle.cbor.proofs.head.read_argument.Goals as goal

pub returns-then-info-lt24 : goal.returns-then-info-lt24
returns-then-info-lt24 c = rw c.from.ensures (search rules, info_self _ c.if-info-lt24.true, got_nil _ _ _ _ c.if-info-lt24.true c.requires.0)

pub returns-then-s-at : goal.returns-then-s-at
returns-then-s-at c a r ha e d =
    let g = c.args in
    omega (arith, enough g.s.now g.at (width_of g.info) a r d)

pub read_high_first-a-requires : goal.read_high_first-a-requires
read_high_first-a-requires c = omega (arith, width_le c.args.info)

pub returns-then-least-info : goal.returns-then-least-info
returns-then-least-info c =
    let n = c.width_of-n in
    let v = c.read_high_first-a in
    let g = got_high_first _ _ _ _ v.ensures (omega arith) in
    (omega arith, sym c.info_of-least.ensures ∙ c.if-least-info.true, rw (← n.ensures) g)

pub returns-else-least-info : goal.returns-else-least-info
returns-else-least-info c a r ha e d =
    let n = c.width_of-n in
    let v = c.read_high_first-a in
    no_argument _ _ _ v.result a r (omega arith) (rw n.ensures at v.ensures) (λ q. c.if-least-info.false (c.info_of-least.ensures ∙ q)) ha e d
