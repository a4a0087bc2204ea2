-- `cbor::number::read_number` meets its contract: the token that is there tells, and its number is tested.
use mathlib.Core.Logic.{⊎_elim}
use mathlib.Core.Path.{◌∙◌, sym}
use native.Mathlib.Omega.{arith}
use denote.Enum.Bare.{differs_false, differs_true}
use Rattle.cbor.specs.contracts.major.Major.{the_type}
use Rattle.cbor.proofs.Bounded.{number_found, number_none, number_other, number_outside}
use Rattle.cbor.proofs.number.read_number.Goals as goal

pub returns-in_err-t : goal.returns-in_err-t
returns-in_err-t c = rw c.from_residual.ensures (number_none c.args.major c.requires c.args.s.now c.args.at c.args.least c.args.most c.in_err-t.ensures)

pub returns-then-ne : goal.returns-then-ne
returns-then-ne c =
    let g = c.args in
    let t = c.in_ok-t in
    number_other g.major c.requires g.s.now g.at g.least g.most t.next t.t t.ensures
    (λ e. differs_true the_type _ _ (sym c.if-ne.ensures) (c.major_of.ensures ∙ e))

pub returns-then-a-most : goal.returns-then-a-most
returns-then-a-most c =
    let g = c.args in
    let t = c.in_ok-t in
    rw c.argument_of-a.ensures
    (number_found g.major c.requires g.s.now g.at g.least g.most t.next t.t t.ensures (sym c.major_of.ensures ∙ differs_false the_type tt _ _ (sym c.if-ne.ensures)) (omega arith) (omega arith))

pub returns-else-least-a : goal.returns-else-least-a
returns-else-least-a c =
    let g = c.args in
    let t = c.in_ok-t in
    number_outside g.major c.requires g.s.now g.at g.least g.most t.next t.t t.ensures
    (λ l u. ⊎_elim (λ w. omega arith) (λ w. omega arith) c.else-least-a.either)
