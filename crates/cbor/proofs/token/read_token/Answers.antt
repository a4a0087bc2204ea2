-- `cbor::token::read_token` meets its contract: the initial byte decides. Past the end and outside the ranges no token stands.
use mathlib.Core.Path.{sym}
use Prim.Native.Nat.{◌+◌}
use native.Mathlib.Omega.{arith}
use borrow.Author.Tests.{ltb-false}
use Rattle.cbor.specs.declared.token.Token.TheVariants.{Null}
use Rattle.cbor.proofs.Heads.{got_nil}
use Rattle.cbor.proofs.Tokens.{got_token, none_led, past}
use Rattle.cbor.proofs.token.read_token.Goals as goal

pub returns-in_err-b : goal.returns-in_err-b
returns-in_err-b c = rw c.from_residual.ensures (past _ _ (ltb-false _ _ (sym c.in_err-b.ensures.lookup.0)))

pub returns-in-246 : goal.returns-in-246
returns-in-246 c =
    let g = c.args in
    let k = c.in_ok-b.ensures.lookup.3 in
    (tt, got_token g.s.now g.at _ Null k.0 (omega (arith, k.1 0)) (got_nil g.s.now (g.at + 1) 22 22 (omega arith) (omega (arith, k.0))))

pub returns-in_default : goal.returns-in_default
returns-in_default c =
    let k = c.in_ok-b.ensures.lookup.3 in none_led c.args.s.now c.args.at k.0 (omega (arith, k.1 0)) (λ w. omega (arith, k.1 0)) (λ w. omega (arith, k.1 0)) (λ w. omega (arith, k.1 0)) (λ w. omega (arith, k.1 0))

pub returns-in_default-2 : goal.returns-in_default-2
returns-in_default-2 c =
    let k = c.in_ok-b.ensures.lookup.3 in none_led c.args.s.now c.args.at k.0 (omega (arith, k.1 0)) (λ w. omega (arith, k.1 0)) (λ w. omega (arith, k.1 0)) (λ w. omega (arith, k.1 0)) (λ w. omega (arith, k.1 0))

pub returns-in_default-3 : goal.returns-in_default-3
returns-in_default-3 c =
    let k = c.in_ok-b.ensures.lookup.3 in none_led c.args.s.now c.args.at k.0 (omega (arith, k.1 0)) (λ w. omega (arith, k.1 0)) (λ w. omega (arith, k.1 0)) (λ w. omega (arith, k.1 0)) (λ w. omega (arith, k.1 0))
