-- `cbor::token::read_float` meets its contract: too few bytes are left, or the eight are read.
use mathlib.Core.Path.{◌≡◌}
use Prim.Native.Nat.{◌+◌}
use native.Mathlib.Omega.{arith}
use Rattle.cbor.specs.Head.{width_of}
use Rattle.cbor.specs.declared.token.Token.TheVariants.{Float}
use Rattle.cbor.proofs.Numbers.{got_high_first}
use Rattle.cbor.proofs.Tokens.{got_token, no_float}
use Rattle.cbor.proofs.token.read_float.Goals as goal

pub returns-then-s-at-lt9 : goal.returns-then-s-at-lt9
returns-then-s-at-lt9 c = no_float _ _ c.requires.0 c.requires.1 c.if-s-at-lt9.true

pub returns : goal.returns
unfolding width_of
returns c =
    let g = c.args in
    let v = c.requires in
    let e : g.at + 1 + 8 ≡ g.at + 9 = omega arith in
    (c.read_high_first.ensures.fits, got_token g.s.now g.at _ (Float c.read_high_first.result) v.0 v.1 (rw e at (got_high_first _ _ _ _ c.read_high_first.ensures (omega arith))))
