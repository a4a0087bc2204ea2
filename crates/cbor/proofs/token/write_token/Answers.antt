-- `cbor::token::write_token` meets its contract, token by token.
use mathlib.Core.Path.{◌∙◌, ap, refl}
use native.Mathlib.Omega.{arith}
use lib.ListN.{length, length-set}
use Rattle.cbor.specs.Token.{token_of}
use Rattle.cbor.specs.declared.token.Token.{Token}
use Rattle.cbor.proofs.Numbers.{length_high_first}
use Rattle.cbor.proofs.Tokens.{wrote_token}
use Rattle.cbor.proofs.Writing.{first_put, set_put}
use Rattle.cbor.proofs.token.write_token.Goals as goal

pub write_head-requires : goal.write_head-requires
unfolding token_of
write_head-requires c = omega (arith, ap (λ (x : Token). length (token_of x)) c.in-Unsigned.is)

pub write_head-requires-in-Negative : goal.write_head-requires-in-Negative
unfolding token_of
write_head-requires-in-Negative c = omega (arith, ap (λ (x : Token). length (token_of x)) c.in-Negative.is)

pub write_head-requires-in-Array : goal.write_head-requires-in-Array
unfolding token_of
write_head-requires-in-Array c = omega (arith, ap (λ (x : Token). length (token_of x)) c.in-Array.is)

pub bounds-out-at : goal.bounds-out-at
unfolding token_of
bounds-out-at c = omega (arith, ap (λ (x : Token). length (token_of x)) c.in-Null.is)

pub bounds-out-at-in-Float : goal.bounds-out-at-in-Float
unfolding token_of
bounds-out-at-in-Float c = omega (arith, ap (λ (x : Token). length (token_of x)) c.in-Float.is)

pub write_high_first-requires : goal.write_high_first-requires
unfolding token_of
write_high_first-requires c = simp length-set (omega (arith, ap (λ (x : Token). length (token_of x)) c.in-Float.is, length_high_first 8 c.in-Float.b))

pub returns-in-Unsigned : goal.returns-in-Unsigned
unfolding token_of
returns-in-Unsigned c = wrote_token c.in-Unsigned.is c.write_head.ensures

pub returns-in-Negative : goal.returns-in-Negative
unfolding token_of
returns-in-Negative c = wrote_token c.in-Negative.is c.write_head-in-Negative.ensures

pub returns-in-Array : goal.returns-in-Array
unfolding token_of
returns-in-Array c = wrote_token c.in-Array.is c.write_head-in-Array.ensures

pub returns-in-Null : goal.returns-in-Null
unfolding token_of
returns-in-Null c =
    let h = ap (λ (x : Token). length (token_of x)) c.in-Null.is in
    wrote_token c.in-Null.is (record { holds = set_put c.args.out.now c.args.at 246 (omega arith); next = refl })

pub shape_of-out-in-Float : goal.shape_of-out-in-Float
shape_of-out-in-Float c = c.write_high_first.auto.out ∙ simp length-set

pub returns-in-Float : goal.returns-in-Float
unfolding token_of
returns-in-Float c =
    let v = c.in-Float in
    let h = ap (λ (x : Token). length (token_of x)) v.is in
    wrote_token v.is
    (record {
      holds = c.write_high_first.ensures ∙ first_put c.args.out.now c.args.at 251 _ (omega (arith, length_high_first 8 v.b));
      next = omega (arith, length_high_first 8 v.b);
    })
