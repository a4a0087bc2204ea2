-- `cbor::token::read_head` meets its contract: what `read_argument` answers is the answer for the token.
use Rattle.cbor.proofs.Tokens.{found_head, no_head}
use Rattle.cbor.proofs.token.read_head.Goals as goal

pub returns-in_err-a : goal.returns-in_err-a
returns-in_err-a c = rw c.from_residual.ensures (no_head c.args.s.now c.args.at c.args.major c.args.info c.requires (c.in_err-a.ensures))

pub returns : goal.returns
returns c =
    let v = c.in_ok-a in
    rw c.token_with.ensures (found_head c.args.s.now c.args.at c.args.major c.args.info v.a v.next c.requires (v.ensures))
