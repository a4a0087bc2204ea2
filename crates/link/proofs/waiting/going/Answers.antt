-- `link::waiting::going` meets its contract: with a crash all of a stale connection go, else what is taken.
use Rattle.link.proofs.Goes.{all_go, none_crashes, not_stale}
use native.Mathlib.Omega.{arith}
use Rattle.link.proofs.waiting.going.Goals as goal

pub returns-then-not-crash : goal.returns-then-not-crash
returns-then-not-crash c = none_crashes c.args.count c.args.connection c.args.waiting c.args.crash _ (c.if-not-crash.true) c.share.ensures

pub returns-then-connection-eq-STALE : goal.returns-then-connection-eq-STALE
returns-then-connection-eq-STALE c = all_go c.args.count c.args.connection c.args.waiting c.args.crash (c.if-not-crash.false) (omega arith)

pub returns : goal.returns
returns c = not_stale c.args.count c.args.connection c.args.waiting c.args.crash _ c.requires (λ q. omega arith) c.share-2.ensures
