use Rattle.std.proofs.Common.{arith}
use Rattle.stepping.specs.Bytes.{CHUNK}
use Rattle.answering.proofs.Asking.{take_min}
use Rattle.stepping.proofs.Feeding.{sofar_more, sofar_all}
use Rattle.stepping.proofs.feed.feed_chunk.Goals as goal

pub loop-b-preserved : goal.loop-b-preserved
loop-b-preserved c = sofar_more _ _ _ c.loop-b.b-index _ _ _ _ _ _ c.loop-b-test.true c.loop-b.invariant c.feed_byte-run.ensures

pub returns : goal.returns
returns c = sofar_all _ _ _ c.loop-b.b-index _ _ _ _ c.loop-b-test.false (take_min c.min-n.result CHUNK c.args.chunk.now (omega arith)) c.loop-b.invariant
