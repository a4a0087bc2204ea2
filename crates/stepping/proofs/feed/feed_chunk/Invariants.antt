-- The loop's invariant: the bytes passed are fed, and their answers are put.
use lib.ListN.{take}
use Rattle.stepping.specs.Bytes.{standing}
use Rattle.stepping.proofs.Feeding.{Sofar}
use Rattle.stepping.proofs.feed.feed_chunk.Given as goal

abbrev pub invariant-loop-b : goal.invariant-loop-b
invariant-loop-b l =
    Sofar (standing l.initial.line l.initial.run.unended l.initial.t) (take l.n l.chunk) l.initial.out l.b-index l.out l.run.at (standing l.line l.run.unended l.t)
