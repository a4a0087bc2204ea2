-- The updates passed are joined, and the rest are good.
use Rattle.block.proofs.Joining.{Joining}
use Rattle.block.proofs.join_all.Given as goal

abbrev pub invariant-loop-e : goal.invariant-loop-e
invariant-loop-e l = Joining l.fn.t l.d l.entries l.t l.e-index
