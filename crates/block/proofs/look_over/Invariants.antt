-- What the block comes to stands with the updates that are not looked at yet.
use Rattle.std.proofs.Common.{◌≡◌, drop}
use Rattle.block.specs.Block.{first_bad}
use Rattle.block.proofs.look_over.Given as goal

abbrev pub invariant-loop-i : goal.invariant-loop-i
invariant-loop-i l = first_bad l.cells 0 l.entries ≡ first_bad l.cells l.i (drop l.i l.entries)
