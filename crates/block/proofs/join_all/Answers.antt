-- `block::join_all` meets its contract: each update of a good block is joined.
use mathlib.Core.Path.{refl}
use native.Mathlib.Omega.{arith}
use Rattle.protocol.specs.Machine.{refused}
use Rattle.block.proofs.Joining.{begun, still, there_still, never_refused, one_more, all_joined}
use Rattle.block.proofs.join_all.Goals as goal

pub loop-e-init : goal.loop-e-init
loop-e-init c = let R = c.requires in begun _ _ _ R.0 R.1 R.2

pub on_known-requires : goal.on_known-requires
on_known-requires c = let R = c.requires in let J = c.loop-e.invariant in (still _ _ _ R.0 R.1 _ _ J, there_still _ _ _ R.0 R.1 _ _ J)

pub returns-in_err-on_known : goal.returns-in_err-on_known
returns-in_err-on_known c = let R = c.requires in absurd (never_refused _ _ _ R.0 R.1 _ _ c.loop-e.invariant c.loop-e-test.true (refused c.in_err-on_known.field-0.0) _ c.in_err-on_known.ensures _ refl)

pub loop-e-preserved : goal.loop-e-preserved
loop-e-preserved c = let R = c.requires in one_more _ _ _ R.0 R.1 _ _ c.loop-e.invariant c.loop-e-test.true _ _ c.on_known.ensures

pub returns : goal.returns
returns c = let R = c.requires in all_joined _ _ _ R.0 R.1 _ _ c.loop-e.invariant (omega arith) R.2
