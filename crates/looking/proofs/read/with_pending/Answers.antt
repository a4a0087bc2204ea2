-- `looking::read::with_pending` meets its contract: each turn applies one round more.
use native.Mathlib.Omega.{arith}
use Rattle.looking.proofs.Looks.{none_applied, one_applied, all_applied}
use Rattle.looking.proofs.read.with_pending.Goals as goal

pub get-c-requires : goal.get-c-requires
get-c-requires c = let R = c.requires.0 in record { k_in_bounds = omega (arith, R.few_cells, R.valid.size); k_value = R.valid.known c.args.k c.requires.1 }

pub loop-j-init : goal.loop-j-init
loop-j-init c = none_applied c.args.extent.devices _ _ _ c.requires.1 c.get-c.ensures.is

pub get-requires : goal.get-requires
get-requires c = let R = c.requires.0 in record { k_in_bounds = omega (arith, R.few_cells, R.valid.size, R.valid.few_pending); k_value = R.valid.pending c.loop-j.j c.loop-j-test.true c.args.k c.requires.1 }

pub loop-j-preserved : goal.loop-j-preserved
loop-j-preserved c = let l = c.loop-j in one_applied c.args.extent.devices _ _ _ c.requires.1 l.j l.invariant c.get.ensures.is c.apply-c.ensures

pub returns : goal.returns
returns c = let l = c.loop-j in all_applied _ _ _ _ c.requires.1 l.j (omega arith) l.invariant
