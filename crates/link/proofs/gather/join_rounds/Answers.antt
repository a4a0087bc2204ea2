-- `link::gather::join_rounds` meets its contract: each turn joins one round more.
use mathlib.Core.Path.{◌≡◌}
use Rattle.link.proofs.Gathers.{rounds_none, rounds_more}
use native.Mathlib.Omega.{arith}
use Rattle.link.proofs.gather.join_rounds.Goals as goal

pub loop-j-init : goal.loop-j-init
loop-j-init c = rounds_none _ _ _ c.requires.segment

pub change_from-requires : goal.change_from-requires
change_from-requires c =
    let l = c.loop-j in
    let p = c.requires in
    (record { to_fits = omega arith; from_fits = omega arith; from_valid = p.rounds l.j c.loop-j-test.true }, l.invariant.valid)

pub loop-j-preserved : goal.loop-j-preserved
loop-j-preserved c =
    let l = c.loop-j in
    let w = c.change_from in
    rounds_more _ _ _ l.j _ _ l.invariant w.ensures

pub returns : goal.returns
returns c =
    let l = c.loop-j in
    let e : l.j ≡ c.args.k = omega arith in
    rw e at l.invariant
