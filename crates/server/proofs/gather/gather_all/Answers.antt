-- `server::gather::gather_all` meets its contract: each turn gathers from one device more.
use mathlib.Core.Path.{◌≡◌, ◌∙◌}
use Rattle.table.proofs.Part.{part_is}
use Rattle.server.proofs.GatherAll.{there, few, part_ready, few_taken, gathered_start, gathered_more}
use native.Mathlib.Omega.{arith}
use Rattle.server.proofs.gather.gather_all.Goals as goal

pub loop-d-init : goal.loop-d-init
loop-d-init c = (omega arith, gathered_start _ _ _ _ c.requires.1)

pub gather_one-moved-requires : goal.gather_one-moved-requires
gather_one-moved-requires c =
    let T = c.requires.0 in
    let l = c.loop-d in
    let d = few _ _ _ T l.d c.loop-d-test.true in
    (rw (part_is _ _) (part_ready _ _ _ T l.d c.loop-d-test.true _ l.invariant.1.item l.invariant.1.valid), omega arith)

pub overflow_add-moved : goal.overflow_add-moved
overflow_add-moved c =
    let T = c.requires.0 in
    let l = c.loop-d in
    let n = few_taken _ _ _ _ _ _ _ (part_ready _ _ _ T l.d c.loop-d-test.true _ l.invariant.1.item l.invariant.1.valid) (rw (part_is _ _) at c.gather_one-moved.ensures) in
    let d = few _ _ _ T l.d c.loop-d-test.true in
    omega arith

pub loop-d-preserved : goal.loop-d-preserved
loop-d-preserved c =
    let T = c.requires.0 in
    let l = c.loop-d in
    let w = c.gather_one-moved in
    let g = rw (part_is _ _, c.word_at-count.ensures) at w.ensures in
    let n = few_taken _ _ _ _ _ _ _ (part_ready _ _ _ T l.d c.loop-d-test.true _ l.invariant.1.item l.invariant.1.valid) g in
    (omega arith, gathered_more _ _ _ l.d _ _ _ _ T.cells_are (there _ _ _ T l.d c.loop-d-test.true) (few _ _ _ T l.d c.loop-d-test.true) (w.auto.segment ∙ l.invariant.1.item) l.invariant.1 g)

pub returns : goal.returns
returns c =
    let l = c.loop-d in
    let e : l.d ≡ c.args.extent.devices = omega arith in
    rw e at l.invariant.1
