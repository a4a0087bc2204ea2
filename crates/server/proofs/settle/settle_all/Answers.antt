-- `server::settle::settle_all` meets its contract: each turn settles one record more.
use mathlib.Core.Path.{◌≡◌, ◌∙◌}
use native.Mathlib.Omega.{arith}
use Rattle.table.proofs.Each.{each_none, each_more}
use Rattle.table.proofs.Part.{part_is, part_length, replaced}
use Rattle.server.proofs.Turns.{ahead_sound}
use Rattle.server.proofs.settle.settle_all.Goals as goal

pub loop-d-init : goal.loop-d-init
loop-d-init c = each_none _ _

pub settle-requires : goal.settle-requires
settle-requires c = record { sound = rw (part_is _ _) (ahead_sound _ _ _ _ _ c.loop-d.d c.requires.0 c.loop-d.auto.t (omega (arith, c.loop-d-test.true)) c.loop-d.invariant); ready = c.requires.1; is_segment = c.requires.2; device = omega (arith, c.loop-d-test.true) }

pub loop-d-preserved : goal.loop-d-preserved
loop-d-preserved c =
    let l = c.loop-d in
    let P = c.requires in
    let w = c.settle in
    let m = P.0.long in
    let size = w.auto.r ∙ part_length l.t l.d (omega arith) in
    let R = replaced l.t _ l.d (omega arith) size in
    each_more _ _ l.t _ _ l.d l.auto.t (omega arith) l.invariant R (rw (part_is _ _, c.word_at-count.ensures) at w.ensures)

pub returns : goal.returns
returns c =
    let l = c.loop-d in
    let e : l.d ≡ c.args.extent.devices = omega arith in
    rw e at l.invariant
