-- `server::ends::end_all` meets its contract: each turn ends one connection more.
use mathlib.Core.Path.{◌≡◌, refl, ◌∙◌}
use Rattle.table.proofs.Part.{part_is, part_length, replaced}
use Rattle.link.specs.Ends.{Ended}
use Rattle.table.proofs.Each.{each_none, each_more}
use Rattle.link.proofs.Links.{did_turned}
use Rattle.server.proofs.Crashes.{ready_record}
use native.Mathlib.Omega.{arith}
use Rattle.server.proofs.ends.end_all.Goals as goal

pub loop-d-init : goal.loop-d-init
loop-d-init c = each_none (λ k. Ended _ _) _

pub end_connection-requires : goal.end_connection-requires
end_connection-requires c =
    let l = c.loop-d in
    let P = c.requires in
    (rw (part_is _ _) (ready_record _ _ _ P _ l.d l.auto.t (omega arith) (omega arith) l.invariant), omega arith)

pub loop-d-preserved : goal.loop-d-preserved
loop-d-preserved c =
    let l = c.loop-d in
    let w = c.end_connection in
    let size = w.auto.r ∙ part_length l.t l.d (omega arith) in
    let R = replaced l.t _ l.d (omega arith) size in
    each_more (λ k. Ended _ _) _ l.t _ _ l.d l.auto.t (omega arith) l.invariant R (did_turned _ _ _ _ _ _ _ refl (rw (part_is _ _) at w.ensures))

pub returns : goal.returns
returns c =
    let l = c.loop-d in
    let e : l.d ≡ c.args.extent.devices = omega arith in
    rw e at l.invariant
