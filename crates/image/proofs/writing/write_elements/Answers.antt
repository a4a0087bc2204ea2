-- `image::writing::write_elements` meets its contract. The loop's invariant: the bytes of the elements passed are written.
use mathlib.Core.Path.{◌∙◌, ap, refl}
use Prim.Native.Nat.{◌*◌, ◌+◌}
use Rattle.cbor.proofs.Writing.{wrote_as}
use Rattle.image.specs.Element.{spaced}
use Rattle.image.proofs.Queued.{room_more, wrote_more, wrote_zero}
use Rattle.image.proofs.writing.write_elements.Goals as goal

pub loop-k-init : goal.loop-k-init
loop-k-init g c = let t = g.T.Element in (refl, wrote_zero t.code (spaced t.stands c.args.words.now c.args.first c.args.stride) _ _)

pub write-p-requires : goal.write-p-requires
write-p-requires g c =
    let t = g.T.Element in
    let a = c.args in
    let o = c.loop-k in
    let h = c.loop-k-test.true in
    rw c.get.ensures (
      g.met.T.Element.allowed a.words.now (a.first + a.stride * o.k) (c.requires.ready o.k h),
      room_more t.code (spaced t.stands a.words.now a.first a.stride) h c.requires.in_bounds o.invariant.1 o.invariant.0,
    )

pub loop-k-preserved : goal.loop-k-preserved
loop-k-preserved g c =
    let t = g.T.Element in
    let a = c.args in
    let o = c.loop-k in (
      c.write-p.auto.out ∙ o.invariant.0,
      wrote_more t.code (spaced t.stands a.words.now a.first a.stride) c.loop-k-test.true c.requires.in_bounds o.invariant.1 (wrote_as (ap t.code c.get.ensures) c.write-p.ensures),
    )
