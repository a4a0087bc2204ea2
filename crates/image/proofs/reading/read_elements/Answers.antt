-- `image::reading::read_elements` meets its contract. The loop's invariant: the elements passed stand at the buffer's front.
use mathlib.Core.Path.{◌∙◌, ◌≡◌, refl}
use native.Mathlib.Nat.{mul-le-mul_left}
use native.Mathlib.Omega.{arith}
use Rattle.cbor.proofs.Codes.{broken}
use Rattle.words.proofs.Places.{below_suc}
use Rattle.image.proofs.Runs.{passed_more, passed_none}
use Rattle.image.proofs.reading.read_elements.Goals as goal

pub loop-i-init : goal.loop-i-init
loop-i-init g c = let t = g.T.Element in (refl, passed_none t.code t.Allowed _ _ _ c.requires.0, λ k h. absurd (omega arith))

pub returns-in_err-x : goal.returns-in_err-x
returns-in_err-x g c =
    let t = g.T.Element in
    let o = c.loop-i in
    rw c.from_residual.ensures (broken t.code t.Allowed g.met.T.Element.free c.args.s.now c.args.from o.at o.i c.args.n _ o.invariant.1 c.loop-i-test.true c.in_err-x.ensures)

pub put-requires : goal.put-requires
put-requires g c =
    let t = g.T.Element in
    let o = c.loop-i in
    (c.in_ok-x.ensures.0, omega (arith, mul-le-mul_left t.width c.loop-i-test.true, o.invariant.0))

pub loop-i-preserved : goal.loop-i-preserved
loop-i-preserved g c =
    let t = g.T.Element in
    let o = c.loop-i in
    let w = c.put in (
      w.auto.words ∙ o.invariant.0,
      passed_more t.code t.Allowed _ _ _ _ o.i _ _ _ o.invariant.1 c.in_ok-x.ensures w.ensures.stays w.ensures.is,
      below_suc {P = t.Sound w.new.words} o.i (λ k h. w.ensures.sound_stays k h (o.invariant.2 k h)) w.ensures.sound,
    )

pub returns : goal.returns
returns g c =
    let o = c.loop-i in
    let e : o.i ≡ c.args.n = omega arith in
    (rw e at o.invariant.1, rw e at o.invariant.2)
