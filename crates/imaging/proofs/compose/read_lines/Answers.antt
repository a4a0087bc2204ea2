-- `imaging::compose::read_lines` meets its contract. The loop's invariant: the elements passed stand at the buffer's front.
use mathlib.Core.Path.{◌∙◌, ◌≡◌, refl}
use native.Mathlib.Nat.{mul-le-mul_left}
use native.Mathlib.Omega.{arith}
use Rattle.words.proofs.Places.{below_suc}
use Rattle.image.proofs.Runs.{passed_more, passed_none}
use Rattle.imaging.proofs.compose.read_lines.Goals as goal

pub loop-n-init : goal.loop-n-init
loop-n-init g c = (refl, passed_none g.T.Line.line g.T.Element.Allowed _ _ _ c.requires.0, λ k h. absurd (omega arith))

pub returns-in_default : goal.returns-in_default
returns-in_default g c =
    let o = c.loop-n in record { within = omega arith; here = o.invariant.1; sound = o.invariant.2; stops = λ _. c.in_default.ensures }

pub put-requires : goal.put-requires
put-requires g c =
    let o = c.loop-n in
    (c.in-Some.ensures.0, omega (arith, mul-le-mul_left g.T.Element.width c.loop-n-test.true, o.invariant.0))

pub loop-n-preserved : goal.loop-n-preserved
loop-n-preserved g c =
    let t = g.T.Element in
    let o = c.loop-n in
    let w = c.put in (
      w.auto.words ∙ o.invariant.0,
      passed_more g.T.Line.line t.Allowed _ _ _ _ o.n _ _ _ o.invariant.1 c.in-Some.ensures w.ensures.stays w.ensures.is,
      below_suc {P = t.Sound w.new.words} o.n (λ k h. w.ensures.sound_stays k h (o.invariant.2 k h)) w.ensures.sound,
    )

pub returns : goal.returns
returns g c =
    let o = c.loop-n in
    let e : o.n ≡ c.args.most = omega arith in
    record { within = omega arith; here = rw e at o.invariant.1; sound = rw e at o.invariant.2; stops = λ h. absurd (omega arith) }
