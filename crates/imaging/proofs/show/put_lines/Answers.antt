-- `imaging::show::put_lines` meets its contract. The loop's invariant: the lines of the elements passed are put.
use mathlib.Core.Path.{◌∙◌, ap, refl, sym}
use Prim.Native.Nat.{◌*◌}
use native.Mathlib.Nat.{zero-add}
use native.Mathlib.Omega.{arith}
use Rattle.image.specs.Element.{spaced}
use Rattle.imaging.proofs.Lines.{lines_more, lines_none}
use Rattle.imaging.proofs.show.put_lines.Goals as goal

pub loop-k-init : goal.loop-k-init
loop-k-init g c = (refl, lines_none g.T.Line.line _ _ _)

pub put_line-at-requires : goal.put_line-at-requires
put_line-at-requires g c = let l = c.loop-k in omega (arith, l.invariant.1.within, l.invariant.0, c.requires.room)

pub loop-k-preserved : goal.loop-k-preserved
loop-k-preserved g c =
    let l = c.loop-k in
    let w = c.put_line-at in
    (w.auto.out ∙ l.invariant.0, lines_more g.T.Line.line (spaced g.T.Element.stands c.args.words.now 0 c.args.stride) _ _ _ _ l.k _ _ _ (c.get.ensures ∙ ap (g.T.Element.stands c.args.words.now) (sym (zero-add (c.args.stride * l.k)))) l.invariant.1 w.ensures)
