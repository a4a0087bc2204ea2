-- `listing::line::line_from` meets its contract. The loop's invariant: the bytes passed are held, and no line ended in them.
use mathlib.Core.Path.{◌∙◌, refl, sym}
use native.Mathlib.Omega.{arith}
use Rattle.listing.proofs.Walks.{seen_all, seen_line, seen_long, seen_more, seen_none}
use Rattle.listing.proofs.line.line_from.Goals as goal

pub loop-i-init : goal.loop-i-init
loop-i-init c = (refl, seen_none _ _ _ _ c.requires.0 c.none-held.ensures)

pub feed-requires : goal.feed-requires
feed-requires c = let l = c.loop-i in omega (arith, l.invariant.0)

pub returns-in-Line : goal.returns-in-Line
returns-in-Line c =
    let f = c.feed in
    let l = c.loop-i in
    let g = c.args in
    let h = seen_line g.s.now g.from l.i l.line l.held (omega arith) l.invariant.1 (omega arith) c.in-Line.k (sym f.ensures.0 ∙ c.in-Line.is) in
    (h.0, rw f.ensures.1 h.1)

pub returns-in-Long : goal.returns-in-Long
returns-in-Long c =
    let f = c.feed in
    let l = c.loop-i in
    let g = c.args in
    seen_long g.s.now g.from l.i l.line l.held (omega arith) l.invariant.1 (omega arith) (sym f.ensures.0 ∙ c.in-Long.is)

pub loop-i-preserved : goal.loop-i-preserved
loop-i-preserved c =
    let f = c.feed in
    let l = c.loop-i in
    let g = c.args in
    let h = seen_more g.s.now g.from l.i l.line l.held (omega arith) l.invariant.1 (omega arith) c.in-More.p (sym f.ensures.0 ∙ c.in-More.is) in
    (f.auto.line ∙ l.invariant.0, rw f.ensures.1 h)

pub returns : goal.returns
returns c = let l = c.loop-i in seen_all _ _ l.i _ _ l.invariant.1 (omega arith)
