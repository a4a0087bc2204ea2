-- `stepping::feed::put_told` meets its contract: each arm is one of the three things that may be told.
use mathlib.Core.Path.{sym}
use lib.Seq.{length-take-le}
use Rattle.stepping.proofs.Feeding.{within_line, told_more, told_line, told_long}
use Rattle.stepping.proofs.feed.put_told.Goals as goal

pub slice_bounds-answer-end : goal.slice_bounds-answer-end
slice_bounds-answer-end c =
    let g = c.args in
    sym (length-take-le _ g.line.now (within_line g.fed g.line.now _ c.in-Line.is c.requires.0))

pub returns-in-More : goal.returns-in-More
returns-in-More c = told_more _ _ _ _ _ _ c.in-More.is

pub returns-in-Line : goal.returns-in-Line
returns-in-Line c = told_line _ _ _ _ _ _ _ _ _ _ c.in-Line.is c.answer-a.ensures c.put_answer_line.ensures

pub returns-in-Long : goal.returns-in-Long
returns-in-Long c = told_long _ _ _ _ _ _ _ c.in-Long.is c.put_answer_line-in-Long.ensures
