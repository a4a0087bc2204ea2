-- `listing::line::number_line` meets its contract: the text of the line that is there tells.
use mathlib.Core.Path.{◌∙◌, sym}
use native.Mathlib.Omega.{arith}
use lib.Seq.{length-take-le}
use Rattle.listing.proofs.Coded.{number_line_none, number_line_one, number_line_other}
use Rattle.listing.proofs.line.number_line.Goals as goal

pub returns-in_err-k : goal.returns-in_err-k
returns-in_err-k c = rw c.from_residual.ensures (number_line_none c.args.s.now c.args.at c.in_err-k.ensures)

pub slice_bounds-number_from-end : goal.slice_bounds-number_from-end
slice_bounds-number_from-end c =
    let f = c.line_from in
    sym (length-take-le _ f.new.line (omega (arith, c.in_ok-k.ensures.0, f.auto.line)))

pub returns-in_err-n : goal.returns-in_err-n
returns-in_err-n c =
    rw c.from_residual-in_err-n.ensures (number_line_other _ _ _ _ c.in_ok-k.ensures.1 (sym c.number_from.ensures ∙ c.in_err-n.was))

pub returns : goal.returns
returns c = number_line_one _ _ _ _ c.in_ok-k.ensures.1 _ (sym c.number_from.ensures ∙ c.in_ok-n.was)
