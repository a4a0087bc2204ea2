-- `listing::line::cell_line` meets its contract: the text of the line that is there tells.
use mathlib.Core.Path.{◌∙◌, sym}
use native.Mathlib.Omega.{arith}
use lib.Seq.{length-take-le}
use Rattle.listing.proofs.Coded.{cell_line_none, cell_line_one, cell_line_other}
use Rattle.listing.proofs.line.cell_line.Goals as goal

pub returns-in_err-k : goal.returns-in_err-k
returns-in_err-k c = rw c.from_residual.ensures (cell_line_none c.args.s.now c.args.at c.in_err-k.ensures)

pub slice_bounds-cell_from-end : goal.slice_bounds-cell_from-end
slice_bounds-cell_from-end c =
    let f = c.line_from in
    sym (length-take-le _ f.new.line (omega (arith, c.in_ok-k.ensures.0, f.auto.line)))

pub returns-in_err-c : goal.returns-in_err-c
returns-in_err-c c =
    rw c.from_residual-in_err-c.ensures (cell_line_other _ _ _ _ c.in_ok-k.ensures.1 (sym c.cell_from.ensures ∙ c.in_err-c.was))

pub returns : goal.returns
returns c = cell_line_one _ _ _ _ c.in_ok-k.ensures.1 _ (sym c.cell_from.ensures ∙ c.in_ok-c.was)
