-- `answering::line::batch_counts` meets its contract: as many counts are lent as there are.
use native.Mathlib.Omega.{arith}
use mathlib.Core.Path.{sym}
use lib.Seq.{length-take-le}
use Rattle.answering.proofs.Asking.{take_min}
use Rattle.answering.proofs.line.batch_counts.Goals as goal

pub slice_bounds-batch-end : goal.slice_bounds-batch-end
slice_bounds-batch-end c = sym (length-take-le _ _ (omega (arith, c.number_of_counts-n.ensures)))

pub returns : goal.returns
returns c =
    let n = c.number_of_counts-n.ensures in
    rw (← take_min _ _ _ n) c.batch.ensures
