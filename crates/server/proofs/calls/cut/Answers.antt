-- `server::calls::cut` meets its contract: the rounds taken are the step's, and every connection ends.
use Rattle.std.proofs.lemmas.Result.{err_from_is_err_and}
use Rattle.table.proofs.Lifted.{no_table}
use Rattle.server.proofs.Moves.{cut_stepped, cut_crashed, none_ready}
use Rattle.server.proofs.calls.cut.Goals as goal

pub returns-in_err-extent : goal.returns-in_err-extent
returns-in_err-extent c =
    let p = err_from_is_err_and c.from_residual.result c.from_residual.ensures.1 in
    rw (p.1, p.2, c.in_err-extent.ensures.0) (no_table _ _ c.in_err-extent.ensures.1)

pub returns-then-moved-ne0 : goal.returns-then-moved-ne0
returns-then-moved-ne0 c = cut_stepped _ _ _ c.in_ok-extent.ensures.table _ _ c.if-moved-ne0.true c.take_rounds-moved.ensures

pub end_all-requires : goal.end_all-requires
end_all-requires c = let R = c.in_ok-extent.ensures in rw (R.devices_are, R.cells_are) (none_ready _ _ _ R.table _ _ _ c.if-moved-ne0.false c.take_rounds-moved.ensures)

pub returns : goal.returns
returns c =
    let R = c.in_ok-extent.ensures in
    cut_crashed _ _ _ R.table _ _ _ c.if-moved-ne0.false c.take_rounds-moved.ensures c.end_all.auto.t (rw (R.devices_are, R.cells_are) at c.end_all.ensures)
