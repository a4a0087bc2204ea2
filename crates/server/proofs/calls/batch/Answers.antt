-- `server::calls::batch` meets its contract: the rounds taken are the step's.
use Rattle.std.proofs.lemmas.Result.{err_from_is_err_and}
use Rattle.table.proofs.Lifted.{no_table}
use Rattle.server.proofs.Moves.{batch_stepped}
use Rattle.server.proofs.calls.batch.Goals as goal

pub returns-in_err-extent : goal.returns-in_err-extent
returns-in_err-extent c =
    let p = err_from_is_err_and c.from_residual.result c.from_residual.ensures.1 in
    rw (p.1, p.2, c.in_err-extent.ensures.0) (no_table _ _ c.in_err-extent.ensures.1)

pub returns : goal.returns
returns c = let R = c.in_ok-extent.ensures in batch_stepped _ _ _ R.table _ (rw R.devices_are at c.take_rounds.ensures)
