-- `image::writing::write_image` meets its contract: a table's cells and numbers lie where it says.
use Rattle.std.proofs.lemmas.Result.{err_from_is_err_and}
use Rattle.image.proofs.Stores.{table_stored, written_none, written_table}
use Rattle.image.proofs.writing.write_image.Goals as goal

pub returns-in_err-extent : goal.returns-in_err-extent
returns-in_err-extent c =
    let p = err_from_is_err_and c.from_residual.result c.from_residual.ensures.1 in
    rw (p.1, p.2, c.in_err-extent.ensures.0) (written_none _ _ c.in_err-extent.ensures.1)

pub write-requires : goal.write-requires
write-requires c = let R = c.in_ok-extent.ensures in rw (R.devices_are, R.cells_are) (table_stored _ R.table)

pub returns : goal.returns
returns c = let R = c.in_ok-extent.ensures in written_table _ _ _ _ R.table (rw (R.devices_are, R.cells_are) at c.write.ensures)
