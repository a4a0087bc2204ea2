-- `block::block` meets its contract: no table, no such device, the first bad update, or all of them joined.
use Rattle.std.proofs.lemmas.Result.{err_from_is_err_and}
use Rattle.block.proofs.Joining.{not_known_so, refused_so}
use Rattle.block.proofs.block.Goals as goal

pub returns-in_err-extent : goal.returns-in_err-extent
returns-in_err-extent c =
    let p = err_from_is_err_and c.from_residual.result c.from_residual.ensures.1 in
    rw (p.1, p.2) (not_known_so _ _ _ _ c.in_err-extent.ensures)

pub returns-in_err-look_over : goal.returns-in_err-look_over
returns-in_err-look_over c =
    let r = c.from_residual-in_err-look_over in
    let p = err_from_is_err_and r.result r.ensures.1 in
    let R = c.in_ok-extent.ensures.0 in
    rw (p.1, p.2) (refused_so _ c.args.d _ R.table (rw R.devices_are at c.in_ok-extent.ensures.1) c.in_err-look_over.field-0.0 (rw R.cells_are at c.in_err-look_over.ensures))
