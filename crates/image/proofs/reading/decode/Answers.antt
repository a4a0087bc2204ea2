-- `image::reading::decode` meets its contract: each part that is not there shows that the bytes are no image, and all of them with nothing left are one.
use Rattle.image.proofs.Whole.{are_allowed, is_image, no_image_devices, no_image_end, no_image_head, no_image_sheet}
use Rattle.image.proofs.Opens.{allowed_sizes}
use Rattle.image.proofs.reading.decode.Goals as goal

pub returns-in_err-at : goal.returns-in_err-at
returns-in_err-at c = rw c.from_residual.ensures (no_image_head c.args.s.now c.in_err-at.ensures)

pub returns-in_err-cells : goal.returns-in_err-cells
returns-in_err-cells c =
    rw c.from_residual-in_err-cells.ensures (no_image_sheet c.args.s.now _ _ c.in_ok-at.ensures c.in_err-cells.ensures)

pub returns-in_err-devices : goal.returns-in_err-devices
returns-in_err-devices c =
    rw c.from_residual-in_err-devices.ensures (no_image_devices c.args.s.now _ _ c.in_ok-at.ensures _ _ c.in_ok-cells.ensures.0 c.in_err-devices.ensures)

pub invariant_of-result : goal.invariant_of-result
invariant_of-result c =
    let s = c.args.s.now in
    let h = c.in_ok-at.ensures in
    let a = are_allowed s _ _ h _ _ c.in_ok-cells.ensures.0 _ _ c.in_ok-devices.ensures.0 in
    let z = allowed_sizes _ _ _ _ a in
    record { few_devices = z.devices_to_8; few_cells = z.cells_to_64 }

pub returns-then-end-s : goal.returns-then-end-s
returns-then-end-s c =
    let s = c.args.s.now in
    let h = c.in_ok-at.ensures in
    let l = c.in_ok-cells.ensures in
    let m = c.in_ok-devices.ensures in
    record {
      allowed = are_allowed s _ _ h _ _ l.0 _ _ m.0;
      is = is_image s _ _ h _ _ l.0 _ _ m.0 c.if-end-s.true;
      valid = l.1;
    }

pub returns-else-end-s : goal.returns-else-end-s
returns-else-end-s c =
    no_image_end c.args.s.now _ _ c.in_ok-at.ensures _ _ c.in_ok-cells.ensures.0 _ _ c.in_ok-devices.ensures.0 c.if-end-s.false
