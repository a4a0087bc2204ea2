-- `imaging::show::show` meets its contract: what the bytes decode to is put.
use Rattle.image.proofs.Opens.{allowed_sizes}
use Rattle.imaging.proofs.Lines.{shown_image, shown_none}
use native.Mathlib.Omega.{arith}
use Rattle.imaging.proofs.show.show.Goals as goal

pub returns-in_default : goal.returns-in_default
returns-in_default c = shown_none _ _ _ _ (omega arith) c.in_default.ensures c.put_answer_line.ensures

pub put_image-requires : goal.put_image-requires
put_image-requires c =
    let d = c.decode in
    let I = c.in-Some.ensures in
    let z = allowed_sizes _ _ _ _ I.allowed in
    record { cells_at = record { room = omega (arith, d.auto.words, z.cells_to_64); valid = I.valid }; numbers_at = omega (arith, d.auto.numbers, z.devices_to_8); allowed = I.allowed; room = omega (arith, z.cells_to_64, z.devices_to_8) }

pub returns : goal.returns
returns c = shown_image _ _ _ _ _ c.in-Some.ensures _ _ _ (omega arith) c.put_image.ensures
