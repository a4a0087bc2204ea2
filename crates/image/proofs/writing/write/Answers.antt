-- `image::writing::write` meets its contract: the image is written to a local buffer, which has room for the longest, and copied where there is room.
use mathlib.Core.Path.{◌∙◌, sym}
use lib.Seq.{length-take-le}
use Rattle.cbor.proofs.Writing.{sent}
use Rattle.image.proofs.Longest.{stored_longest}
use Rattle.image.proofs.Stores.{stores_front, stores_short}
use native.Mathlib.Omega.{arith}
use Rattle.image.proofs.writing.write.Goals as goal

pub write_all-n-requires : goal.write_all-n-requires
write_all-n-requires c = record { stored = c.requires; p_in_bounds = stored_longest c.args.words.now c.args.numbers.now c.args.p c.requires }

pub returns-then-out-n : goal.returns-then-out-n
returns-then-out-n c = let w = c.write_all-n.ensures in stores_short _ _ (omega (arith, w.next, c.if-out-n.true))

pub slice_bounds-copy_from_slice-end-3 : goal.slice_bounds-copy_from_slice-end-3
slice_bounds-copy_from_slice-end-3 c =
    let w = c.write_all-n in
    sym (length-take-le w.result w.new.out (omega (arith, w.ensures.next, w.auto.out, stored_longest c.args.words.now c.args.numbers.now c.args.p c.requires)))

pub copy_from_slice-requires : goal.copy_from_slice-requires
copy_from_slice-requires c =
    let w = c.write_all-n in
    length-take-le w.result c.args.out.now c.if-out-n.false
    ∙ sym (length-take-le w.result w.new.out (omega (arith, w.ensures.next, w.auto.out, stored_longest c.args.words.now c.args.numbers.now c.args.p c.requires)))

pub returns : goal.returns
returns c =
    let w = c.write_all-n.ensures in
    stores_front _ _ c.args.out.now _ (omega (arith, w.next)) (c.copy_from_slice.ensures.after ∙ sent w) (omega (arith, w.next, c.if-out-n.false))
