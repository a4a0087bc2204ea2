-- `image::writing::write_all` meets its contract: the head of the array of two, the cells, the numbers.
use native.Mathlib.Omega.{arith}
use Rattle.image.proofs.Parts.{part_lengths, written_image}
use Rattle.image.proofs.Runs.{cell_ready}
use Rattle.image.proofs.writing.write_all.Goals as goal

pub write_head-a-requires : goal.write_head-a-requires
write_head-a-requires c = let p = c.args.p in omega (arith, part_lengths c.args.words.now c.args.numbers.now p, c.requires.p_in_bounds)

pub write_array-b-requires-clause-ready : goal.write_array-b-requires-clause-ready
write_array-b-requires-clause-ready c = λ k h. cell_ready c.args.words.now c.args.p.sheet c.args.p.cells k c.requires.stored.sheet h

pub write_array-b-requires-clause-in_bounds : goal.write_array-b-requires-clause-in_bounds
write_array-b-requires-clause-in_bounds c =
    let w = c.write_head-a in
    omega (arith, part_lengths c.args.words.now c.args.numbers.now c.args.p, c.requires.p_in_bounds, w.ensures.next, w.auto.out)

pub write_array-requires-clause-in_bounds : goal.write_array-requires-clause-in_bounds
write_array-requires-clause-in_bounds c =
    let w = c.write_head-a in
    let v = c.write_array-b in
    omega (arith, part_lengths c.args.words.now c.args.numbers.now c.args.p, c.requires.p_in_bounds, w.ensures.next, w.auto.out, v.ensures.next, v.auto.out)

pub returns : goal.returns
returns c =
    let w = c.write_head-a in
    written_image _ _ c.requires.p_in_bounds w.auto.out w.ensures c.write_array-b.ensures c.write_array.ensures
