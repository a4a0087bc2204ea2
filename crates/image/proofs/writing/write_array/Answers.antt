-- `image::writing::write_array` meets its contract: the head of the array, and then its elements.
use native.Mathlib.Omega.{arith}
use Rattle.image.specs.Element.{spaced}
use Rattle.image.proofs.Queued.{array_written, length_array}
use Rattle.image.proofs.writing.write_array.Goals as goal

pub write_head-next-requires : goal.write_head-next-requires
write_head-next-requires g c =
    let t = g.T.Element in
    let a = c.args in
    omega (arith, length_array t.code a.n (spaced t.stands a.words.now a.first a.stride), c.requires.in_bounds)

pub write_elements-requires-clause-in_bounds : goal.write_elements-requires-clause-in_bounds
write_elements-requires-clause-in_bounds g c =
    let t = g.T.Element in
    let a = c.args in
    let w = c.write_head-next in
    omega (arith, length_array t.code a.n (spaced t.stands a.words.now a.first a.stride), c.requires.in_bounds, w.ensures.next, w.auto.out)

pub returns : goal.returns
returns g c =
    let t = g.T.Element in
    let a = c.args in
    array_written t.code a.n (spaced t.stands a.words.now a.first a.stride) c.requires.in_bounds c.write_head-next.ensures c.write_elements.ensures
