-- `cbor::bytes::read_high_first` meets its contract: a byte of the part is one of the list.
use Prim.Native.Nat.{◌+◌}
use native.Mathlib.Omega.{arith}
use Rattle.cbor.proofs.Numbers.{high_first_more, high_first_none, part_entry, part_length, word_more}
use Rattle.cbor.proofs.bytes.read_high_first.Goals as goal

pub loop-b-init : goal.loop-b-init
loop-b-init c = high_first_none _ _

pub overflow_mul-y : goal.overflow_mul-y
overflow_mul-y c =
    let g = c.args in
    let o = c.loop-b in
    let l = part_length g.s.now g.at g.n c.requires.0 in
    record { fits = omega (arith, word_more o.b-index o.y 0 o.invariant (omega arith) (omega arith)) }

pub overflow_add-y : goal.overflow_add-y
overflow_add-y c =
    let g = c.args in
    let o = c.loop-b in
    let l = part_length g.s.now g.at g.n c.requires.0 in
    let e = part_entry g.s.now g.at g.n o.b-index (omega arith) in
    record { fits = word_more o.b-index o.y _ o.invariant (omega arith) (omega arith) }

pub loop-b-preserved : goal.loop-b-preserved
loop-b-preserved c =
    let g = c.args in
    let o = c.loop-b in
    let l = part_length g.s.now g.at g.n c.requires.0 in
    rw (c.from.ensures, part_entry g.s.now g.at g.n o.b-index (omega arith)) (high_first_more _ _ _ _ o.invariant (omega arith) (omega (arith, c.type_inv.s (g.at + o.b-index))))
