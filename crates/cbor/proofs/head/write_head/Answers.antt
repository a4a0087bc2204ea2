-- `cbor::head::write_head` meets its contract: the initial byte, and then the argument's bytes.
use mathlib.Core.Path.{◌∙◌, ap}
use native.Mathlib.Omega.{arith}
use lib.ListN.{length-set}
use Rattle.cbor.specs.Head.{width_of}
use Rattle.cbor.specs.Major.{number_of}
use Rattle.cbor.proofs.Heads.{head_put, info_le, length_head, number_small}
use Rattle.cbor.proofs.head.write_head.Goals as goal

pub overflow_add-out : goal.overflow_add-out
overflow_add-out c = omega (arith, info_le c.args.argument, number_small c.args.major)

pub bounds-out-at : goal.bounds-out-at
bounds-out-at c = omega (arith, length_head (number_of c.args.major) c.args.argument)

pub write_high_first-requires : goal.write_high_first-requires
write_high_first-requires c =
    let a = c.args in
    let e = ap width_of c.info_of-info.ensures in
    simp length-set (omega (arith, length_head (number_of a.major) a.argument))

pub overflow_add-result-2 : goal.overflow_add-result-2
overflow_add-result-2 c =
    let a = c.args in
    let e = ap width_of c.info_of-info.ensures in
    omega (arith, length_head (number_of a.major) a.argument)

pub shape_of-out : goal.shape_of-out
shape_of-out c = c.write_high_first.auto.out ∙ simp length-set

pub returns : goal.returns
returns c =
    let a = c.args in
    let i = c.info_of-info in
    let n = c.width_of-n in
    let e = ap width_of i.ensures in
    record {
      holds = c.write_high_first.ensures ∙ rw c.number_of.ensures (head_put _ a.at (number_of a.major) a.argument _ _ i.ensures n.ensures (omega (arith, length_head (number_of a.major) a.argument)));
      next = omega (arith, length_head (number_of a.major) a.argument);
    }
