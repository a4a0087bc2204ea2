-- `cbor::bytes::write_high_first` meets its contract. The loop's invariant: what is still to be written, over what is there, is the whole number.
use mathlib.Core.Path.{◌∙◌, sym}
use native.Mathlib.Omega.{arith}
use lib.ListN.{length-set}
use Rattle.cbor.proofs.Numbers.{put_high_first, put_high_first_done}
use Rattle.cbor.proofs.bytes.write_high_first.Goals as goal

pub loop-i-preserved : goal.loop-i-preserved
loop-i-preserved c =
    let v = c.loop-i.invariant in
    (simp length-set v.0, put_high_first c.loop-i.out c.args.at c.loop-i.i c.loop-i.y (omega arith) (omega arith) ∙ v.1)

pub returns : goal.returns
returns c =
    sym (put_high_first_done c.loop-i.out c.args.at c.loop-i.i c.loop-i.y (omega arith)) ∙ c.loop-i.invariant.1
