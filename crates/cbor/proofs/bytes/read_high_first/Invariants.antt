-- `cbor::bytes::read_high_first` meets its contract. The loop's invariant: y is the number that the bytes passed write.
use Rattle.cbor.specs.Bytes.{HighFirstAt}
use Rattle.cbor.proofs.bytes.read_high_first.Given as goal

abbrev pub invariant-loop-b : goal.invariant-loop-b
invariant-loop-b l = HighFirstAt l.s l.at l.b-index l.y
