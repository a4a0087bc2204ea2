-- `cbor::bytes::write_high_first` meets its contract. The loop's invariant: what is still to be written, over what is there, is the whole number.
use mathlib.Core.Path.{◌≡◌}
use lib.ListN.{length}
use Rattle.cbor.specs.Bytes.{high_first, put}
use Rattle.cbor.proofs.bytes.write_high_first.Given as goal

abbrev pub invariant-loop-i : goal.invariant-loop-i
invariant-loop-i l = (length l.out ≡ length l.initial.out) × (put l.out l.at (high_first l.i l.y) ≡ put l.initial.out l.at (high_first l.n l.x))
