-- `image::reading::read_elements` meets its contract. The loop's invariant: the elements passed stand at the buffer's front.
use mathlib.Core.Path.{◌≡◌}
use Prim.Native.Nat.{◌<◌, ℕ}
use lib.ListN.{length}
use Rattle.cbor.specs.Code.{HereEach}
use Rattle.record.specs.Reading.{queue}
use Rattle.image.proofs.reading.read_elements.Given as goal

abbrev pub invariant-loop-i : goal.invariant-loop-i
invariant-loop-i g l =
    let t = g.T.Element in
    (length l.words ≡ length l.initial.words) × HereEach t.code t.Allowed l.i l.s l.from (queue l.i (t.held l.words)) l.at × ((k : ℕ) → k < l.i → t.Sound l.words k)
