-- `image::writing::write_elements` meets its contract. The loop's invariant: the bytes of the elements passed are written.
use mathlib.Core.Path.{◌≡◌}
use lib.ListN.{length}
use Rattle.cbor.specs.Bytes.{Wrote}
use Rattle.cbor.specs.Code.{each}
use Rattle.record.specs.Reading.{queue}
use Rattle.image.specs.Element.{spaced}
use Rattle.image.proofs.writing.write_elements.Given as goal

abbrev pub invariant-loop-k : goal.invariant-loop-k
invariant-loop-k g l =
    let t = g.T.Element in
    (length l.out ≡ length l.initial.out) × Wrote l.initial.out l.at (each t.code (queue l.k (spaced t.stands l.words l.first l.stride))) l.out l.p
