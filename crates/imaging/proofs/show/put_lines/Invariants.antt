-- `imaging::show::put_lines` meets its contract. The loop's invariant: the lines of the elements passed are put.
use mathlib.Core.Path.{◌≡◌}
use Prim.Native.Nat.{◌*◌}
use lib.ListN.{length}
use Rattle.cbor.specs.Code.{each}
use Rattle.record.specs.Reading.{queue}
use Rattle.answers.specs.Answer.{PutUpTo}
use Rattle.image.specs.Element.{spaced}
use Rattle.imaging.proofs.show.put_lines.Given as goal

abbrev pub invariant-loop-k : goal.invariant-loop-k
invariant-loop-k g l =
    (length l.out ≡ length l.initial.out) × PutUpTo (34 * l.k) l.initial.out l.from (each g.T.Line.line (queue l.k (spaced g.T.Element.stands l.words 0 l.stride))) l.out l.at
