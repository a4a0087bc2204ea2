-- `imaging::compose::read_lines` meets its contract. The loop's invariant: the elements passed stand at the buffer's front.
use mathlib.Core.Path.{◌≡◌}
use Prim.Native.Nat.{◌<◌, ℕ}
use lib.ListN.{length}
use Rattle.cbor.specs.Code.{HereEach}
use Rattle.record.specs.Reading.{queue}
use Rattle.imaging.proofs.compose.read_lines.Given as goal

abbrev pub invariant-loop-n : goal.invariant-loop-n
invariant-loop-n g l =
    let t = g.T.Element in
    (length l.words ≡ length l.initial.words) × HereEach g.T.Line.line t.Allowed l.n l.s l.from (queue l.n (t.held l.words)) l.at × ((k : ℕ) → k < l.n → t.Sound l.words k)
