-- `imaging::show::put_image` meets its contract: the cells' lines, then the numbers'.
use mathlib.Core.Path.{◌∙◌, subst, sym}
use Prim.Native.Nat.{◌*◌}
use native.Mathlib.Nat.{zero-add}
use native.Mathlib.Omega.{arith}
use Rattle.words.specs.Layout.{CELL}
use Rattle.text.proofs.PutLaws.{put_then}
use Rattle.image.specs.Element.{CellReady, NumberReady}
use Rattle.image.proofs.Runs.{cell_ready}
use Rattle.listing.specs.Shown.{image_text}
use Rattle.imaging.proofs.Fronts.{in_front, number_allowed, numbers_front}
use Rattle.imaging.proofs.show.put_image.Goals as goal

pub put_lines-at-requires-clause-ready : goal.put_lines-at-requires-clause-ready
put_lines-at-requires-clause-ready c k h =
    subst (CellReady c.args.words.now) (zero-add (CELL * k)) (cell_ready c.args.words.now 0 c.args.extent.cells k c.requires.cells_at h)

pub put_lines-requires-clause-ready : goal.put_lines-requires-clause-ready
put_lines-requires-clause-ready c k h =
    let a = c.args in
    subst (NumberReady a.numbers.now) (sym (in_front k) ∙ zero-add (1 * k))
    (record { room = omega (arith, h, c.requires.numbers_at); allowed = number_allowed a.words.now a.numbers.now a.extent.cells a.extent.devices c.requires.allowed k h })

pub returns : goal.returns
unfolding image_text
returns c =
    let p = c.put_lines-at.ensures in
    let q = rw (numbers_front c.args.numbers.now c.args.extent.devices) at c.put_lines.ensures in
    record { puts = put_then _ _ _ _ _ _ _ _ p.puts q.puts; within = omega (arith, p.within, q.within) }
