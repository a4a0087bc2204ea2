-- `image::reading::read_array` meets its contract: the head of the array, and then its elements.
use Rattle.cbor.proofs.Arrays.{array_broken, array_here, array_no_head}
use Rattle.image.proofs.reading.read_array.Goals as goal

pub returns-in_err-count : goal.returns-in_err-count
returns-in_err-count g c =
    let t = g.T.Element in
    rw c.from_residual.ensures (array_no_head t.code t.Allowed 1 c.args.most c.args.s.now c.args.at c.in_err-count.ensures)

pub returns-in_err-next : goal.returns-in_err-next
returns-in_err-next g c =
    let t = g.T.Element in
    let h = c.in_ok-count in
    rw c.from_residual-in_err-next.ensures (array_broken t.code t.Allowed 1 c.args.most c.args.s.now c.args.at h.from h.count h.ensures c.in_err-next.ensures)

pub returns : goal.returns
returns g c =
    let t = g.T.Element in
    let v = c.in_ok-next.ensures in
    (array_here t.code t.Allowed 1 c.args.most _ _ _ _ _ _ c.in_ok-count.ensures v.0, v.1)
