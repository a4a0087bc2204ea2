-- `link::gather::gather_one` meets its contract: what it makes of the segment is the law's.
use Prim.Native.Nat.{◌-◌}
use Rattle.link.proofs.Gathers.{gathered_none, gathered_some}
use native.Mathlib.Omega.{arith}
use Rattle.link.proofs.gather.gather_one.Goals as goal

pub join_rounds-requires : goal.join_rounds-requires
join_rounds-requires c =
    let p = c.requires.0 in
    let e = c.share-k.ensures in
    record { item = omega arith; size = omega arith; few_cells = omega arith; few = omega arith; segment = p.segment; rounds = λ j h. p.rounds j (omega arith) }

pub overflow_add-segment : goal.overflow_add-segment
overflow_add-segment c =
    let p = c.requires.0 in
    let e = c.share-k.ensures in
    let k = c.share-k.result in
    let m = p.in_range (k - 1) (omega arith) in
    omega arith

pub returns-then-n-gt0 : goal.returns-then-n-gt0
returns-then-n-gt0 c =
    let p = c.requires in
    gathered_some _ _ _ _ _ _ _ p.1 c.share-k.ensures c.join_rounds.ensures (omega arith) c.if-n-gt0.true (omega arith)

pub returns-else-n-gt0 : goal.returns-else-n-gt0
returns-else-n-gt0 c =
    let p = c.requires in
    gathered_none _ _ _ _ _ _ _ p.1 c.share-k.ensures c.join_rounds.ensures (omega arith)
