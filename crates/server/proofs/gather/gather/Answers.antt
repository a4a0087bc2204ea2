-- `server::gather::gather` meets its contract: the segment begins with nothing.
use Rattle.server.proofs.GatherAll.{segment_ready, few_cells}
use Rattle.std.proofs.Common.{refl}
use native.Mathlib.Omega.{arith}
use Rattle.server.proofs.gather.gather.Goals as goal

pub fill-requires : goal.fill-requires
fill-requires c =
    let n = few_cells _ _ _ c.requires.0 in
    record { fits = omega arith; v_value = refl }

pub gather_all-requires : goal.gather_all-requires
gather_all-requires c =
    let p = c.requires in
    let n = few_cells _ _ _ p.0 in (
      p.0,
      segment_ready _ n _ _ _ c.clear_numbers.ensures c.fill.ensures (omega arith),
    )
