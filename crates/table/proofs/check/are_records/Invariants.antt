-- `table::check::are_records` meets its contract: it stops at the first record that is not right.
use Rattle.std.proofs.Common.{ℕ, ◌<◌}
use Rattle.record.specs.Valid.{IsRecord}
use Rattle.table.specs.Table.{record_at}
use Rattle.table.proofs.check.are_records.Given as goal

abbrev pub invariant-loop-d : goal.invariant-loop-d
invariant-loop-d l = (e : ℕ) → e < l.d → IsRecord l.fn.extent.devices l.fn.extent.cells (record_at l.t e)
