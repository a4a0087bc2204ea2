-- `image::opening::begin_records` meets its contract: each turn begins one record more.
use mathlib.Core.Path.{◌≡◌}
use lib.ListN.{get_or, length}
use Rattle.record.specs.Reading.{sheet_at}
use Rattle.table.specs.Promise.{Begins}
use Rattle.image.proofs.opening.begin_records.Given as goal

abbrev pub invariant-loop-d : goal.invariant-loop-d
invariant-loop-d l = (length l.t ≡ length l.initial.t) × Begins l.fn.extent.cells (sheet_at l.fn.extent.cells l.sheet 0) (λ e. get_or l.numbers e 0) l.initial.t l.t l.d
