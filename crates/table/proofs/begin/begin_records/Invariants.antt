-- `table::begin::begin_records` meets its contract: each turn begins one record more.
use Rattle.table.specs.Promise.{Begins}
use Rattle.cells.specs.declared.Cell.TheVariants.{Blank}
use Rattle.table.proofs.begin.begin_records.Given as goal

abbrev pub invariant-loop-d : goal.invariant-loop-d
invariant-loop-d l = Begins l.fn.extent.cells (λ c. Blank) (λ e. 0) l.initial.t l.t l.d
