-- `table::check::is_table` meets its contract: its tests are those of a table.
use Rattle.std.proofs.Common.{◌∙◌, sym, arith}
use borrow.Author.Tests.{leb-true}
use Rattle.words.proofs.Tests.{decides_iff}
use Rattle.table.proofs.Tables.{table_is, record_of}
use Rattle.table.proofs.check.is_table.Goals as goal
use Rattle.table.proofs.check.is_table.Goals.{then-t-devices, else-t-devices}

pub returns-then-are_valid : goal.returns-then-are_valid
returns-then-are_valid c =
    let z = c.are_sizes.ensures.sure (c.if-not-are_sizes.false) in
    elim c.if-t-devices.branch [
      | then-t-devices w ↦ decides_iff c.are_records.ensures (λ r. table_is _ z (omega arith) (w.are_valid.ensures.sure (sym w.value-is ∙ c.if-are_valid.true)) r) (λ T. record_of _ T)
      | else-t-devices w ↦ absurd (omega (arith, leb-true _ _ (sym w.value-is ∙ c.if-are_valid.true)))
    ]
