-- `table::check::are_records` meets its contract: it stops at the first record that is not right.
use Rattle.std.proofs.Common.{arith}
use Rattle.table.proofs.Part.{part_is, part_length}
use Rattle.words.proofs.Places.{below_suc}
use Rattle.words.proofs.Tests.{says_false}
use Rattle.table.proofs.check.are_records.Goals as goal

pub is_record-requires : goal.is_record-requires
is_record-requires c = part_length _ c.loop-d.d (omega arith)

pub returns-then-not-is_record : goal.returns-then-not-is_record
returns-then-not-is_record c = says_false (λ s. (rw (part_is _ _) at (c.is_record.ensures.never (c.if-not-is_record.true))) (s c.loop-d.d c.loop-d-test.true))

pub loop-d-preserved : goal.loop-d-preserved
loop-d-preserved c = below_suc c.loop-d.d c.loop-d.invariant (rw (part_is _ _) at (c.is_record.ensures.sure (c.if-not-is_record.false)))
