-- `record::begin::begin_knowing` meets its contract: what it makes of the record is the law's.
use Rattle.record.proofs.Begins.{begun}
use native.Mathlib.Omega.{arith}
use Rattle.record.proofs.begin.begin_knowing.Goals as goal

pub returns : goal.returns
returns c = let s = c.requires in begun _ _ s.1 _ _ _ _ s.2 c.fill.ensures c.fill-2.ensures c.clear_numbers.ensures (omega arith)
