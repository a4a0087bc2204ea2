-- `record::begin::begin` meets its contract: the blank sheet is stored first.
use Rattle.record.proofs.Begins.{begun_blank}
use native.Mathlib.Omega.{arith}
use Rattle.record.proofs.begin.begin.Goals as goal

pub begin_knowing-requires : goal.begin_knowing-requires
begin_knowing-requires c = (omega arith, omega arith, c.fill.ensures.valid)

pub returns : goal.returns
returns c = begun_blank _ _ _ _ _ c.fill.ensures c.begin_knowing.ensures
