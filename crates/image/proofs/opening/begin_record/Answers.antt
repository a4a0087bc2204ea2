-- `image::opening::begin_record` meets its contract: the sheet is stored before the record begins.
use Rattle.image.proofs.Opens.{record_begun}
use Rattle.image.proofs.opening.begin_record.Goals as goal

pub returns : goal.returns
returns c = record_begun _ _ _ _ _ _ c.copy_from.ensures c.begin_knowing.ensures
