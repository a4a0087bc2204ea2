-- `cells::signed::wrapping_add_i64` meets its contract: the sum of the words, reduced, is read as a number.
use Rattle.std.proofs.Common.{refl}
use Rattle.cells.proofs.Laws.{wrap_is}
use Rattle.cells.proofs.signed.wrapping_add_i64.Goals as goal

pub returns : goal.returns
returns c = wrap_is c.ranges.a c.ranges.b refl refl refl refl
