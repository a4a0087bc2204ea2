-- `cells::measured::f64_of_bits` meets its contract: a finite value's pattern is no NaN's.
use Rattle.cells.proofs.Finite.{word_no_nan}
use Rattle.cells.proofs.measured.f64_of_bits.Goals as goal

pub float_from_bits-result : goal.float_from_bits-result
float_from_bits-result c = word_no_nan c.args.w c.requires
