-- `cells::measured::bits_of_f64` meets its contract: a finite value is no NaN.
use Rattle.cells.proofs.Finite.{finite_no_nan}
use Rattle.cells.proofs.measured.bits_of_f64.Goals as goal

pub float_to_bits-result : goal.float_to_bits-result
float_to_bits-result c = finite_no_nan c.args.x c.requires
