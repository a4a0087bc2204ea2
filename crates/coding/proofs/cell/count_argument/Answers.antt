-- `coding::cell::count_argument` meets its contract: −1−v of a count below zero is its argument.
use mathlib.Core.Path.{ap}
use lib.IntN.{nat_abs}
use Rattle.cells.proofs.Mirror.{flip_fits, flip_is}
use Rattle.coding.proofs.Counts.{keep, mag_fits}
use Rattle.coding.proofs.cell.count_argument.Goals as goal

pub overflow_sub-result : goal.overflow_sub-result
overflow_sub-result c = flip_fits c.args.v c.ranges.v c.if-v-lt0.true

pub overflow_cast-result : goal.overflow_cast-result
overflow_cast-result c = rw (flip_is c.args.v c.ranges.v c.if-v-lt0.true) (tt, mag_fits c.args.v c.ranges.v)

pub overflow_cast-result-else-v-lt0 : goal.overflow_cast-result-else-v-lt0
overflow_cast-result-else-v-lt0 c = rw (keep c.args.v c.ranges.v c.if-v-lt0.false) (tt, mag_fits c.args.v c.ranges.v)

pub returns-then-v-lt0 : goal.returns-then-v-lt0
returns-then-v-lt0 c = ap nat_abs (flip_is c.args.v c.ranges.v c.if-v-lt0.true)

pub returns-else-v-lt0 : goal.returns-else-v-lt0
returns-else-v-lt0 c = ap nat_abs (keep c.args.v c.ranges.v c.if-v-lt0.false)
