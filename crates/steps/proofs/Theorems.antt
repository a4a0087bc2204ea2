-- The claims of specs/Claims.antt, each proved from the laws of Exactly.antt. Assumes nothing.
use Rattle.steps.specs.Claims.{LineOfStep, OneStep, NoStep, LongerLine, EmptyLine, DigitsKept}
use Rattle.steps.proofs.Exactly as exactly

pub line_of_step : LineOfStep
line_of_step d s l = (exactly.step_is d s l, exactly.is_step d s l)

pub one_step : OneStep
one_step = exactly.one_step

pub no_step : NoStep
no_step d l = (exactly.no_step_is d l, exactly.none_step d l)

pub longer_line : LongerLine
longer_line = exactly.long_line

pub empty_line : EmptyLine
empty_line = exactly.empty_line

pub digits_kept : DigitsKept
digits_kept = exactly.measure_kept
