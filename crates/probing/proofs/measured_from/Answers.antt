-- `probing::measured_from` meets its contract: 1 by 0 is an infinity.
use mathlib.Core.Path.{refl, sym, ◌∙◌}
use lib.Ieee.{div, of_bits}
use Rattle.probing.specs.Probe.{measured_from}
use Rattle.probing.proofs.measured_from.Goals as goal

pub f64_of_bits-requires : goal.f64_of_bits-requires
f64_of_bits-requires c = sym c.finite_bits.ensures ∙ c.if-finite_bits.true

pub returns-then-finite_bits : goal.returns-then-finite_bits
unfolding measured_from
returns-then-finite_bits c = rw (sym c.finite_bits.ensures ∙ c.if-finite_bits.true) c.f64_of_bits.ensures

pub returns-else-finite_bits : goal.returns-else-finite_bits
unfolding measured_from div of_bits
returns-else-finite_bits c = rw (sym c.finite_bits.ensures ∙ c.if-finite_bits.false) refl
