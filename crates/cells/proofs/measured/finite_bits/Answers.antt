-- `cells::measured::finite_bits` meets its contract: the test is the definition's.
use Rattle.std.proofs.Common.{rules}
use Rattle.cells.specs.Finite.{finite_word}
use Rattle.cells.proofs.measured.finite_bits.Goals as goal

pub returns : goal.returns
unfolding finite_word
returns c = search rules
