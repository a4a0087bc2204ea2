-- `link::settle::take_number` meets its contract: no number, or the one that the word gives.
use Rattle.link.proofs.Goes.{no_number, number_taken}
use Rattle.link.proofs.settle.take_number.Goals as goal

pub returns-then-word-eq0 : goal.returns-then-word-eq0
returns-then-word-eq0 c = no_number _ _ c.if-word-eq0.true

pub returns : goal.returns
returns c = number_taken _ _ c.if-word-eq0.false c.requires
