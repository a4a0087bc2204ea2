-- `link::settle::hang_up` meets its contract: with a crash two words are 0.
use Rattle.link.proofs.Goes.{no_crash, hung_up}
use Rattle.link.proofs.settle.hang_up.Goals as goal

pub returns-then-not-crash : goal.returns-then-not-crash
returns-then-not-crash c = no_crash _ _ (c.if-not-crash.true)

pub returns : goal.returns
returns c = hung_up _ _ (c.if-not-crash.false) c.requires
