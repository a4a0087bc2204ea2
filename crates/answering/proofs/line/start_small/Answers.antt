-- `answering::line::start_small` meets its contract: it ends in one of three ways.
use Rattle.answering.proofs.Asking.{start_outside, start_large, start_small}
use Rattle.answering.proofs.line.start_small.Goals as goal

pub returns-then-not-are_sizes : goal.returns-then-not-are_sizes
returns-then-not-are_sizes c = start_outside _ _ _ (c.are_sizes.ensures.never (c.if-not-are_sizes.true))

pub returns-then-not-is_small : goal.returns-then-not-is_small
returns-then-not-is_small c = start_large _ _ _ (c.are_sizes.ensures.sure (c.if-not-are_sizes.false)) (c.is_small.ensures.never (c.if-not-is_small.true))

pub returns : goal.returns
returns c =
    start_small _ _ _ _ _ (c.are_sizes.ensures.sure (c.if-not-are_sizes.false)) (c.is_small.ensures.sure (c.if-not-is_small.false)) c.start.ensures
