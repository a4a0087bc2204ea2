-- `link::settle::send_segment` meets its contract: it is delivered on a live connection that it reaches.
use Rattle.link.proofs.Goes.{not_live, not_reached, segment_sent}
use Rattle.link.proofs.settle.send_segment.Goals as goal

pub returns-then-r-ne-LIVE : goal.returns-then-r-ne-LIVE
returns-then-r-ne-LIVE c = not_live _ _ _ _ _ c.requires c.if-r-ne-LIVE.true

pub returns-then-not-reaches : goal.returns-then-not-reaches
returns-then-not-reaches c = not_reached _ _ _ _ _ c.requires c.if-r-ne-LIVE.false (c.if-not-reaches.true)

pub returns : goal.returns
returns c = segment_sent _ _ _ _ _ c.requires _ c.if-r-ne-LIVE.false (c.if-not-reaches.false) c.deliver.ensures
