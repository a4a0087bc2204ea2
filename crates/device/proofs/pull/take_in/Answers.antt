-- `device::pull::take_in` meets its contract: a prefix is copied, a segment applied.
use Rattle.device.proofs.Pulls.{prefix_beside, segment_beside, prefix_taken, segment_taken}
use Rattle.device.proofs.pull.take_in.Goals as goal

pub copy-requires : goal.copy-requires
copy-requires c = let p = c.requires in prefix_beside _ _ _ p.0 c.args.extent.few_cells p.1 p.2 c.if-r-eq-PREFIX.true

pub returns-then-r-eq-PREFIX : goal.returns-then-r-eq-PREFIX
returns-then-r-eq-PREFIX c = let p = c.requires in prefix_taken _ _ _ p.0 c.args.extent.few_cells p.1 p.2 _ c.if-r-eq-PREFIX.true c.copy.ensures

pub change-requires : goal.change-requires
change-requires c = let p = c.requires in (segment_beside _ _ _ p.0 c.args.extent.few_cells p.1 p.2 c.if-r-eq-PREFIX.false, p.1)

pub returns : goal.returns
returns c = let p = c.requires in segment_taken _ _ _ p.0 c.args.extent.few_cells p.1 p.2 _ c.if-r-eq-PREFIX.false c.change.ensures
