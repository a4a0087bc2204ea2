-- `device::receive::receive` meets its contract: each item has its law.
use Rattle.words.proofs.Tests.{not_zero}
use Rattle.queues.proofs.Items.{no_prefix}
use Rattle.device.proofs.Receives.{receive_no_channel, receive_no_item}
use Rattle.device.proofs.receive.receive.Goals as goal

pub returns-then-r-eq0 : goal.returns-then-r-eq0
returns-then-r-eq0 c = receive_no_channel _ _ _ c.requires.0 _ c.if-r-eq0.true

pub returns-then-r-eq0-2 : goal.returns-then-r-eq0-2
returns-then-r-eq0-2 c = receive_no_item _ _ _ c.requires.0 _ c.if-r-eq0.false c.if-r-eq0-2.true

pub receive_prefix-requires : goal.receive_prefix-requires
receive_prefix-requires c = let p = c.requires in (record { recorded = p.0; device = p.1; channel = c.if-r-eq0.false; one = not_zero _ c.if-r-eq0-2.false }, c.if-r-eq-PREFIX.true)

pub receive_segment-requires : goal.receive_segment-requires
receive_segment-requires c = let p = c.requires in (record { recorded = p.0; device = p.1; channel = c.if-r-eq0.false; one = not_zero _ c.if-r-eq0-2.false }, no_prefix _ _ _ _ (p.0.valid.items 0 (not_zero _ c.if-r-eq0-2.false)) c.if-r-eq-PREFIX.false)
