-- `queues::round::move_rounds` meets its contract: each turn moves one round more.
use Rattle.std.proofs.Common.{◌≡◌, ◌∙◌, arith}
use Rattle.queues.specs.Parts.{round_entry}
use Rattle.queues.proofs.Entries.{round_local, moved_none, moved_more, next_value}
use Rattle.queues.proofs.Rounds.{move_beside, move_out, whole_round}
use Rattle.queues.proofs.round.move_rounds.Goals as goal

pub loop-j-init : goal.loop-j-init
loop-j-init c = moved_none (round_entry _) (round_local _ c.requires.1) _ _ _

pub store_round-requires : goal.store_round-requires
store_round-requires c = let l = c.loop-j in let p = c.requires in (move_beside _ _ _ _ _ _ l.j _ p.1 p.0 c.loop-j-test.true l.auto.r l.invariant, move_out _ _ _ _ _ _ l.j _ p.1 p.0 c.loop-j-test.true l.auto.r l.invariant)

pub loop-j-preserved : goal.loop-j-preserved
loop-j-preserved c = let l = c.loop-j in let p = c.requires in moved_more (round_entry _) (round_local _ p.1) _ _ _ _ _ l.j _ l.invariant c.store_round.ensures (whole_round _ _ _ ∙ next_value (round_entry _) (round_local _ p.1) _ _ _ _ _ l.j _ p.0 c.loop-j-test.true l.invariant)

pub returns : goal.returns
returns c = let e : c.loop-j.j ≡ c.args.n = omega arith in rw e at c.loop-j.invariant
