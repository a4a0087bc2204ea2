-- `words::across::change_from` meets its contract: the place of a turn is as it was at the start.
use Rattle.std.proofs.Common.{◌≡◌, refl, ap₂, arith}
use Rattle.words.proofs.Places.{place_local, filled_none, filled_more}
use Rattle.words.proofs.Runs.{target_value, target_valid}
use Rattle.words.proofs.across.change_from.Goals as goal

pub loop-i-init : goal.loop-i-init
loop-i-init g c = filled_none _ (place_local _ _) _ _ _

pub change_one_from-requires-clause-to_value : goal.change_one_from-requires-clause-to_value
change_one_from-requires-clause-to_value g c =
    let s = g.T.Stored in
    target_valid _ (place_local s.of_words s.words_ok) _ _ _ c.loop-i.i _ c.loop-i.invariant _ c.loop-i-test.true c.requires.1

pub loop-i-preserved : goal.loop-i-preserved
loop-i-preserved g c =
    let s = g.T.Stored in
    let l = c.loop-i in
    let local = place_local s.of_words s.words_ok in
    filled_more _ local _ _ _ _ _ l.i _ l.invariant c.change_one_from.ensures (ap₂ g.T.Changed.after (target_value _ local _ _ _ l.i _ l.invariant) refl)

pub returns : goal.returns
returns g c = let e : c.loop-i.i ≡ c.args.n = omega arith in rw e at c.loop-i.invariant
