-- `words::run::change` meets its contract: the places of a turn are as they were at the start.
use Rattle.std.proofs.Common.{◌≡◌, ap₂, arith}
use Rattle.words.proofs.Places.{place_local, change_local, filled_none, filled_more}
use Rattle.words.proofs.Runs.{target_value, target_valid, source_value, source_valid}
use Rattle.words.proofs.run.change.Goals as goal

pub loop-i-init : goal.loop-i-init
loop-i-init g c = filled_none _ (place_local _ _) _ _ _

pub change_one-requires-clause-to_value : goal.change_one-requires-clause-to_value
change_one-requires-clause-to_value g c =
    let s = g.T.Stored in
    target_valid _ (place_local s.of_words s.words_ok) _ _ _ c.loop-i.i _ c.loop-i.invariant _ c.loop-i-test.true c.requires.1

pub change_one-requires-clause-from_value : goal.change_one-requires-clause-from_value
change_one-requires-clause-from_value g c =
    let s = g.T.Stored in
    source_valid _ (place_local s.of_words s.words_ok) _ _ _ c.loop-i.i _ c.loop-i.invariant _ change_local _ _ c.loop-i-test.true c.requires.0

pub loop-i-preserved : goal.loop-i-preserved
loop-i-preserved g c =
    let s = g.T.Stored in
    let l = c.loop-i in
    let local = place_local s.of_words s.words_ok in
    filled_more _ local _ _ _ _ _ l.i _ l.invariant c.change_one.ensures
    (ap₂ g.T.Changed.after (target_value _ local _ _ _ l.i _ l.invariant) (source_value _ local _ _ _ l.i _ l.invariant _ change_local _ _ c.loop-i-test.true c.requires.0))

pub returns : goal.returns
returns g c = let e : c.loop-i.i ≡ c.args.n = omega arith in rw e at c.loop-i.invariant
