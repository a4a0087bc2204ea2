-- `words::run::copy` meets its contract: what it reads is not yet stored over.
use Rattle.std.proofs.Common.{◌≡◌, ◌∙◌, arith}
use Rattle.words.proofs.Places.{place_local, filled_none, filled_more}
use Rattle.words.proofs.Runs.{source_value, source_valid}
use Rattle.words.proofs.run.copy.Goals as goal

pub loop-i-init : goal.loop-i-init
loop-i-init g c = filled_none _ (place_local _ _) _ _ _

pub get-v-requires-clause-k_value : goal.get-v-requires-clause-k_value
get-v-requires-clause-k_value g c =
    let s = g.T.Stored in
    let local = place_local s.of_words s.words_ok in
    source_valid _ local _ _ _ c.loop-i.i _ c.loop-i.invariant _ local _ _ c.loop-i-test.true c.requires

pub loop-i-preserved : goal.loop-i-preserved
loop-i-preserved g c =
    let s = g.T.Stored in
    let l = c.loop-i in
    let local = place_local s.of_words s.words_ok in
    filled_more _ local _ _ _ _ _ l.i _ l.invariant c.put.ensures (c.get-v.ensures.is ∙ source_value _ local _ _ _ l.i _ l.invariant _ local _ _ c.loop-i-test.true c.requires)

pub returns : goal.returns
returns g c = let e : c.loop-i.i ≡ c.args.n = omega arith in rw e at c.loop-i.invariant
