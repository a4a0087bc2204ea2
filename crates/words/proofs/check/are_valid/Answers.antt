-- `words::check::are_valid` meets its contract: it stops at the first place that is not valid.
use Rattle.std.proofs.Common.{◌≡◌, ◌∙◌, sym, arith}
use Rattle.words.specs.Place.{words_at}
use Rattle.words.proofs.Places.{below_suc}
use Rattle.words.proofs.Tests.{says_true, says_false, true_false}
use Rattle.words.proofs.check.are_valid.Goals as goal

pub loop-i-init : goal.loop-i-init
loop-i-init g c = λ k h. absurd (omega arith)

pub returns-then-not-are_words : goal.returns-then-not-are_words
unfolding words_at
returns-then-not-are_words g c = says_false (λ ok. true_false (sym (ok c.loop-i.i c.loop-i-test.true) ∙ sym c.are_words.ensures ∙ c.if-not-are_words.true))

pub loop-i-preserved : goal.loop-i-preserved
unfolding words_at
loop-i-preserved g c = below_suc c.loop-i.i c.loop-i.invariant (sym c.are_words.ensures ∙ c.if-not-are_words.false)

pub returns : goal.returns
returns g c = let e : c.loop-i.i ≡ c.args.n = omega arith in says_true (rw e at c.loop-i.invariant)
