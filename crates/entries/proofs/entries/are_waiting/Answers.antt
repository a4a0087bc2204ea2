-- `entries::entries::are_waiting` meets its contract: the test of each is `is_waiting`'s.
use Rattle.std.proofs.Common.{refl, rules, ℕ, arith}
use Rattle.std.proofs.lemmas.Iterator.{cases_from_all, YieldsList-from_range}
use Rattle.record.specs.Conditions.{GoodWaiting}
use Rattle.entries.proofs.All.{decides_all, answered_yes, answered_no}
use Rattle.entries.proofs.entries.are_waiting.Goals as goal

pub returns : goal.returns
returns c =
    let P = λ (j : ℕ). GoodWaiting c.args.cells c.args.r.now j in
    decides_all c.args.n _ (cases_from_all _ _ _ P (λ j. P j → ⊥) c.all.ensures.ran (YieldsList-from_range 0 c.args.n c.args.n refl (omega arith)) (λ x q k. search (rules, answered_yes)) (λ x q k. search (rules, answered_no)))
