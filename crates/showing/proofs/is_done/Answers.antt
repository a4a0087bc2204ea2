-- `showing::is_done` meets its contract: a refusal is not done.
use mathlib.Core.Path.{ap, ◌∙◌}
use Rattle.sheet.specs.Answer.{refusal_of}
use Rattle.showing.proofs.Done.{refused_not_done}
use Rattle.showing.proofs.is_done.Goals as goal

pub returns-in_default-2 : goal.returns-in_default-2
returns-in_default-2 g c =
    let r = g.E.Refused in
    refused_not_done _ _ (ap (λ a. refusal_of (r.meant a)) c.in_default.is ∙ g.met.E.Refused.refuses _)
