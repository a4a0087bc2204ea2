use Rattle.std.proofs.Common.{rules, sym, ◌∙◌}
use Rattle.text.proofs.Parts.{commas_counted}
use Rattle.text.proofs.field.commas.Goals as goal

pub returns : goal.returns
returns c = search rules ∙ sym (commas_counted c.args.line.now)
