use Rattle.std.proofs.Common.{rules, arith}
use Rattle.wording.specs.Names.{blank_text, count_text, measure_text}
use Rattle.wording.proofs.UpdateNames.{update_names, named}
use Rattle.wording.proofs.values.update_name_of.Goals as goal

pub returns-in-blank : goal.returns-in-blank
returns-in-blank c = named c.args.f.now blank_text update_names.0 (omega arith) (search rules)

pub returns-in-count : goal.returns-in-count
returns-in-count c = named c.args.f.now count_text update_names.1 (omega arith) (search rules)

pub returns-in-measure : goal.returns-in-measure
returns-in-measure c = named c.args.f.now measure_text update_names.2 (omega arith) (search rules)
