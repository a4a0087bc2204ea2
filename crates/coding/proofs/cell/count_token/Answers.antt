-- `coding::cell::count_token` meets its contract: the sign tells which token.
use mathlib.Core.Path.{◌∙◌, ap}
use lib.Signed.{mag}
use mir.Syntax.{w64}
use mir.ValLaws.{to_z-of_z}
use Rattle.cbor.specs.declared.token.Token.TheVariants.{Negative, Unsigned}
use Rattle.coding.proofs.Counts.{count_neg, count_pos}
use Rattle.coding.proofs.cell.count_token.Goals as goal

pub returns-then-v-lt0 : goal.returns-then-v-lt0
returns-then-v-lt0 c = ap Negative (c.count_argument-a.ensures ∙ ap mag (to_z-of_z w64 c.args.v c.ranges.v)) ∙ count_neg c.args.v c.ranges.v c.if-v-lt0.true

pub returns-else-v-lt0 : goal.returns-else-v-lt0
returns-else-v-lt0 c = ap Unsigned (c.count_argument-a.ensures ∙ ap mag (to_z-of_z w64 c.args.v c.ranges.v)) ∙ count_pos c.args.v c.ranges.v c.if-v-lt0.false
