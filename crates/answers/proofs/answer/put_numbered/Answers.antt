use native.Mathlib.Omega.{arith}
use Rattle.text.proofs.PutLaws.{put_then}
use Rattle.text.proofs.DecimalText.{decimal_length}
use Rattle.answers.proofs.answer.put_numbered.Goals as goal

pub put_decimal-requires : goal.put_decimal-requires
put_decimal-requires c = let p = c.put-m.ensures in omega (arith, p.behind, p.long, decimal_length c.args.k (omega arith))

pub returns : goal.returns
returns c = put_then _ _ _ _ _ _ _ _ c.put-m.ensures c.put_decimal.ensures
