use Rattle.text.proofs.PutLaws.{put_one}
use native.Mathlib.Omega.{arith}
use Rattle.text.proofs.put.put_byte.Goals as goal

pub returns : goal.returns
returns c = put_one _ _ _ (omega arith)
