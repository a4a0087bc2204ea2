-- `imaging::compose::compose` meets its contract: what the text is read as is written.
use native.Mathlib.Omega.{arith}
use Rattle.imaging.proofs.Composes.{composed_none, composed_text, text_stored}
use Rattle.imaging.proofs.compose.compose.Goals as goal

pub returns-in_default : goal.returns-in_default
returns-in_default c = composed_none c.args.text.now _ c.in_default.ensures

pub write-requires : goal.write-requires
write-requires c = let d = c.read_text in text_stored _ _ _ _ _ c.in-Some.ensures (omega (arith, d.auto.words)) (omega (arith, d.auto.numbers))

pub returns : goal.returns
returns c = composed_text _ _ _ _ _ c.in-Some.ensures _ _ _ c.write.ensures
