-- A refusal is no answer `done`. Assumes nothing.
use mathlib.Core.Path.{◌≡◌, refl}
use mathlib.Core.Bool.{false}
use Prim.Native.Nat.{ℕ}
use Rattle.std.specs.Prelude.{Option, Some}
use Rattle.std.proofs.lemmas.Option.{none-some}
use Rattle.protocol.specs.Machine as machine
use Rattle.protocol.specs.Machine.{Answer}
use Rattle.protocol.specs.declared.Refusal.{Refusal}
use Rattle.sheet.specs.Sheet.{sheet}
use Rattle.sheet.specs.Answer.{refusal_of}
use Rattle.showing.specs.Done.{is_done}

pub refused_not_done : (m : Answer sheet) (x : Refusal × Option ℕ) → refusal_of m ≡ Some x → false ≡ is_done m
refused_not_done machine.done x e = absurd (none-some _ e)
refused_not_done (machine.value c) x e = refl
refused_not_done machine.says_yes x e = refl
refused_not_done machine.says_no x e = refl
refused_not_done (machine.moved k) x e = refl
refused_not_done (machine.length_is k) x e = refl
refused_not_done (machine.refused r) x e = refl
refused_not_done (machine.refused_at r k) x e = refl
