-- "joins a pasted block of updates in one call, all or none, in order": every update is first looked at, and then each is joined.
-- Assumes nothing.
use Rattle.std.specs.Prelude.{◌≡◌, List, [], ◌∷◌, ℕ, suc, Result, Err, MatchResult}
use Rattle.std.proofs.Math.Option.{Option, none, some}
use Rattle.cells.specs.declared.Cell.TheVariants.{Blank}
use Rattle.protocol.specs.declared.Refusal.{Refusal}
use Rattle.protocol.specs.Machine.{Answer, done, refused_at}
use Rattle.sheet.specs.Answer.{block_meaning}
use Rattle.sheet.specs.Changes.{CellUpdate, refuses_update}
use Rattle.sheet.specs.Sheet.{sheet}
use Rattle.sheet.specs.declared.BlockRefusal.{BlockRefusal}
use Rattle.device.specs.Named.{update_of}
use Rattle.block.specs.declared.Entry.{Entry}

-- "a pasted block of updates": each line is an update of the machine.
abbrev pub update_in : Entry → CellUpdate
update_in e = update_of e.cell e.update

abbrev pub updates_in : List Entry → List CellUpdate
updates_in [] = []
updates_in (e ∷ es) = update_in e ∷ updates_in es

-- The refusal of one update, where the table has so many cells. It does not depend on what the device holds.
abbrev pub refusal_of : (cells : ℕ) → Entry → Option Refusal
refusal_of cells e = refuses_update cells 0 (λ c. Blank) (update_in e)

-- "In a block the first bad update counts": what a block comes to by it, the updates counted from i on.
abbrev pub by_refusal : Option Refusal → ℕ → Answer sheet → Answer sheet
by_refusal none i a = a
by_refusal (some r) i a = refused_at r i

abbrev pub first_bad : (cells i : ℕ) → List Entry → Answer sheet
first_bad cells i [] = done
first_bad cells i (e ∷ es) = by_refusal (refusal_of cells e) i (first_bad cells (suc i) es)

-- Whether one update can be taken, and whether all can.
abbrev pub Checked : (cells : ℕ) → Entry → Result (Unit {0}) Refusal → Type 0
Checked cells e r = MatchResult r (λ _. refusal_of cells e ≡ none) (λ q. refusal_of cells e ≡ some q)

abbrev pub LookedOver : (cells : ℕ) → List Entry → Result (Unit {0}) BlockRefusal → Type 0
LookedOver cells es r = MatchResult r (λ _. first_bad cells 0 es ≡ done) (λ b. first_bad cells 0 es ≡ block_meaning (Err b))
