-- "all or none, in order. An empty block changes nothing"; "In a block the first bad update counts": what the promise of a block comes to.
-- Assumes nothing.
use Rattle.std.specs.Prelude.{◌≡◌, ◌↔◌, Ok, List, [], ◌∷◌, map, ℕ, zero, suc, ◌≤◌, ◌<◌}
use Rattle.std.proofs.Math.Option.{none, some}
use Rattle.protocol.specs.declared.Refusal.{Refusal}
use Rattle.protocol.specs.declared.Refusal.TheVariants.{NoTable, NoDevice}
use Rattle.protocol.specs.Machine.{step, run, done, refused, refused_at, Answer}
use Rattle.protocol.specs.Machine as machine
use Rattle.protocol.specs.History.{Every}
use Rattle.sheet.specs.Sheet.{sheet}
use Rattle.sheet.specs.Answer.{BlockGiven, block_meaning}
use Rattle.sheet.specs.declared.Answer.TheVariants.{Done}
use Rattle.table.specs.Table.{reading, IsTable}
use Rattle.table.specs.Promise.{Stepped}
use Rattle.block.specs.Block.{update_in, updates_in, refusal_of}
use Rattle.block.specs.declared.Entry.{Entry}

-- What stands in the `ensures` of `block`, said of the machine's answer.
abbrev pub Blocked : ℕ → List Entry → List ℕ → Answer sheet → List ℕ → Type 0
Blocked d es xs a ys = Stepped (step sheet (machine.block d (updates_in es))) xs a ys

-- "In a block the first bad update counts": it stands in place k, from 0, and gets r.
abbrev pub FirstBad : (cells : ℕ) → List Entry → ℕ → Refusal → Type 0
FirstBad cells [] k r = ⊥
FirstBad cells (e ∷ es) zero r = refusal_of cells e ≡ some r
FirstBad cells (e ∷ es) (suc k) r = (refusal_of cells e ≡ none) × FirstBad cells es k r

-- "1 first, then 3", then the first bad update with its position; and done when there is none.
pub record BlockAnswers (xs : List ℕ) (d : ℕ) (es : List Entry) (a : Answer sheet) : Type 0 where
  pub block_1 : (a ≡ refused NoTable) ↔ (IsTable xs → ⊥)
  pub block_3 : IsTable xs → (a ≡ refused NoDevice) ↔ ((reading xs).devices ≤ d)
  pub block_bad : IsTable xs → (r : Refusal) (k : ℕ) → (a ≡ refused_at r k) ↔ ((d < (reading xs).devices) × FirstBad (reading xs).cells es k r)
  pub block_done : IsTable xs → (a ≡ done) ↔ ((d < (reading xs).devices) × Every (λ e. refusal_of (reading xs).cells e ≡ none) es)

abbrev pub BlockAlwaysAnswers : Type 0
BlockAlwaysAnswers = (d : ℕ) (es : List Entry) (xs ys : List ℕ) (a : Answer sheet) → Blocked d es xs a ys → BlockAnswers xs d es a

-- "all or none": a block that is not done leaves every word as it is, and so does an empty one.
abbrev pub BlockAllOrNone : Type 0
BlockAllOrNone = (d : ℕ) (es : List Entry) (xs ys : List ℕ) (a : Answer sheet) → Blocked d es xs a ys → (a ≡ done → ⊥) → ys ≡ xs

abbrev pub BlockAllOrNoneGiven : Type 0
BlockAllOrNoneGiven = (d : ℕ) (es : List Entry) (xs ys : List ℕ) (r : BlockGiven) → Blocked d es xs (block_meaning r) ys → (r ≡ Ok Done → ⊥) → ys ≡ xs

abbrev pub EmptyBlock : Type 0
EmptyBlock = (d : ℕ) (xs ys : List ℕ) (a : Answer sheet) → Blocked d [] xs a ys → ys ≡ xs

-- "in order": a block that is done leaves the table that its updates leave, called one after the other.
abbrev pub BlockInOrder : Type 0
BlockInOrder = (d : ℕ) (es : List Entry) (xs ys : List ℕ) → IsTable xs → Blocked d es xs done ys → reading ys ≡ run sheet (map (λ e. machine.update d (update_in e)) es) (reading xs)
