-- Document 01, "Device": what a step does, said of the words of a record. Assumes nothing.
use Rattle.std.specs.Prelude.{◌≡◌, List, ℕ, get_or}
use Rattle.protocol.specs.Machine.{Device, Local, tell, answer_of, device_after, Answer}
use Rattle.sheet.specs.Sheet.{sheet}
use Rattle.words.specs.Layout.{TAKEN}
use Rattle.record.specs.Reading.{device_of}
use Rattle.record.specs.Valid.{InUse, ValidRecord}

-- A step that only tells, of the record xs: its answer is a.
abbrev pub Tells : (devices cells : ℕ) → (Device sheet → Local sheet) → List ℕ → Answer sheet → Type 0
Tells devices cells f xs a = f (device_of devices cells xs) ≡ tell a

-- The record xs became ys: its answer and its device are the step's, its words in use are valid, and every other word is kept.
pub record Did (devices cells : ℕ) (f : Device sheet → Local sheet) (xs : List ℕ) (a : Answer sheet) (ys : List ℕ) : Type 0 where
  pub answer : a ≡ answer_of sheet (f (device_of devices cells xs))
  pub after : device_of devices cells ys ≡ device_after sheet (device_of devices cells xs) (f (device_of devices cells xs))
  pub taken : get_or ys TAKEN 0 ≡ get_or xs TAKEN 0
  pub valid : ValidRecord devices cells ys
  pub kept : (i : ℕ) → (InUse devices cells ys i → ⊥) → get_or ys i 0 ≡ get_or xs i 0
