-- The step of an operation that is known. Assumes nothing.
use mathlib.Core.Path.{◌≡◌}
use mathlib.Core.List.{List}
use Prim.Native.Nat.{ℕ}
use Rattle.protocol.specs.Machine.{Answer}
use Rattle.sheet.specs.Sheet.{sheet}
use Rattle.record.specs.Did.{Did}
use Rattle.device.specs.Named.{step_of}
use Rattle.device.specs.declared.step.Operation.{Operation}

pub did_operation : (devices cells d : ℕ) (operation known : Operation) (xs ys : List ℕ) (a : Answer sheet) → operation ≡ known → Did devices cells (step_of cells d known) xs a ys → Did devices cells (step_of cells d operation) xs a ys
did_operation devices cells d operation known xs ys a e D = rw e D
