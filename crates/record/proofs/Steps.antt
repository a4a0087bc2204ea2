-- What every step's proof starts from. Assumes nothing.
use mathlib.Core.Path.{◌≡◌, refl, sym, ap, ◌∙◌}
use mathlib.Core.List.{List}
use Prim.Native.Nat.{ℕ}
use Rattle.protocol.specs.Machine.{Device, Local, answer_of, device_after, Answer}
use Rattle.sheet.specs.Sheet.{sheet}
use Rattle.record.specs.Reading.{device_of}
use Rattle.record.specs.Valid.{IsRecord}
use Rattle.record.specs.Did.{Did, Tells}

-- A step that only tells.
pub told : (devices cells : ℕ) (f : Device sheet → Local sheet) (xs : List ℕ) (a : Answer sheet) → IsRecord devices cells xs → Tells devices cells f xs a → Did devices cells f xs a xs
told devices cells f xs a R e = record { answer = sym (ap (answer_of sheet) e); after = sym (ap (device_after sheet (device_of devices cells xs)) e); taken = refl; valid = R.valid; kept = λ i n. refl }

-- Two steps that come to the same at this device.
pub did_as : (devices cells : ℕ) (f g : Device sheet → Local sheet) (xs ys : List ℕ) (a : Answer sheet) → f (device_of devices cells xs) ≡ g (device_of devices cells xs) → Did devices cells f xs a ys → Did devices cells g xs a ys
did_as devices cells f g xs ys a e D = record { answer = D.answer ∙ ap (answer_of sheet) e; after = D.after ∙ ap (device_after sheet (device_of devices cells xs)) e; taken = D.taken; valid = D.valid; kept = D.kept }
