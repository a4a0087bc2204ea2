-- What is made of a test, and of a value that was read, by its cases. Assumes nothing.
use mathlib.Core.Path.{◌≡◌, refl}
use mathlib.Core.Bool.{Bool, true, false, cond}
use Rattle.std.specs.Prelude.{Option, Some, None}
use Rattle.text.specs.Number.{on_some}

pub cond_of : {A : Type 0} (P : A → Type 0) (b : Bool) {x y : A} → (b ≡ true → P x) → (b ≡ false → P y) → P (cond b x y)
cond_of P true p q = p refl
cond_of P false p q = q refl

pub some_of :
    {A B : Type 0} (P : B → Type 0) (w : Option A) {none : B} {some : A → B} → P none → ((v : A) → w ≡ Some v → P (some v)) → P (on_some none w some)
some_of P (Some v) p q = q v refl
some_of P None p q = p
