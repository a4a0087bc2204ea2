-- The names of updates are told apart. Assumes nothing.
use mathlib.Core.Path.{◌≡◌, refl, ap, sym, ◌∙◌}
use mathlib.Core.List.{List}
use Prim.Native.Nat.{ℕ}
use lib.ListN.{length}
use Rattle.std.specs.Prelude.{Option, Some, None}
use Rattle.std.proofs.lemmas.Slice.Eq.{HasBytesAt, text_from_reads}
use Rattle.text.proofs.Fields.{tested}
use Rattle.wording.specs.Names.{blank_text, count_text, measure_text, add_text}
use Rattle.wording.specs.Values.{update_name_of}
use Rattle.wording.specs.declared.values.UpdateName.{UpdateName}

-- what a field is, by what it names
abbrev pub UpdateNameIs : List ℕ → Option UpdateName → Type 0
UpdateNameIs f (Some UpdateName.Blank) = f ≡ blank_text
UpdateNameIs f (Some UpdateName.Count) = f ≡ count_text
UpdateNameIs f (Some UpdateName.Measure) = f ≡ measure_text
UpdateNameIs f (Some UpdateName.Add) = f ≡ add_text
UpdateNameIs f None = Unit

pub update_name_sound : (f : List ℕ) → UpdateNameIs f (update_name_of f)
unfolding update_name_of
update_name_sound f =
    tested (UpdateNameIs f) f blank_text (
    tested (UpdateNameIs f) f count_text (
    tested (UpdateNameIs f) f measure_text (
    tested (UpdateNameIs f) f add_text tt (λ e. e)) (λ e. e)) (λ e. e)) (λ e. e)

pub update_names :
    (update_name_of blank_text ≡ Some UpdateName.Blank) × (update_name_of count_text ≡ Some UpdateName.Count) × (update_name_of measure_text ≡ Some UpdateName.Measure) × (update_name_of add_text ≡ Some UpdateName.Add)
unfolding update_name_of
update_names = (refl, refl, refl, refl)

-- a field that has the bytes of a name
pub named : (f t : List ℕ) {w : Option UpdateName} → update_name_of t ≡ w → length f ≡ length t → HasBytesAt f 0 t → w ≡ update_name_of f
named f t e l r = sym (ap update_name_of (text_from_reads f t l r) ∙ e)
