-- The commas and the fields of a line in the words of std: what counting its commas and splitting it at them give. Assumes nothing.
use Prim.Native.Nat.{ℕ, zero, suc}
use mathlib.Core.Path.{◌≡◌, refl, ap, ◌∙◌}
use mathlib.Core.List.{List, [], ◌∷◌}
use mathlib.Core.Bool.{Bool, true, false, cond}
use native.Mathlib.Numerals.{one-add}
use lib.Dec.{eqb}
use Rattle.std.specs.List.{count_by, slice_split, slice_get, onto_first}
use Rattle.std.specs.Option.{unwrap_or}
use Rattle.std.proofs.lemmas.List.Recursion.{is_count_by}
use Rattle.text.specs.Field.{commas_of, after_commas, up_to_comma, field_of}

abbrev pub is_comma : ℕ → Bool
is_comma b = eqb b 44

pub commas_counted : (l : List ℕ) → commas_of l ≡ count_by is_comma l
unfolding commas_of
commas_counted = is_count_by commas_of is_comma refl (λ x xs. rw one-add)

part : List (List ℕ) → ℕ → List ℕ
part parts k = unwrap_or (slice_get parts k) []

part_first : (b : ℕ) (parts : List (List ℕ)) → part (onto_first b parts) 0 ≡ b ∷ part parts 0
unfolding part
part_first b [] = refl
part_first b (p ∷ parts) = refl

part_behind : (b : ℕ) (parts : List (List ℕ)) (k : ℕ) → part (onto_first b parts) (suc k) ≡ part parts (suc k)
unfolding part
part_behind b [] k = refl
part_behind b (p ∷ parts) k = refl

part_field : (k : ℕ) (l : List ℕ) → part (slice_split is_comma l) k ≡ up_to_comma (after_commas k l)
unfolding part up_to_comma after_commas
part_field zero [] = refl
part_field (suc k) [] = refl
part_field zero (b ∷ l) = by (eqb b 44) (part_field zero l)
  where
    by : (t : Bool) → part (slice_split is_comma l) 0 ≡ up_to_comma l → part (cond t ([] ∷ slice_split is_comma l) (onto_first b (slice_split is_comma l))) 0 ≡ cond t [] (b ∷ up_to_comma l)
    by true ih = refl
    by false ih = part_first b (slice_split is_comma l) ∙ ap (λ (f : List ℕ). b ∷ f) ih
part_field (suc k) (b ∷ l) = by (eqb b 44) (part_field k l) (part_field (suc k) l)
  where
    by :
        (t : Bool)
        → part (slice_split is_comma l) k ≡ up_to_comma (after_commas k l)
        → part (slice_split is_comma l) (suc k) ≡ up_to_comma (after_commas (suc k) l)
        → part (cond t ([] ∷ slice_split is_comma l) (onto_first b (slice_split is_comma l))) (suc k) ≡ up_to_comma (cond t (after_commas k l) (after_commas (suc k) l))
    by true ih jh = ih
    by false ih jh = part_behind b (slice_split is_comma l) k ∙ jh

pub field_split : (k : ℕ) (l : List ℕ) → unwrap_or (slice_get (slice_split is_comma l) k) [] ≡ field_of k l
unfolding field_of part
field_split k l = part_field k l
