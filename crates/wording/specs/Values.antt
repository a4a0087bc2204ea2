-- How the numbers and the update of a line are read off its fields (document 01, "Step program"). Assumes nothing.
use Rattle.std.specs.Prelude.{ℕ, List, cond, eqb, bytes_eq, ℤ, Option, Some, None}
use Rattle.std.specs.Float.Ieee.{of_bits}
use Rattle.std.specs.Float.{binary64, Float}
use Rattle.text.specs.Field.{field_of}
use Rattle.text.specs.Number.{on_some, decimal_of, signed_of, bits_of}
use Rattle.cells.specs.declared.Cell.{Cell}
use Rattle.cells.specs.declared.Update.{Update}
use Rattle.wording.specs.Names.{blank_text, count_text, measure_text, add_text}
use Rattle.wording.specs.declared.values.UpdateName.{UpdateName}

-- field k as a number without a minus: "Decimals … fit 64 signed bits"
unfoldable pub number_at : ℕ → List ℕ → Option ℕ
number_at k l = decimal_of 9223372036854775807 (field_of k l)

-- field 4 as n, which may carry a minus
unfoldable pub signed_at : List ℕ → Option ℤ
signed_at l = signed_of (field_of 4 l)

-- field 4 as the 16 digits of a measured number
unfoldable pub measure_at : List ℕ → Option Float
measure_at l = on_some None (bits_of (field_of 4 l)) (λ n. Some (of_bits binary64 n))

unfoldable pub update_name_of : List ℕ → Option UpdateName
update_name_of f =
    cond (bytes_eq f blank_text) (Some UpdateName.Blank) (
    cond (bytes_eq f count_text) (Some UpdateName.Count) (
    cond (bytes_eq f measure_text) (Some UpdateName.Measure) (
    cond (bytes_eq f add_text) (Some UpdateName.Add) (
    None))))

-- the update by its name, of a line with n commas
unfoldable pub update_by : UpdateName → ℕ → List ℕ → Option Update
unfolding signed_at measure_at
update_by UpdateName.Blank n l = cond (eqb n 3) (Some (Update.Set Cell.Blank)) None
update_by UpdateName.Count n l = cond (eqb n 4) (on_some None (signed_at l) (λ z. Some (Update.Set (Cell.Count z)))) None
update_by UpdateName.Measure n l = cond (eqb n 4) (on_some None (measure_at l) (λ x. Some (Update.Set (Cell.Measure x)))) None
update_by UpdateName.Add n l = cond (eqb n 4) (on_some None (signed_at l) (λ z. Some (Update.Add z))) None

unfoldable pub update_field_at : ℕ → List ℕ → Option Update
unfolding update_by update_name_of
update_field_at n l = on_some None (update_name_of (field_of 3 l)) (λ w. update_by w n l)
