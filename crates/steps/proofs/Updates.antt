-- The update of a line, both ways. Assumes nothing.
use Prim.Native.Nat.{ℕ, suc, ◌<◌}
use mathlib.Core.Path.{◌≡◌, refl, ap, sym, subst, ◌∙◌}
use mathlib.Core.List.{List, [], ◌∷◌}
use mathlib.Core.Bool.{true}
use native.Mathlib.Omega.{arith}
use borrow.Author.Tests.{eqb-true}
use lib.ListN.{length, get_or}
use lib.Dec.{eqb}
use lib.Ieee.{Float, of_bits, binary64}
use Rattle.text.specs.Field.{commas_of, field_of}
use Rattle.text.specs.Number.{on_some, signed_of, bits_of}
use Rattle.text.specs.Text.{signed_text, hex_text}
use Rattle.std.specs.Prelude.{Option, Some, None}
use Rattle.text.proofs.Fields.{NoCommas, fields_from}
use Rattle.text.proofs.Without.{hex_without, signed_without, without}
use Rattle.text.proofs.SignedTrip.{signed_complete, signed_sound}
use Rattle.text.proofs.HexTrip.{bits_complete, bits_sound}
use Rattle.cells.specs.declared.Cell.{Cell}
use Rattle.cells.specs.declared.Update.{Update}
use Rattle.wording.specs.Names.{blank_text, count_text, measure_text, add_text}
use Rattle.wording.specs.Values.{signed_at, measure_at, update_name_of, update_by, update_field_at}
use Rattle.steps.specs.Grammar.{UpdateIs}
use Rattle.wording.specs.declared.values.UpdateName.{UpdateName}
use Rattle.text.proofs.Cases.{cond_of, some_of}
use Rattle.wording.proofs.UpdateNames.{UpdateNameIs, update_name_sound, update_names}

-- what was read: the fields of the line are two, and then those of the update
abbrev pub UpdateRead : List ℕ → Option Update → Type 0
UpdateRead l (Some u) =
    (fields : List (List ℕ)) × UpdateIs u fields × (fields_from 1 (commas_of l) l ≡ field_of 1 l ∷ field_of 2 l ∷ fields)
UpdateRead l None = Unit

module _ (l : List ℕ) where
  three : {a : List ℕ} → eqb (commas_of l) 3 ≡ true → field_of 3 l ≡ a → fields_from 1 (commas_of l) l ≡ field_of 1 l ∷ field_of 2 l ∷ a ∷ []
  three q e = ap (λ (n : ℕ). fields_from 1 n l) (eqb-true (commas_of l) 3 q) ∙ ap (λ (f : List ℕ). field_of 1 l ∷ field_of 2 l ∷ f ∷ []) e

  four :
      {a b : List ℕ}
      → eqb (commas_of l) 4 ≡ true
      → field_of 3 l ≡ a
      → field_of 4 l ≡ b
      → fields_from 1 (commas_of l) l ≡ field_of 1 l ∷ field_of 2 l ∷ a ∷ b ∷ []
  four q e g = ap (λ (n : ℕ). fields_from 1 n l) (eqb-true (commas_of l) 4 q) ∙ cc

  word_by : (w : UpdateName) → UpdateNameIs (field_of 3 l) (Some w) → UpdateRead l (update_by w (commas_of l) l)
  unfolding update_by signed_at measure_at
  word_by UpdateName.Blank f = cond_of (UpdateRead l) (eqb (commas_of l) 3) (λ q. (blank_text ∷ [], refl, three q f)) (λ _. tt)
  word_by UpdateName.Count f =
      cond_of (UpdateRead l) (eqb (commas_of l) 4)
      (λ q. some_of (UpdateRead l) (signed_of (field_of 4 l)) tt λ v e.
      let s = signed_sound (field_of 4 l) v e in
      (count_text ∷ signed_text v ∷ [], (s.1, refl), four q f s.0))
      (λ _. tt)
  word_by UpdateName.Measure f =
      cond_of (UpdateRead l) (eqb (commas_of l) 4)
      (λ q. measured (bits_of (field_of 4 l)) λ n e.
      let s = bits_sound (field_of 4 l) n e in
      (measure_text ∷ hex_text 16 n ∷ [], (n, s.1, refl, refl), four q f s.0))
      (λ _. tt)
    where
      set : Float → Option Update
      set x = Some (Update.Set (Cell.Measure x))

      measured : (w : Option ℕ) → ((n : ℕ) → w ≡ Some n → UpdateRead l (set (of_bits binary64 n))) → UpdateRead l (on_some None (on_some None w (λ n. Some (of_bits binary64 n))) set)
      measured (Some n) h = h n refl
      measured None h = tt
  word_by UpdateName.Add f =
      cond_of (UpdateRead l) (eqb (commas_of l) 4)
      (λ q. some_of (UpdateRead l) (signed_of (field_of 4 l)) tt λ v e.
      let s = signed_sound (field_of 4 l) v e in
      (add_text ∷ signed_text v ∷ [], (s.1, refl), four q f s.0))
      (λ _. tt)

  pub update_read : UpdateRead l (update_field_at (commas_of l) l)
  unfolding update_field_at
  update_read = some_of (UpdateRead l) (update_name_of (field_of 3 l)) tt λ w e. word_by w (subst (UpdateNameIs (field_of 3 l)) e (update_name_sound (field_of 3 l)))

-- an update's fields have no commas
pub update_plain : (u : Update) (fields : List (List ℕ)) → UpdateIs u fields → NoCommas fields
update_plain (Update.Set Cell.Blank) fields i = subst NoCommas (sym i) (without 44 blank_text tt, tt)
update_plain (Update.Set (Cell.Count n)) fields i = subst NoCommas (sym i.1) (without 44 count_text tt, (signed_without 44 (omega arith) n, tt))
update_plain (Update.Set (Cell.Measure x)) fields i = subst NoCommas (sym i.3) (without 44 measure_text tt, (hex_without 44 (omega arith) 16 i.0, tt))
update_plain (Update.Add n) fields i = subst NoCommas (sym i.1) (without 44 add_text tt, (signed_without 44 (omega arith) n, tt))

-- the update of a line whose fields from 3 on are the update's
module _ (l : List ℕ) (n : ℕ) where
  field_as :
      (fields fs : List (List ℕ))
      → fields ≡ fs
      → ((k : ℕ) → k < length fields → field_of (suc (suc (suc k))) l ≡ get_or fields k [])
      → (k : ℕ)
      → k < length fs
      → field_of (suc (suc (suc k))) l ≡ get_or fs k []
  field_as fields fs e f = subst (λ (x : List (List ℕ)). (k : ℕ) → k < length x → field_of (suc (suc (suc k))) l ≡ get_or x k []) e f

  pub update_is :
      (u : Update) (fields : List (List ℕ))
      → UpdateIs u fields
      → ((k : ℕ) → k < length fields → field_of (suc (suc (suc k))) l ≡ get_or fields k [])
      → n ≡ suc (suc (length fields))
      → update_field_at n l ≡ Some u
  unfolding update_field_at update_by signed_at measure_at
  update_is (Update.Set Cell.Blank) fields i f c =
      let g = field_as fields (blank_text ∷ []) i f in
      let w : update_name_of (field_of 3 l) ≡ Some UpdateName.Blank = ap update_name_of (g 0 (omega arith)) ∙ update_names.0 in
      let m : n ≡ 3 = omega (arith, ap length i) in
      rw (w, m)
  update_is (Update.Set (Cell.Count z)) fields i f c =
      let g = field_as fields (count_text ∷ signed_text z ∷ []) i.1 f in
      let w : update_name_of (field_of 3 l) ≡ Some UpdateName.Count = ap update_name_of (g 0 (omega arith)) ∙ update_names.1 in
      let m : n ≡ 4 = omega (arith, ap length i.1) in
      let v : signed_of (field_of 4 l) ≡ Some z = ap signed_of (g 1 (omega arith)) ∙ signed_complete z i.0 in
      rw (w, m, v)
  update_is (Update.Set (Cell.Measure x)) fields i f c =
      let g = field_as fields (measure_text ∷ hex_text 16 i.0 ∷ []) i.3 f in
      let w : update_name_of (field_of 3 l) ≡ Some UpdateName.Measure = ap update_name_of (g 0 (omega arith)) ∙ update_names.2 in
      let m : n ≡ 4 = omega (arith, ap length i.3) in
      let v : bits_of (field_of 4 l) ≡ Some i.0 = ap bits_of (g 1 (omega arith)) ∙ bits_complete i.0 i.1 in
      rw (w, m, v) (ap (λ (y : Float). Some (Update.Set (Cell.Measure y))) (sym i.2))
  update_is (Update.Add z) fields i f c =
      let g = field_as fields (add_text ∷ signed_text z ∷ []) i.1 f in
      let w : update_name_of (field_of 3 l) ≡ Some UpdateName.Add = ap update_name_of (g 0 (omega arith)) ∙ update_names.3 in
      let m : n ≡ 4 = omega (arith, ap length i.1) in
      let v : signed_of (field_of 4 l) ≡ Some z = ap signed_of (g 1 (omega arith)) ∙ signed_complete z i.0 in
      rw (w, m, v)
