-- A text that is read as a cell or as a number is the text of one, and each such text is read. Assumes nothing.
use Rattle.std.specs.Prelude.{None, Option, Some}
use mathlib.Core.Bool.{true}
use mathlib.Core.List.{List, [], ◌∷◌}
use mathlib.Core.Path.{◌∙◌, ◌≡◌, ap, refl, sym}
use Prim.Native.Nat.{ℕ}
use native.Mathlib.Omega.{arith}
use borrow.Author.Tests.{eqb-true}
use lib.Dec.{eqb}
use lib.Ieee.{binary64, to_bits}
use Rattle.cells.specs.Finite.{finite_word}
use Rattle.cells.specs.declared.Cell.{Cell}
use Rattle.cells.specs.declared.Cell.TheVariants.{Blank, Count, Measure}
use Rattle.cells.proofs.Finite.{float_word_finite, float_word_float, float_word_lt, word_float_word}
use Rattle.text.specs.Field.{commas_of, field_of, record_of}
use Rattle.text.specs.Number.{bits_of, decimal_of, signed_of}
use Rattle.text.specs.Text.{Without, decimal_text, hex_text, signed_text}
use Rattle.std.specs.Prelude.{bytes_eq, Option, Some, None}
use Rattle.std.proofs.lemmas.Slice.Eq.{bytes_eq-Decides}
use Rattle.text.proofs.Cases.{cond_of, some_of}
use Rattle.text.proofs.DecimalTrip.{decimal_complete, decimal_sound}
use Rattle.text.proofs.Fields.{line_fields, record_commas, record_field, record_first}
use Rattle.text.proofs.HexTrip.{bits_complete, bits_sound}
use Rattle.text.proofs.SignedTrip.{signed_complete, signed_sound}
use Rattle.text.proofs.Without.{decimal_without, hex_without, signed_without, without}
use Rattle.answers.specs.Answer.{cell_text}
use Rattle.wording.specs.Names.{blank_text, count_text, measure_text}
use Rattle.wording.specs.Values.{update_name_of}
use Rattle.wording.specs.declared.values.UpdateName.{UpdateName}
use Rattle.wording.proofs.UpdateNames.{UpdateNameIs, update_name_sound, update_names}
use Rattle.coding.proofs.Meaning.{measure_allowed}
use Rattle.coding.specs.Image.{NumberAllowed}
use Rattle.coding.specs.Item.{CellAllowed}
use Rattle.listing.specs.Shown.{number_record, number_text}
use Rattle.listing.specs.Texts.{cell_by, cell_from, count_of, finite_of, measure_of, number_from}

-- what was read of a text
abbrev pub CellIs : List ℕ → Option Cell → Type 0
CellIs t (Some c) = CellAllowed c × (t ≡ cell_text c)
CellIs t None = Unit {0}

abbrev pub NumberIs : List ℕ → Option ℕ → Type 0
NumberIs t (Some k) = NumberAllowed k × (t ≡ number_record k)
NumberIs t None = Unit {0}

-- a text with one comma, by its two fields
two_fields : (t : List ℕ) {a b : List ℕ} → eqb (commas_of t) 1 ≡ true → field_of 0 t ≡ a → field_of 1 t ≡ b → t ≡ record_of a (b ∷ [])
two_fields t {a} {b} q e f = line_fields 1 t (eqb-true (commas_of t) 1 q) ∙ ap (λ (x : List ℕ). record_of x (field_of 1 t ∷ [])) e ∙ ap (λ (x : List ℕ). record_of a (x ∷ [])) f

one_field : (t : List ℕ) {a : List ℕ} → eqb (commas_of t) 0 ≡ true → field_of 0 t ≡ a → t ≡ a
unfolding record_of
one_field t q e = line_fields 0 t (eqb-true (commas_of t) 0 q) ∙ e

module _ (t : List ℕ) where
  by_word : (w : Option UpdateName) → UpdateNameIs (field_of 0 t) w → CellIs t (cell_by w (commas_of t) t)
  unfolding cell_by count_of measure_of finite_of cell_text
  by_word (Some UpdateName.Blank) f = cond_of (CellIs t) (eqb (commas_of t) 0) (λ q. (record { fits = tt; finite = refl }, one_field t q f)) (λ _. tt)
  by_word (Some UpdateName.Count) f =
      cond_of (CellIs t) (eqb (commas_of t) 1)
      (λ q. some_of (CellIs t) (signed_of (field_of 1 t)) tt λ z e.
      let s = signed_sound (field_of 1 t) z e in
      (record { fits = s.1; finite = refl }, two_fields t q f s.0))
      (λ _. tt)
  by_word (Some UpdateName.Measure) f =
      cond_of (CellIs t) (eqb (commas_of t) 1)
      (λ q. some_of (CellIs t) (bits_of (field_of 1 t)) tt λ n e.
      let s = bits_sound (field_of 1 t) n e in
      cond_of (CellIs t) (finite_word n)
      (λ h. (measure_allowed n h, two_fields t q f (s.0 ∙ ap (hex_text 16) (sym (word_float_word n s.1 h)))))
      (λ _. tt))
      (λ _. tt)
  by_word (Some UpdateName.Add) f = tt
  by_word None f = tt

  pub cell_sound : CellIs t (cell_from t)
  unfolding cell_from
  cell_sound = by_word (update_name_of (field_of 0 t)) (update_name_sound (field_of 0 t))

  pub number_sound : NumberIs t (number_from t)
  unfolding number_from number_record
  number_sound =
      cond_of (NumberIs t) (eqb (commas_of t) 1)
      (λ q. cond_of (NumberIs t) (bytes_eq (field_of 0 t) number_text) (λ h. by q ((bytes_eq-Decides (field_of 0 t) number_text).0 h) (decimal_of 1000000 (field_of 1 t)) refl) (λ _. tt))
      (λ _. tt)
    where
      by : eqb (commas_of t) 1 ≡ true → field_of 0 t ≡ number_text → (w : Option ℕ) → decimal_of 1000000 (field_of 1 t) ≡ w → NumberIs t w
      by q f (Some k) e = let s = decimal_sound 1000000 (field_of 1 t) k e in ((omega arith, s.1, omega (arith, s.1)), two_fields t q f s.0)
      by q f None e = tt

-- a record of a word and one field is read by them
module _ (w f : List ℕ) (p : Without 44 w) (q : Without 44 f) where
  record_one : commas_of (record_of w (f ∷ [])) ≡ 1
  record_one = record_commas w (f ∷ []) p (q, tt)

  record_word : field_of 0 (record_of w (f ∷ [])) ≡ w
  record_word = record_first w (f ∷ []) p

  record_rest : field_of 1 (record_of w (f ∷ [])) ≡ f
  record_rest = record_field w (f ∷ []) p (q, tt) 0 (omega arith)

-- a word alone
module _ (w : List ℕ) (p : Without 44 w) where
  alone_none : commas_of w ≡ 0
  unfolding record_of
  alone_none = record_commas w [] p tt

  alone_word : field_of 0 w ≡ w
  unfolding record_of
  alone_word = record_first w [] p

number_word : bytes_eq number_text number_text ≡ true
number_word = refl

pub cell_complete : (c : Cell) → CellAllowed c → cell_from (cell_text c) ≡ Some c
unfolding cell_from cell_by cell_text
cell_complete Blank ok =
    let p : Without 44 blank_text = without 44 blank_text tt in
    rw (ap update_name_of (alone_word blank_text p) ∙ update_names.0, alone_none blank_text p)
cell_complete (Count z) ok =
    let p : Without 44 count_text = without 44 count_text tt in
    let q = signed_without 44 (omega arith) z in
    rw (ap update_name_of (record_word count_text (signed_text z) p q) ∙ update_names.1, record_one count_text (signed_text z) p q) (unfold count_of in (rw (ap signed_of (record_rest count_text (signed_text z) p q) ∙ signed_complete z ok.fits)))
cell_complete (Measure x) ok =
    let b = to_bits binary64 x in
    let p : Without 44 measure_text = without 44 measure_text tt in
    let q = hex_without 44 (omega arith) 16 b in
    rw (ap update_name_of (record_word measure_text (hex_text 16 b) p q) ∙ update_names.2, record_one measure_text (hex_text 16 b) p q)
    (unfold measure_of in (rw (ap bits_of (record_rest measure_text (hex_text 16 b) p q) ∙ bits_complete b (float_word_lt x ok.fits)) (unfold finite_of in (rw (float_word_finite x ok.fits ok.finite) (ap (λ y. Some (Measure y)) (float_word_float x ok.fits))))))

pub number_complete : (k : ℕ) → NumberAllowed k → number_from (number_record k) ≡ Some k
unfolding number_from number_record
number_complete k ok =
    let p : Without 44 number_text = without 44 number_text tt in
    let q = decimal_without 44 (omega arith) k in
    rw (
      record_one number_text (decimal_text k) p q,
      ap (λ (f : List ℕ). bytes_eq f number_text) (record_word number_text (decimal_text k) p q) ∙ number_word,
      ap (decimal_of 1000000) (record_rest number_text (decimal_text k) p q) ∙ decimal_complete 1000000 k ok.1,
    )
