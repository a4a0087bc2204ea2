-- Values whose code is a line: a text of their own and its CR LF. Assumes nothing.
use Rattle.std.specs.Prelude.{None, Option, Some}
use mathlib.Core.List.{List, ◌++◌, append_cancel_left}
use mathlib.Core.Logic.{⊎_elim}
use mathlib.Core.Path.{◌∙◌, ◌≡◌, ap, refl, subst, sym}
use Prim.Native.Nat.{ℕ}
use native.Mathlib.Omega.{arith}
use lib.ListN.{length}
use Rattle.cbor.specs.Code.{Free, Here, Nowhere}
use Rattle.cells.specs.declared.Cell.{Cell}
use Rattle.text.specs.Text.{Without, ended}
use Rattle.std.specs.Prelude.{Some, None}
use Rattle.words.proofs.Places.{lt_or_ge}
use Rattle.answers.specs.Answer.{answer_line, answer_text, cell_text}
use Rattle.coding.specs.Image.{NumberAllowed}
use Rattle.coding.specs.Item.{CellAllowed}
use Rattle.listing.specs.Shown.{cell_line, number_line, number_record}
use Rattle.listing.specs.Texts.{EndsAt, LineText, cell_from, number_from}
use Rattle.listing.proofs.Cuts.{first_end}
use Rattle.listing.proofs.Exactly.{CellIs, NumberIs, cell_complete, cell_sound, number_complete, number_sound}
use Rattle.listing.proofs.PlainText.{cell_line_text, number_line_text}

-- of two lines whose texts have no CR, none begins the other
ended_same : (t u q r : List ℕ) → Without 13 t → Without 13 u → ended t ++ q ≡ ended u ++ r → t ≡ u
ended_same t u q r p o e = ⊎_elim
    (λ l. sym (first_end t u q r o (omega arith) e))
    (λ g. first_end u t r q p g (sym e))
    (lt_or_ge (length t) (length u))

module _ {A : Type 0} (f K : A → List ℕ) (Ok : A → Type 0) (form : (a : A) → f a ≡ ended (K a)) (text : (a : A) → Ok a → LineText (K a)) where
  -- no line is here, so none of a value
  line_none : (s : List ℕ) (p : ℕ) → Nowhere ended LineText s p → Nowhere f Ok s p
  line_none s p n a r ok e = n (K a) r (text a ok) (e ∙ ap (λ (l : List ℕ). l ++ r) (form a))

  module _ (s : List ℕ) (p : ℕ) (t : List ℕ) (n : ℕ) (E : EndsAt s p t n) where
    -- the line that is here is no value's
    line_other : ((a : A) → Ok a → t ≡ K a → ⊥) → Nowhere f Ok s p
    line_other q a r ok e = q a ok (sym (E.only (K a) r (text a ok).plain (e ∙ ap (λ (l : List ℕ). l ++ r) (form a))))

    -- it is one's
    line_one : (a : A) → Ok a → t ≡ K a → Here f Ok s p a n
    line_one a ok e = (ok, rw (form a, sym e) E.here)

  -- where the values' texts differ, no line begins another
  line_free : ((a b : A) → Ok a → Ok b → K a ≡ K b → a ≡ b) → Free f Ok
  line_free inj a b r q oa ob e =
      let d = ap (λ (l : List ℕ). l ++ r) (sym (form a)) ∙ e ∙ ap (λ (l : List ℕ). l ++ q) (form b) in
      let k = ended_same (K a) (K b) r q (text a oa).plain (text b ob).plain d in
      (inj a b oa ob k, append_cancel_left (ended (K b)) r q (ap (λ (l : List ℕ). ended l ++ r) (sym k) ∙ d))

-- the lines of cells
cell_form : (c : Cell) → cell_line c ≡ ended (cell_text c)
unfolding answer_line answer_text
cell_form c = refl

pub cell_line_none : (s : List ℕ) (p : ℕ) → Nowhere ended LineText s p → Nowhere cell_line CellAllowed s p
cell_line_none = line_none cell_line cell_text CellAllowed cell_form cell_line_text

module _ (s : List ℕ) (p : ℕ) (t : List ℕ) (n : ℕ) (E : EndsAt s p t n) where
  pub cell_line_one : (c : Cell) → cell_from t ≡ Some c → Here cell_line CellAllowed s p c n
  cell_line_one c e = let h = subst (CellIs t) e (cell_sound t) in line_one cell_line cell_text CellAllowed cell_form cell_line_text s p t n E c h.0 h.1

  pub cell_line_other : cell_from t ≡ None → Nowhere cell_line CellAllowed s p
  cell_line_other e = line_other cell_line cell_text CellAllowed cell_form cell_line_text s p t n E (λ c ok d. never c (sym e ∙ ap cell_from d ∙ cell_complete c ok))
    where
      never : (c : Cell) → (◌≡◌ {A = Option Cell} None (Some c)) → ⊥
      never c q = let z : ◌≡◌ {A = ℕ} 0 1 = cc in omega arith

pub cell_line_free : Free cell_line CellAllowed
cell_line_free = line_free cell_line cell_text CellAllowed cell_form cell_line_text (λ a b oa ob e. same a b (sym (cell_complete a oa) ∙ ap cell_from e ∙ cell_complete b ob))
  where
    same : (a b : Cell) → Some a ≡ Some b → a ≡ b
    same a b q = cc

-- the lines of numbers
number_form : (k : ℕ) → number_line k ≡ ended (number_record k)
unfolding number_line
number_form k = refl

pub number_line_none : (s : List ℕ) (p : ℕ) → Nowhere ended LineText s p → Nowhere number_line NumberAllowed s p
number_line_none = line_none number_line number_record NumberAllowed number_form number_line_text

module _ (s : List ℕ) (p : ℕ) (t : List ℕ) (n : ℕ) (E : EndsAt s p t n) where
  pub number_line_one : (k : ℕ) → number_from t ≡ Some k → Here number_line NumberAllowed s p k n
  number_line_one k e = let h = subst (NumberIs t) e (number_sound t) in line_one number_line number_record NumberAllowed number_form number_line_text s p t n E k h.0 h.1

  pub number_line_other : number_from t ≡ None → Nowhere number_line NumberAllowed s p
  number_line_other e = line_other number_line number_record NumberAllowed number_form number_line_text s p t n E (λ k ok d. never k (sym e ∙ ap number_from d ∙ number_complete k ok))
    where
      never : (k : ℕ) → None ≡ Some k → ⊥
      never k q = let z : ◌≡◌ {A = ℕ} 0 1 = cc in omega arith

pub number_line_free : Free number_line NumberAllowed
number_line_free = line_free number_line number_record NumberAllowed number_form number_line_text (λ a b oa ob e. same a b (sym (number_complete a oa) ∙ ap number_from e ∙ number_complete b ob))
  where
    same : (a b : ℕ) → Some a ≡ Some b → a ≡ b
    same a b q = cc
