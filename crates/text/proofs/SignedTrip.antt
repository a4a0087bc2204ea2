-- What is written as a signed decimal is read as that number, and nothing else is. Assumes nothing.
use Prim.Native.Nat.{ℕ, zero, suc, ◌-◌, ◌^◌, ◌≤◌, ◌<◌}
use mathlib.Core.Path.{◌≡◌, refl, ap, sym, subst, ◌∙◌}
use mathlib.Core.List.{List, [], ◌∷◌}
use mathlib.Core.Bool.{Bool, true, false}
use native.Mathlib.Omega.{arith}
use borrow.Author.Tests.{ne_eqb, leb-true, leb-false, eqb-true}
use lib.ListN.{get_or, drop}
use lib.Dec.{leb, eqb}
use lib.IntN.{ℤ, pos, negsuc}
use mir.Syntax.{w64}
use mir.Val.{SFits}
use Rattle.text.specs.Number.{decimal_of, positive_of, negative_of, starts_minus, signed_of}
use Rattle.std.specs.Prelude.{Option, Some, None}
use Rattle.text.specs.Text.{decimal_text, is_negative, signed_text}
use Rattle.text.proofs.DecimalText.{head_digit, text_some}
use Rattle.text.proofs.DecimalTrip.{decimal_complete, decimal_sound}
use Rattle.text.proofs.Reading.{positive_is, positive_not, negative_is, negative_not, negative_zero, signed_minus, signed_plain, minus_first}

abbrev most : ℕ
most = 9223372036854775808

signed_no : {A : Type 0} {z : ℤ} → None ≡ Some z → A
signed_no e = let q : ◌≡◌ {A = ℕ} 0 1 = cc in absurd (omega arith)

signed_is : {y z : ℤ} → Some y ≡ Some z → y ≡ z
signed_is e = cc

pub signed_complete : (z : ℤ) → SFits w64 z → signed_of (signed_text z) ≡ Some z
unfolding signed_text is_negative
signed_complete (pos n) h =
    let b : n < 2 ^ 63 = h.sfits in
    let m : starts_minus (decimal_text n) ≡ false = sym (minus_first (decimal_text n) (omega (arith, text_some n))) ∙ ne_eqb (get_or (decimal_text n) 0 0) 45 (λ e. omega (arith, head_digit n)) in
    sym (signed_plain (decimal_text n) m) ∙ ap positive_of (decimal_complete most n (omega arith)) ∙ positive_is n (omega arith)
signed_complete (negsuc k) h =
    let b : k < 2 ^ 63 = h.sfits in
    let m : starts_minus (45 ∷ decimal_text (suc k)) ≡ true = sym (minus_first (45 ∷ decimal_text (suc k)) (omega arith)) in
    sym (signed_minus (45 ∷ decimal_text (suc k)) m)
    ∙ ap negative_of (decimal_complete most (suc k) (omega arith))
    ∙ negative_is (suc k) (λ e. omega arith) (omega arith)
    ∙ ap (λ (n : ℕ). Some (negsuc n)) (omega arith)

positive_by : (w : Option ℕ) (z : ℤ) → positive_of w ≡ Some z → (v : ℕ) × (w ≡ Some v) × (z ≡ pos v) × (v < 2 ^ 63)
unfolding positive_of
positive_by None z e = signed_no e
positive_by (Some v) z e = by (leb v 9223372036854775807) refl
  where
    by : (t : Bool) → leb v 9223372036854775807 ≡ t → (u : ℕ) × (Some v ≡ Some u) × (z ≡ pos u) × (u < 2 ^ 63)
    by true q = let h : v ≤ 9223372036854775807 = leb-true _ _ q in (v, refl, sym (signed_is (sym (positive_is v h) ∙ e)), omega arith)
    by false q = signed_no (sym (positive_not v (leb-false _ _ q)) ∙ e)

negative_by : (w : Option ℕ) (z : ℤ) → negative_of w ≡ Some z → (v : ℕ) × (w ≡ Some (suc v)) × (z ≡ negsuc v) × (v < 2 ^ 63)
unfolding negative_of
negative_by None z e = signed_no e
negative_by (Some zero) z e = signed_no (sym (negative_zero 0 refl) ∙ e)
negative_by (Some (suc v)) z e = by (leb (suc v) most) refl
  where
    nz : suc v ≡ 0 → ⊥
    nz k = omega arith

    by : (t : Bool) → leb (suc v) most ≡ t → (u : ℕ) × (Some (suc v) ≡ Some (suc u)) × (z ≡ negsuc u) × (u < 2 ^ 63)
    by true q =
        let h : suc v ≤ most = leb-true _ _ q in
        let s : negsuc (suc v - 1) ≡ z = signed_is (sym (negative_is (suc v) nz h) ∙ e) in
        (v, refl, sym (ap negsuc (omega arith) ∙ s), omega arith)
    by false q = signed_no (sym (negative_not (suc v) nz (leb-false _ _ q)) ∙ e)

minus_text : (l : List ℕ) → starts_minus l ≡ true → (v : ℕ) → drop 1 l ≡ decimal_text (suc v) → l ≡ signed_text (negsuc v)
unfolding starts_minus signed_text is_negative
minus_text [] m v d = let q : ◌≡◌ {A = ℕ} 0 1 = cc in absurd (omega arith)
minus_text (b ∷ l) m v d =
    let e : eqb b 45 ≡ true = minus_first (b ∷ l) (omega arith) ∙ m in
    ap (λ (x : ℕ). x ∷ l) (eqb-true b 45 e) ∙ ap (λ (t : List ℕ). 45 ∷ t) d

plain_text : (v : ℕ) → decimal_text v ≡ signed_text (pos v)
unfolding signed_text is_negative
plain_text v = refl

pub signed_sound : (l : List ℕ) (z : ℤ) → signed_of l ≡ Some z → (l ≡ signed_text z) × SFits w64 z
signed_sound l z e = by (starts_minus l) refl
  where
    by : (t : Bool) → starts_minus l ≡ t → (l ≡ signed_text z) × SFits w64 z
    by true m =
        let n = negative_by (decimal_of most (drop 1 l)) z (signed_minus l m ∙ e) in
        let d = decimal_sound most (drop 1 l) (suc n.0) n.1 in
        (minus_text l m n.0 d.0 ∙ ap signed_text (sym n.2), subst (SFits w64) (sym n.2) (record { sfits = n.3 }))
    by false m =
        let n = positive_by (decimal_of most l) z (signed_plain l m ∙ e) in
        let d = decimal_sound most l n.0 n.1 in
        (d.0 ∙ plain_text n.0 ∙ ap signed_text (sym n.2), subst (SFits w64) (sym n.2) (record { sfits = n.3 }))
