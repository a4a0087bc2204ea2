-- Where the first line of a text ends: the text d, of which k bytes were fed. Assumes nothing.
use mathlib.Core.Bool.{Bool, true, false, true≢false}
use mathlib.Core.List.{List, [], ◌++◌, ◌∷◌, append_assoc, head-eq_of_cons-eq, tail-eq_of_cons-eq}
use mathlib.Core.Path.{◌∙◌, ◌≡◌, ap, refl, sym}
use Prim.Native.Nat.{◌+◌, ◌-◌, ◌<◌, ◌≤◌, suc, ℕ}
use native.Mathlib.Decide.{dec_lt}
use native.Mathlib.Omega.{arith}
use borrow.Author.Tests.{eqb-true}
use lib.Dec.{eqb}
use lib.ListN.{drop, get_or, length, length-append, take}
use lib.Seq.{get_or-append_seam, length-take-le, split_at, take_all, take_at, take-suc}
use Rattle.text.specs.Text.{Without, ended}
use Rattle.lines.specs.Lines.{ends_line, init_of, last_of}
use Rattle.lines.proofs.Ends.{ends_cr, ends_lf, last_snoc}

-- an LF ends a line, and only behind a CR
ends_by : (last b : ℕ) (t : Bool) → eqb b 10 ≡ t → ends_line last b ≡ true → b ≡ 10
unfolding ends_line
ends_by last b true e h = eqb-true b 10 e
ends_by last b false e h = absurd (true≢false (sym h ∙ rw e refl))

ends_is : (last b : ℕ) → ends_line last b ≡ true → b ≡ 10
ends_is last b h = ends_by last b (eqb b 10) refl h

-- the first of two lines whose text has no CR
pub first_end : (u t q r : List ℕ) → Without 13 t → length u ≤ length t → ended u ++ q ≡ ended t ++ r → t ≡ u
first_end [] [] q r p h e = refl
first_end [] (x ∷ t) q r p h e = absurd (p.0 (sym (head-eq_of_cons-eq e)))
first_end (y ∷ u) [] q r p h e = absurd (omega arith)
first_end (y ∷ u) (x ∷ t) q r p h e = ap (λ (n : ℕ). n ∷ t) (sym (head-eq_of_cons-eq e)) ∙ ap (λ (l : List ℕ). y ∷ l) (first_end u t q r p.1 (omega arith) (tail-eq_of_cons-eq e))

ended_split : (t r : List ℕ) → ended t ++ r ≡ (t ++ (13 ∷ [])) ++ (10 ∷ r)
ended_split t r = append_assoc t (13 ∷ 10 ∷ []) r ∙ sym (append_assoc t (13 ∷ []) (10 ∷ r))

-- no text without a CR ended before byte k
abbrev pub NoneEndedBefore : List ℕ → ℕ → Type 0
NoneEndedBefore d k = (t r : List ℕ) → Without 13 t → d ≡ ended t ++ r → k ≤ length t + 1

init_last : (q : List ℕ) → last_of q ≡ 13 → q ≡ init_of q ++ (13 ∷ [])
unfolding last_of init_of
init_last [] e = absurd (omega arith)
init_last (b ∷ q) e =
    sym (take_all (suc (suc (length q) - 1)) (b ∷ q) (omega arith))
    ∙ take-suc (b ∷ q) (suc (length q) - 1) 0 (omega arith)
    ∙ ap (λ (n : ℕ). take (suc (length q) - 1) (b ∷ q) ++ (n ∷ [])) e

module _ (d : List ℕ) (k : ℕ) (below : k < length d) where
  -- the byte goes on with the line
  pub goes_on : NoneEndedBefore d k → ends_line (last_of (take k d)) (get_or d k 0) ≡ false → NoneEndedBefore d (k + 1)
  goes_on U f t r p e = by (dec_lt k (length t + 1))
    where
      split : d ≡ (t ++ (13 ∷ [])) ++ (10 ∷ r)
      split = e ∙ ended_split t r

      by : Dec (k < length t + 1) → k + 1 ≤ length t + 1
      by (yes h) = omega arith
      by (no h) =
          let m : length (t ++ (13 ∷ [])) ≡ k = omega (arith, U t r p e, length-append t (13 ∷ [])) in
          let last : last_of (take k d) ≡ 13 = ap (λ (l : List ℕ). last_of (take k l)) split ∙ ap last_of (take_at (t ++ (13 ∷ [])) (10 ∷ r) k m) ∙ last_snoc t 13 in
          let next : get_or d k 0 ≡ 10 = ap (λ (l : List ℕ). get_or l k 0) split ∙ ap (λ (n : ℕ). get_or ((t ++ (13 ∷ [])) ++ (10 ∷ r)) n 0) (sym m) ∙ get_or-append_seam (t ++ (13 ∷ [])) 10 r 0 in
          absurd (true≢false (ends_lf 13 10 refl ∙ sym (ap (λ (n : ℕ). ends_line n 10) last) ∙ sym (ap (ends_line (last_of (take k d))) next) ∙ f))

  -- the byte ends the line
  module _ (f : ends_line (last_of (take k d)) (get_or d k 0) ≡ true) where
    pub text_length : length (init_of (take k d)) + 1 ≡ k
    text_length =
        let n = length-take-le k d (omega arith) in
        let c = ap length (init_last (take k d) (ends_cr (last_of (take k d)) (get_or d k 0) f)) in
        omega (arith, length-append (init_of (take k d)) (13 ∷ []))

    pub line_is : d ≡ ended (init_of (take k d)) ++ drop (suc k) d
    line_is =
        split_at d k 0 below
        ∙ ap (λ (l : List ℕ). l ++ (get_or d k 0 ∷ drop (suc k) d)) (init_last (take k d) (ends_cr (last_of (take k d)) (get_or d k 0) f))
        ∙ ap (λ (n : ℕ). (init_of (take k d) ++ (13 ∷ [])) ++ (n ∷ drop (suc k) d)) (ends_is (last_of (take k d)) (get_or d k 0) f)
        ∙ sym (ended_split (init_of (take k d)) (drop (suc k) d))

    pub only_text : NoneEndedBefore d k → (t r : List ℕ) → Without 13 t → d ≡ ended t ++ r → t ≡ init_of (take k d)
    only_text U t r p e = first_end (init_of (take k d)) t (drop (suc k) d) r p (omega (arith, U t r p e, text_length)) (sym line_is ∙ e)

-- all of the text was fed, and no line ended
pub none_ended : (d : List ℕ) (k : ℕ) → length d ≤ k → NoneEndedBefore d k → (t r : List ℕ) → Without 13 t → d ≡ ended t ++ r → ⊥
none_ended d k h U t r p e = omega (arith, U t r p e, ap length e, length-append (ended t) r, length-append t (13 ∷ 10 ∷ []))
