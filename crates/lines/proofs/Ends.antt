-- Where a line ends: the code's tests, the last byte, and what a byte does to an unended line. Assumes nothing.
use Prim.Native.Nat.{ℕ, ◌-◌}
use mathlib.Core.Path.{◌≡◌, refl, ap, sym, ◌∙◌}
use mathlib.Core.List.{List, [], ◌∷◌, ◌++◌}
use mathlib.Core.Bool.{Bool, true, false}
use native.Mathlib.Omega.{arith}
use borrow.Author.Tests.{eqb-true}
use lib.ListN.{length, get_or, take, length-append}
use lib.Seq.{get_or-append_seam, length-take-le, take-append_seam}
use lib.Dec.{eqb}
use Rattle.lines.specs.Lines.{last_of, init_of, ends_line, more, line, next_of}

module _ (last b : ℕ) where
  pub ends_lf : b ≡ 10 → eqb last 13 ≡ ends_line last b
  unfolding ends_line
  ends_lf e = rw e

  ends_cr_by : (t : Bool) → eqb b 10 ≡ t → ends_line last b ≡ true → last ≡ 13
  unfolding ends_line
  ends_cr_by true e h = eqb-true last 13 (sym (rw e) ∙ h)
  ends_cr_by false e h = let g : false ≡ true = sym (rw e) ∙ h in let z : ◌≡◌ {A = ℕ} 0 1 = cc in absurd (omega arith)

  pub ends_cr : ends_line last b ≡ true → last ≡ 13
  ends_cr h = ends_cr_by (eqb b 10) refl h

-- the last byte and the rest
pub last_snoc : (q : List ℕ) (b : ℕ) → last_of (q ++ (b ∷ [])) ≡ b
unfolding last_of
last_snoc q b =
    let e : length (q ++ (b ∷ [])) - 1 ≡ length q = omega (arith, length-append q (b ∷ [])) in
    ap (λ (n : ℕ). get_or (q ++ (b ∷ [])) n 0) e ∙ get_or-append_seam q b [] 0

pub last_none : (q : List ℕ) → length q ≡ 0 → last_of q ≡ 0
unfolding last_of
last_none [] e = refl
last_none (b ∷ q) e = absurd (omega arith)

pub length_init : (q : List ℕ) → length (init_of q) ≡ length q - 1
unfolding init_of
length_init q = length-take-le (length q - 1) q (omega arith)

pub next_more : (q : List ℕ) (b : ℕ) → ends_line (last_of q) b ≡ false → next_of q b ≡ more (q ++ (b ∷ []))
unfolding next_of
next_more q b e = rw e

pub next_line : (q : List ℕ) (b : ℕ) → ends_line (last_of q) b ≡ true → next_of q b ≡ line (init_of q)
unfolding next_of
next_line q b e = rw e

init_snoc : (q : List ℕ) (b : ℕ) → init_of (q ++ (b ∷ [])) ≡ q
unfolding init_of
init_snoc q b =
    let e : length (q ++ (b ∷ [])) - 1 ≡ length q = omega (arith, length-append q (b ∷ [])) in
    ap (λ (n : ℕ). take n (q ++ (b ∷ []))) e ∙ take-append_seam q (b ∷ [])

-- a CR and then an LF end the line before them
pub next_ended : (q : List ℕ) → next_of (q ++ (13 ∷ [])) 10 ≡ line q
next_ended q =
    let e : ends_line (last_of (q ++ (13 ∷ []))) 10 ≡ true = ap (λ (n : ℕ). ends_line n 10) (last_snoc q 13) ∙ sym (ends_lf 13 10 refl) in
    next_line (q ++ (13 ∷ [])) 10 e ∙ ap line (init_snoc q 13)
