-- The answers to a byte and to the end of the input are right, whatever line is held. Assumes nothing.
use Prim.Native.Nat.{ℕ, suc, ◌+◌, ◌-◌, ◌≤◌, ◌<◌}
use mathlib.Core.Path.{◌≡◌, refl, ap, sym, ◌∙◌}
use mathlib.Core.List.{List, [], ◌∷◌, ◌++◌}
use mathlib.Core.Bool.{Bool, true, false, cond}
use mathlib.Core.Logic.{◌⊎◌, inl, inr, ⊎_elim}
use native.Mathlib.Omega.{arith}
use borrow.Author.Tests.{lt-ltb, le-ltb, ne_eqb, leb-true, leb-false, eqb-true, eqb-false, ltb-true, ltb-false}
use lib.ListN.{length, take, set, length-append}
use lib.Seq.{take-suc-set, take-take}
use lib.Dec.{eqb, ltb, leb}
use Rattle.lines.specs.declared.Unended.{Unended}
use Rattle.lines.specs.declared.Fed.{Fed}
use Rattle.lines.specs.declared.Fed.TheVariants.{More, Line, Long}
use Rattle.lines.specs.Lines.{last_of, init_of, ends_line, more, line, next_of}
use Rattle.lines.specs.Held.{Held, nothing, FedIs, LastIs, ended_of, more_of, fed_of, buffer_after, finish_of}
use Rattle.lines.proofs.Ends.{ends_cr, last_snoc, last_none, length_init, next_more, next_line}

le_or_by : (m n : ℕ) (b : Bool) → leb m n ≡ b → (m ≤ n) ⊎ (n < m)
le_or_by m n true e = inl (leb-true m n e)
le_or_by m n false e = inr (leb-false m n e)

le_or : (m n : ℕ) → (m ≤ n) ⊎ (n < m)
le_or m n = le_or_by m n (leb m n) refl

-- the code's tests
module _ (len : ℕ) where
  pub ended_long : (len ≡ 0 → ⊥) → 81 < len → Long ≡ ended_of len
  unfolding ended_of
  ended_long z h = rw (ne_eqb len 0 z, lt-ltb 81 len h)

  pub ended_line : (len ≡ 0 → ⊥) → len ≤ 81 → Line (len - 1) ≡ ended_of len
  unfolding ended_of
  ended_line z h = rw (ne_eqb len 0 z, le-ltb 81 len h)

-- a byte, by what it does to the held line
module _ (q buffer : List ℕ) (p : Unended) (b : ℕ) (room : 81 ≤ length buffer) (h : Held q buffer p) where
  held_in_len : p.len < 81 → length q ≤ 81
  held_in_len g = ⊎_elim (λ l. l) (λ l. let e : p.len ≡ 82 = h.long l in absurd (omega arith)) (le_or (length q) 81)

  held_in : p.len < 81 → Held (q ++ (b ∷ [])) (set buffer p.len b) (record { len = p.len + 1; last = b })
  held_in g =
      let w : length q ≤ 81 = held_in_len g in
      let s = h.short w in
      let a = length-append q (b ∷ []) in
      let n : length (q ++ (b ∷ [])) ≡ suc p.len = omega (arith, a, s.0) in
      record {
        ends = sym (last_snoc q b);
        short = λ _. (
          omega (arith, n),
          ap (λ (k : ℕ). take k (set buffer p.len b)) n
              ∙ take-suc-set buffer p.len b (omega arith)
              ∙ ap (λ (l : List ℕ). l ++ (b ∷ [])) (ap (λ (k : ℕ). take k buffer) s.0 ∙ s.1),
        );
        long = λ l. absurd (omega (arith, n));
      }

  held_over : 81 ≤ p.len → Held (q ++ (b ∷ [])) buffer (record { len = 82; last = b })
  held_over g =
      let w : 81 ≤ length q = ⊎_elim (λ l. let s = h.short l in omega (arith, s.0)) (λ l. omega arith) (le_or (length q) 81) in
      let a = length-append q (b ∷ []) in
      record {
        ends = sym (last_snoc q b);
        short = λ l. absurd (omega (arith, a));
        long = λ _. refl;
      }

  some : ends_line p.last b ≡ true → 0 < length q
  some e =
      let k : last_of q ≡ 13 = sym h.ends ∙ ends_cr p.last b e in
      ⊎_elim (λ l. absurd (omega (arith, last_none q (omega arith)))) (λ l. l) (le_or (length q) 0)

  short_line : length q ≤ 81 → take (p.len - 1) buffer ≡ init_of q
  unfolding init_of
  short_line w =
      let s = h.short w in
      ap (λ (k : ℕ). take (k - 1) buffer) s.0 ∙ sym (take-take (length q - 1) (length q) buffer (omega arith)) ∙ ap (take (length q - 1)) s.1

  fed_line_short : ends_line p.last b ≡ true → length q ≤ 81 → FedIs (line (init_of q)) (ended_of p.len) buffer
  fed_line_short e w =
      let s = h.short w in
      let o = some e in
      let z : p.len ≡ 0 → ⊥ = λ x. omega (arith, s.0) in
      rw (← ended_line p.len z (omega (arith, s.0)))
      (omega (arith, s.0, length_init q), omega (arith, s.0), short_line w)

  fed_line_long : 81 < length q → FedIs (line (init_of q)) (ended_of p.len) buffer
  fed_line_long w =
      let e : p.len ≡ 82 = h.long w in
      let z : p.len ≡ 0 → ⊥ = λ x. omega arith in
      rw (← ended_long p.len z (omega arith)) (omega (arith, length_init q))

  fed_more : ends_line p.last b ≡ false → FedIs (more (q ++ (b ∷ []))) (more_of p.len b) (cond (ltb p.len 81) (set buffer p.len b) buffer)
  unfolding more_of
  fed_more e = by (ltb p.len 81) refl
    where
      by :
          (t : Bool)
          → ltb p.len 81 ≡ t
          → FedIs (more (q ++ (b ∷ []))) (cond t (More (record { len = p.len + 1; last = b })) (More (record { len = 82; last = b }))) (cond t (set buffer p.len b) buffer)
      by true t = held_in (ltb-true p.len 81 t)
      by false t = held_over (ltb-false p.len 81 t)

  fed_line : ends_line p.last b ≡ true → FedIs (line (init_of q)) (ended_of p.len) buffer
  fed_line e = ⊎_elim (fed_line_short e) fed_line_long (le_or (length q) 81)

  -- the answer to a byte is right
  pub fed_is : FedIs (next_of q b) (fed_of p b) (buffer_after buffer p b)
  unfolding fed_of buffer_after
  fed_is = by (ends_line p.last b) refl
    where
      same : (t : Bool) → ends_line p.last b ≡ t → ends_line (last_of q) b ≡ t
      same t e = ap (λ (x : ℕ). ends_line x b) (sym h.ends) ∙ e

      by : (t : Bool) → ends_line p.last b ≡ t → FedIs (next_of q b) (fed_of p b) (buffer_after buffer p b)
      by true e = rw (next_line q b (same true e), e) (fed_line e)
      by false e = rw (next_more q b (same false e), e) (fed_more e)

-- the end of the input
module _ (q buffer : List ℕ) (p : Unended) (h : Held q buffer p) where
  last_empty : p.len ≡ 0 → q ≡ []
  last_empty e =
      ⊎_elim (λ l. let s = h.short l in empty q (omega (arith, s.0))) (λ l. let k = h.long l in absurd (omega (arith, k))) (le_or (length q) 81)
    where
      empty : (q : List ℕ) → length q ≡ 0 → q ≡ []
      empty [] e = refl
      empty (b ∷ q) e = absurd (omega arith)

  last_long : 80 < p.len → 80 < length q
  last_long e = ⊎_elim (λ l. let s = h.short l in omega (arith, s.0)) (λ l. omega arith) (le_or (length q) 81)

  last_line : (p.len ≡ 0 → ⊥) → p.len ≤ 80 → (p.len ≡ length q) × (0 < p.len) × (p.len ≤ 80) × (take p.len buffer ≡ q)
  last_line z e =
      let l : length q ≤ 81 = ⊎_elim (λ l. l) (λ l. let k = h.long l in absurd (omega (arith, k))) (le_or (length q) 81) in
      let s = h.short l in
      let g : 0 < p.len = ⊎_elim (λ k. absurd (z (omega arith))) (λ k. k) (le_or p.len 0) in
      (s.0, g, e, ap (λ (n : ℕ). take n buffer) s.0 ∙ s.1)

  -- the answer at the end of the input is right
  pub last_is : LastIs q (finish_of p) buffer
  unfolding finish_of
  last_is = by (eqb p.len 0) refl (ltb 80 p.len) refl
    where
      by : (s : Bool) → eqb p.len 0 ≡ s → (t : Bool) → ltb 80 p.len ≡ t → LastIs q (finish_of p) buffer
      by true e t f = rw e (last_empty (eqb-true p.len 0 e))
      by false e true f = rw (e, f) (last_long (ltb-true 80 p.len f))
      by false e false f = rw (e, f) (last_line (eqb-false p.len 0 e) (ltb-false 80 p.len f))

-- nothing is held at first
pub held_none : (buffer : List ℕ) → Held [] buffer nothing
unfolding last_of
held_none buffer = record { ends = refl; short = λ _. (refl, refl); long = λ h. absurd (omega arith) }

-- a line that is told stands within the buffer
abbrev pub Within : Fed → Type 0
Within (Line n) = n ≤ 80
Within (More p) = Unit
Within Long = Unit

within_ended : (len : ℕ) → Within (ended_of len)
unfolding ended_of
within_ended len = by (eqb len 0) refl (ltb 81 len) refl
  where
    by : (a : Bool) → eqb len 0 ≡ a → (b : Bool) → ltb 81 len ≡ b → Within (ended_of len)
    by true e b f = rw e tt
    by false e true f = rw (e, f) tt
    by false e false f = let g : len ≤ 81 = ltb-false 81 len f in rw (e, f) (omega arith)

within_more : (len b : ℕ) → Within (more_of len b)
unfolding more_of
within_more len b = by (ltb len 81)
  where
    by : (t : Bool) → Within (cond t (More (record { len = len + 1; last = b })) (More (record { len = 82; last = b })))
    by true = tt
    by false = tt

pub within_fed : (p : Unended) (b : ℕ) → Within (fed_of p b)
unfolding fed_of
within_fed p b = by (ends_line p.last b)
  where
    by : (t : Bool) → Within (cond t (ended_of p.len) (more_of p.len b))
    by true = within_ended p.len
    by false = within_more p.len b

pub within_finish : (p : Unended) → Within (finish_of p)
unfolding finish_of
within_finish p = by (eqb p.len 0) (ltb 80 p.len) refl
  where
    by : (s t : Bool) → ltb 80 p.len ≡ t → Within (cond s (More p) (cond t Long (Line p.len)))
    by true t e = tt
    by false true e = tt
    by false false e = ltb-false 80 p.len e
