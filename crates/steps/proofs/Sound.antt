-- What is read as a step is a line of that step. Assumes nothing.
use Prim.Native.Nat.{ℕ, zero, suc, ◌+◌, ◌-◌, ◌≤◌}
use mathlib.Core.Path.{◌≡◌, refl, ap, sym, subst, ◌∙◌}
use mathlib.Core.List.{List, [], ◌∷◌, ◌++◌}
use mathlib.Core.Bool.{cond}
use native.Mathlib.Omega.{arith}
use borrow.Author.Tests.{eqb-true, eqb-false, ltb-false}
use lib.ListN.{length, take}
use lib.Dec.{eqb, ltb}
use Rattle.std.specs.Prelude.{Option, Some, None}
use Rattle.text.specs.Field.{record_of, commas_of, field_of}
use Rattle.text.specs.Text.{decimal_text}
use Rattle.text.specs.Number.{on_some}
use Rattle.text.proofs.Fields.{fields_from, line_fields}
use Rattle.wording.specs.Names.{start_text, update_text, read_text, batch_text, cut_text, crash_text, act_text}
use Rattle.wording.specs.Values.{number_at, update_field_at}
use Rattle.wording.specs.Names.{kind_of}
use Rattle.steps.specs.Parse.{on_pair, counts_of, counts_fit, pair_of, step_of, parse_line}
use Rattle.steps.specs.Grammar.{largest, CountsFit, CountsAre, LineIs, LineOf}
use Rattle.wording.specs.declared.names.Act.{Act}
use Rattle.wording.specs.declared.names.Kind.{Kind}
use Rattle.steps.specs.declared.parse.Counts.{Counts}
use Rattle.steps.specs.declared.parse.Step.{Step}
use Rattle.text.proofs.Cases.{cond_of, some_of}
use Rattle.wording.proofs.KindNames.{name_of}
use Rattle.steps.proofs.Words.{kind_sound}
use Rattle.steps.proofs.Numbers.{number_sound, pair_sound}
use Rattle.steps.proofs.Counts.{fit_read, CountIs, CountsRead, counts_sound}
use Rattle.steps.proofs.Updates.{UpdateRead, update_read}

-- no step, or the line of the step
abbrev Sound : ℕ → List ℕ → Option Step → Type 0
Sound d l (Some s) = LineIs d s l
Sound d l None = Unit

cons : {f g : List ℕ} {fs gs : List (List ℕ)} → f ≡ g → fs ≡ gs → f ∷ fs ≡ g ∷ gs
cons p q = cc

-- a line, by the number of its commas and its fields
as_record : (n : ℕ) (l : List ℕ) {f : List ℕ} {fs : List (List ℕ)} → commas_of l ≡ n → field_of 0 l ≡ f → fields_from 1 n l ≡ fs → l ≡ record_of f fs
as_record n l e p q = line_fields n l e ∙ cc

module _ (d : ℕ) (l : List ℕ) where
  -- a step of two numbers alone, which `make` makes of them
  pair_line :
      (name : List ℕ) (make : ℕ → ℕ → Step)
      → ((a b : ℕ) → (a ≤ largest) × (b ≤ largest) × (l ≡ record_of name (decimal_text a ∷ decimal_text b ∷ [])) → LineIs d (make a b) l)
      → field_of 0 l ≡ name
      → Sound d l (cond (eqb (commas_of l) 2) (on_pair (pair_of l) (λ a b. Some (make a b))) None)
  pair_line name make right f =
      cond_of (Sound d l) (eqb (commas_of l) 2)
      (λ q. some_of (Sound d l) (pair_of l) tt λ p e.
      let r = pair_sound l p.0 p.1 e in
      right p.0 p.1 (r.small.0, r.small.1, as_record 2 l (eqb-true (commas_of l) 2 q) f (cons r.first (cons r.second refl))))
      (λ _. tt)

  update_sound : field_of 0 l ≡ update_text → Sound d l (on_pair (pair_of l) (λ a b. on_some None (update_field_at (commas_of l) l) (λ u. Some (Step.Update a b u))))
  update_sound f =
      some_of (Sound d l) (pair_of l) tt λ p e.
      some_of (Sound d l) (update_field_at (commas_of l) l) tt λ u g.
      let r = pair_sound l p.0 p.1 e in
      let s = subst (UpdateRead l) g (update_read l) in
      (s.0, s.1, r.small.0, r.small.1, as_record (commas_of l) l refl f (s.2 ∙ cons r.first (cons r.second refl)))

  device_sound : (a : Act) → field_of 0 l ≡ act_text a → Sound d l (cond (eqb (commas_of l) 1) (on_some None (number_at 1 l) (λ v. Some (Step.Device a v))) None)
  device_sound a f =
      cond_of (Sound d l) (eqb (commas_of l) 1)
      (λ q. some_of (Sound d l) (number_at 1 l) tt λ v e.
      let s = number_sound 1 l v e in
      (s.1, as_record 1 l (eqb-true (commas_of l) 1 q) f (cons s.0 refl)))
      (λ _. tt)

  crash_sound : field_of 0 l ≡ crash_text → Sound d l (cond (eqb (commas_of l) 0) (Some Step.Crash) None)
  crash_sound f =
      cond_of (Sound d l) (eqb (commas_of l) 0) (λ q. as_record 0 l (eqb-true (commas_of l) 0 q) f refl) (λ _. tt)

  -- the fields of the counts that were read
  counts_text :
      (n a b c : ℕ)
      → 1 ≤ n
      → n ≤ 3
      → CountIs n 1 a l
      → CountIs n 2 b l
      → CountIs n 3 c l
      → fields_from 1 n l ≡ take n (decimal_text a ∷ decimal_text b ∷ decimal_text c ∷ [])
  counts_text zero a b c g h x y z = absurd (omega arith)
  counts_text (suc zero) a b c g h x y z = cons (x.field (omega arith)) refl
  counts_text (suc (suc zero)) a b c g h x y z = cons (x.field (omega arith)) (cons (y.field (omega arith)) refl)
  counts_text (suc (suc (suc zero))) a b c g h x y z =
      cons (x.field (omega arith)) (cons (y.field (omega arith)) (cons (z.field (omega arith)) refl))
  counts_text (suc (suc (suc (suc n)))) a b c g h x y z = absurd (omega arith)

  counts_are : (n : ℕ) (c : Counts) → CountsFit d n → CountsRead n l c → CountsAre d c (fields_from 1 n l)
  counts_are n c f r =
      let e : c.number ≡ n = r.number in
      record {
        fits = subst (CountsFit d) (sym e) f;
        small = (r.first.small, r.second.small, r.third.small);
        unused = ((λ h. r.second.unused (omega arith)), (λ h. r.third.unused (omega arith)));
        text = counts_text n c.first c.second c.third f.0 f.1 r.first r.second r.third
            ∙ ap (λ (k : ℕ). take k (decimal_text c.first ∷ decimal_text c.second ∷ decimal_text c.third ∷ [])) (sym e);
      }

  batch_sound : field_of 0 l ≡ batch_text → Sound d l (cond (counts_fit d (commas_of l)) (on_some None (counts_of (commas_of l) l) (λ c. Some (Step.Batch c))) None)
  batch_sound f =
      cond_of (Sound d l) (counts_fit d (commas_of l))
      (λ q. some_of (Sound d l) (counts_of (commas_of l) l) tt λ c e.
      let s = counts_are (commas_of l) c (fit_read d (commas_of l) q) (counts_sound (commas_of l) l c e) in
      (fields_from 1 (commas_of l) l, s, as_record (commas_of l) l refl f refl))
      (λ _. tt)

-- the last field by itself
from_last : (k n : ℕ) (l : List ℕ) → fields_from k (suc n) l ≡ fields_from k n l ++ (field_of (n + k) l ∷ [])
from_last k zero l = ap (λ (m : ℕ). field_of m l ∷ []) (omega arith)
from_last k (suc n) l =
    ap (λ (fs : List (List ℕ)). field_of k l ∷ fs) (from_last (suc k) n l ∙ ap (λ (m : ℕ). fields_from (suc k) n l ++ (field_of m l ∷ [])) (omega arith))

cut_fields :
    (n : ℕ) (l : List ℕ) {f : List ℕ} → (n ≡ 0 → ⊥) → field_of n l ≡ f → fields_from 1 n l ≡ fields_from 1 (n - 1) l ++ (f ∷ [])
cut_fields zero l z e = absurd (z refl)
cut_fields (suc n) l {f} z e =
    let m : n + 1 ≡ suc n = omega arith in
    let k : suc n - 1 ≡ n = omega arith in
    from_last 1 n l
    ∙ ap (λ (x : ℕ). fields_from 1 n l ++ (field_of x l ∷ [])) m
    ∙ ap (λ (x : List ℕ). fields_from 1 n l ++ (x ∷ [])) e
    ∙ ap (λ (x : ℕ). fields_from 1 x l ++ (f ∷ [])) (sym k)

cut_sound : (d : ℕ) (l : List ℕ) → field_of 0 l ≡ cut_text → Sound d l (step_of Kind.Cut d (commas_of l) l)
unfolding step_of
cut_sound d l f =
    cond_of (Sound d l) (eqb (commas_of l) 0) (λ _. tt) λ z.
    cond_of (Sound d l) (counts_fit d (commas_of l - 1))
    (λ q. some_of (Sound d l) (counts_of (commas_of l - 1) l) tt λ c e.
    some_of (Sound d l) (number_at (commas_of l) l) tt λ j g.
    let s = counts_are d l (commas_of l - 1) c (fit_read d (commas_of l - 1) q) (counts_sound (commas_of l - 1) l c e) in
    let p = number_sound (commas_of l) l j g in
    (fields_from 1 (commas_of l - 1) l, s, p.1, as_record (commas_of l) l refl f (cut_fields (commas_of l) l (eqb-false (commas_of l) 0 z) p.0)))
    (λ _. tt)

-- by the first field
step_sound : (k : Kind) (d : ℕ) (l : List ℕ) → field_of 0 l ≡ name_of k → Sound d l (step_of k d (commas_of l) l)
unfolding step_of
step_sound Kind.Start d l f = pair_line d l start_text (λ a b. Step.Start a b) (λ a b i. i) f
step_sound Kind.Update d l f = update_sound d l f
step_sound Kind.Read d l f = pair_line d l read_text (λ a b. Step.Read a b) (λ a b i. i) f
step_sound Kind.Batch d l f = batch_sound d l f
step_sound Kind.Cut d l f = cut_sound d l f
step_sound Kind.Crash d l f = crash_sound d l f
step_sound (Kind.Device a) d l f = device_sound d l a f

-- no step, or a line of the step with at most 80 bytes
abbrev pub LineSound : ℕ → List ℕ → Option Step → Type 0
LineSound d l (Some s) = LineOf d s l
LineSound d l None = Unit

pub line_sound : (d : ℕ) (l : List ℕ) → LineSound d l (parse_line d l)
unfolding parse_line
line_sound d l =
    cond_of (LineSound d l) (ltb 80 (length l)) (λ _. tt) λ q.
    some_of (LineSound d l) (kind_of (field_of 0 l)) tt λ k e.
    by (step_of k d (commas_of l) l) (step_sound k d l (kind_sound (field_of 0 l) k e)) (ltb-false 80 (length l) q)
  where
    by : (s : Option Step) → Sound d l s → length l ≤ 80 → LineSound d l s
    by (Some s) i h = (i, h)
    by None i h = tt
