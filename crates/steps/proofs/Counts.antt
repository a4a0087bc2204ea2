-- How many counts may stand, and the counts of a line, both ways. Assumes nothing.
use Prim.Native.Nat.{ℕ, ◌≤◌, ◌<◌}
use mathlib.Core.Path.{◌≡◌, refl, ap, sym, subst}
use mathlib.Core.List.{List}
use mathlib.Core.Bool.{Bool, true, false, false≢true, cond}
use native.Mathlib.Omega.{arith}
use borrow.Author.Tests.{eq-eqb, ne_eqb, eqb-true, eqb-false, le-ltb, ltb-true, ltb-false}
use lib.Dec.{eqb, ltb}
use Rattle.text.specs.Field.{field_of}
use Rattle.text.specs.Text.{decimal_text}
use Rattle.std.specs.Prelude.{Option, Some, None}
use Rattle.text.proofs.DecimalTrip.{not_zero}
use Rattle.wording.specs.Values.{number_at}
use Rattle.steps.specs.Parse.{count_at, counts_of, counts_fit}
use Rattle.steps.specs.Grammar.{largest, CountsFit}
use Rattle.steps.specs.declared.parse.Counts.{Counts}
use Rattle.text.proofs.Cases.{some_of}
use Rattle.steps.proofs.Numbers.{number_sound, number_is}

-- the test of the number of counts
pub fit_read : (d n : ℕ) → counts_fit d n ≡ true → CountsFit d n
unfolding counts_fit
fit_read d n = by (eqb n 0) refl (ltb 3 n) refl (eqb d 0) refl
  where
    by :
        (r : Bool)
        → eqb n 0 ≡ r
        → (s : Bool)
        → ltb 3 n ≡ s
        → (t : Bool)
        → eqb d 0 ≡ t
        → cond r false (cond s false (cond t true (eqb n d))) ≡ true
        → CountsFit d n
    by true p s q t u e = absurd (false≢true e)
    by false p true q t u e = absurd (false≢true e)
    by false p false q true u e = (not_zero n (eqb-false n 0 p), ltb-false 3 n q, λ k. absurd (k (eqb-true d 0 u)))
    by false p false q false u e = (not_zero n (eqb-false n 0 p), ltb-false 3 n q, λ k. eqb-true n d e)

pub fit_is : (d n : ℕ) → CountsFit d n → counts_fit d n ≡ true
unfolding counts_fit
fit_is d n f = rw (ne_eqb n 0 (λ e. omega (arith, f.0)), le-ltb 3 n f.1) (by (eqb d 0) refl)
  where
    by : (t : Bool) → eqb d 0 ≡ t → cond t true (eqb n d) ≡ true
    by true e = refl
    by false e = eq-eqb n d (f.2 (eqb-false d 0 e))

-- count k of n
pub record CountIs (n k v : ℕ) (l : List ℕ) : Type 0 where
  pub small : v ≤ largest
  pub unused : n < k → v ≡ 0
  pub field : k ≤ n → field_of k l ≡ decimal_text v

count_sound : (n k : ℕ) (l : List ℕ) (v : ℕ) → count_at n k l ≡ Some v → CountIs n k v l
unfolding count_at
count_sound n k l v = by (ltb n k) refl
  where
    same : {x y : ℕ} → Some x ≡ Some y → y ≡ x
    same e = cc

    by : (t : Bool) → ltb n k ≡ t → cond t (Some 0) (number_at k l) ≡ Some v → CountIs n k v l
    by true q e =
        let h : n < k = ltb-true n k q in
        let z : v ≡ 0 = same e in
        record { small = omega arith; unused = λ _. z; field = λ g. absurd (omega arith) }
    by false q e =
        let h : k ≤ n = ltb-false n k q in
        let s = number_sound k l v e in
        record { small = s.1; unused = λ g. absurd (omega arith); field = λ _. s.0 }

count_is : (n k : ℕ) (l : List ℕ) (v : ℕ) → CountIs n k v l → count_at n k l ≡ Some v
unfolding count_at
count_is n k l v i = by (ltb n k) refl
  where
    by : (t : Bool) → ltb n k ≡ t → cond t (Some 0) (number_at k l) ≡ Some v
    by true q = ap Some (sym (i.unused (ltb-true n k q)))
    by false q = number_is k l (i.field (ltb-false n k q)) i.small

-- all counts
pub counts_is :
    (l : List ℕ) (c : Counts)
    → CountIs c.number 1 c.first l
    → CountIs c.number 2 c.second l
    → CountIs c.number 3 c.third l
    → counts_of c.number l ≡ Some c
unfolding counts_of
counts_is l c x y z =
    rw (count_is c.number 1 l c.first x, count_is c.number 2 l c.second y, count_is c.number 3 l c.third z)

-- what was read: the number of counts, and each of them
pub record CountsRead (n : ℕ) (l : List ℕ) (c : Counts) : Type 0 where
  pub number : c.number ≡ n
  pub first : CountIs n 1 c.first l
  pub second : CountIs n 2 c.second l
  pub third : CountIs n 3 c.third l

pub counts_sound : (n : ℕ) (l : List ℕ) (c : Counts) → counts_of n l ≡ Some c → CountsRead n l c
unfolding counts_of
counts_sound n l c =
    some_of P (count_at n 1 l) none λ x p.
    some_of P (count_at n 2 l) none λ y q.
    some_of P (count_at n 3 l) none λ z r.
    λ e. subst (CountsRead n l) (same e) (record {
      number = refl;
      first = count_sound n 1 l x p;
      second = count_sound n 2 l y q;
      third = count_sound n 3 l z r;
    })
  where
    P : Option Counts → Type 0
    P m = m ≡ Some c → CountsRead n l c

    none : P None
    none e = let z : ◌≡◌ {A = ℕ} 0 1 = cc in absurd (omega arith)

    same : {x y : Counts} → Some x ≡ Some y → x ≡ y
    same e = cc
