-- Every line of a step is read as that step. Assumes nothing.
use Prim.Native.Nat.{ℕ, zero, suc, ◌-◌, ◌≤◌, ◌<◌}
use mathlib.Core.Path.{◌≡◌, refl, ap, sym, subst, ◌∙◌}
use mathlib.Core.List.{List, [], ◌∷◌, ◌++◌}
use mathlib.Core.Bool.{false}
use native.Mathlib.Omega.{arith}
use borrow.Author.Tests.{ne_eqb, le-ltb}
use lib.ListN.{length, get_or, take, length-append, get_or-append}
use lib.Seq.{length-take-le, get_or-take, get_or_at}
use lib.Dec.{eqb}
use Rattle.text.specs.Field.{record_of, commas_of, field_of}
use Rattle.text.specs.Text.{decimal_text}
use Rattle.std.specs.Prelude.{Some}
use Rattle.text.proofs.Fields.{NoCommas, record_commas, record_first, record_field}
use Rattle.text.proofs.Without.{decimal_without}
use Rattle.cells.specs.declared.Update.{Update}
use Rattle.wording.specs.Values.{number_at, update_field_at}
use Rattle.wording.specs.Names.{kind_of}
use Rattle.steps.specs.Parse.{counts_of, pair_of, step_of, parse_line}
use Rattle.steps.specs.Grammar.{largest, CountsAre, DeviceLine, LineIs}
use Rattle.wording.specs.declared.names.Act.{Act}
use Rattle.wording.specs.declared.names.Kind.{Kind}
use Rattle.steps.specs.declared.parse.Counts.{Counts}
use Rattle.steps.specs.declared.parse.Step.{Step}
use Rattle.wording.proofs.KindNames.{name_of, name_kind}
use Rattle.steps.proofs.Words.{name_plain}
use Rattle.steps.proofs.Numbers.{number_is, pair_is}
use Rattle.steps.proofs.Counts.{fit_is, counts_is}
use Rattle.steps.proofs.Updates.{update_plain, update_is}

-- a line of at most 80 bytes that is the record of a name and other fields without commas
module _ (d : ℕ) (k : Kind) (fs : List (List ℕ)) (q : NoCommas fs) (l : List ℕ) (e : l ≡ record_of (name_of k) fs) where
  field_is : (i : ℕ) → i < length fs → field_of (suc i) l ≡ get_or fs i []
  field_is i h = ap (field_of (suc i)) e ∙ record_field (name_of k) fs (name_plain k) q i h

  line_is : length l ≤ 80 → parse_line d l ≡ step_of k d (length fs) l
  unfolding parse_line
  line_is h =
      let a : kind_of (field_of 0 l) ≡ Some k = ap kind_of (ap (field_of 0) e ∙ record_first (name_of k) fs (name_plain k)) ∙ name_kind k in
      let b : commas_of l ≡ length fs = ap commas_of e ∙ record_commas (name_of k) fs (name_plain k) q in
      rw (le-ltb 80 (length l) h, a, b)

-- the steps of two numbers
module _ (d a b : ℕ) (l : List ℕ) (h : length l ≤ 80) where
  two : NoCommas (decimal_text a ∷ decimal_text b ∷ [])
  two = (decimal_without 44 (omega arith) a, (decimal_without 44 (omega arith) b, tt))

  pair_at : (k : Kind) → l ≡ record_of (name_of k) (decimal_text a ∷ decimal_text b ∷ []) → a ≤ largest → b ≤ largest → pair_of l ≡ Some (a, b)
  pair_at k e x y = pair_is l a b (record {
    first = field_is d k (decimal_text a ∷ decimal_text b ∷ []) two l e 0 (omega arith);
    second = field_is d k (decimal_text a ∷ decimal_text b ∷ []) two l e 1 (omega arith);
    small = (x, y);
  })

  start_complete : LineIs d (Step.Start a b) l → parse_line d l ≡ Some (Step.Start a b)
  unfolding step_of
  start_complete i = line_is d Kind.Start (decimal_text a ∷ decimal_text b ∷ []) two l i.2 h ∙ rw (pair_at Kind.Start i.2 i.0 i.1)

  read_complete : LineIs d (Step.Read a b) l → parse_line d l ≡ Some (Step.Read a b)
  unfolding step_of
  read_complete i = line_is d Kind.Read (decimal_text a ∷ decimal_text b ∷ []) two l i.2 h ∙ rw (pair_at Kind.Read i.2 i.0 i.1)

  update_complete : (u : Update) → LineIs d (Step.Update a b u) l → parse_line d l ≡ Some (Step.Update a b u)
  unfolding step_of
  update_complete u i =
      let fields = i.0 in
      let fs = decimal_text a ∷ decimal_text b ∷ fields in
      let q : NoCommas fs = (decimal_without 44 (omega arith) a, (decimal_without 44 (omega arith) b, update_plain u fields i.1)) in
      let f = field_is d Kind.Update fs q l i.4 in
      let p : pair_of l ≡ Some (a, b) = pair_is l a b (record { first = f 0 (omega arith); second = f 1 (omega arith); small = (i.2, i.3) }) in
      let r : update_field_at (length fs) l ≡ Some u = update_is l (length fs) u fields i.1 (λ k g. f (suc (suc k)) (omega arith)) refl in
      line_is d Kind.Update fs q l i.4 h ∙ rw (p, r)

-- the steps of a device
device_complete : (d : ℕ) (act : Act) (v : ℕ) (l : List ℕ) → length l ≤ 80 → DeviceLine act v l → parse_line d l ≡ Some (Step.Device act v)
unfolding step_of
device_complete d act v l h i =
    let fs = decimal_text v ∷ [] in
    let q : NoCommas fs = (decimal_without 44 (omega arith) v, tt) in
    line_is d (Kind.Device act) fs q l i.1 h ∙ rw (number_is 1 l (field_is d (Kind.Device act) fs q l i.1 0 (omega arith)) i.0)

crash_complete : (d : ℕ) (l : List ℕ) → length l ≤ 80 → LineIs d Step.Crash l → parse_line d l ≡ Some Step.Crash
unfolding step_of
crash_complete d l h i = line_is d Kind.Crash [] tt l i h

-- counts
no_commas_take : (n : ℕ) (fs : List (List ℕ)) → NoCommas fs → NoCommas (take n fs)
no_commas_take zero fs q = tt
no_commas_take (suc n) [] q = tt
no_commas_take (suc n) (f ∷ fs) q = (q.0, no_commas_take n fs q.1)

no_commas_append : (fs gs : List (List ℕ)) → NoCommas fs → NoCommas gs → NoCommas (fs ++ gs)
no_commas_append [] gs p q = q
no_commas_append (f ∷ fs) gs p q = (p.0, no_commas_append fs gs p.1 q)

module _ (d : ℕ) (c : Counts) (fields : List (List ℕ)) (i : CountsAre d c fields) where
  abbrev texts : List (List ℕ)
  texts = decimal_text c.first ∷ decimal_text c.second ∷ decimal_text c.third ∷ []

  counts_plain : NoCommas fields
  counts_plain =
      subst NoCommas (sym i.text) (no_commas_take c.number texts (decimal_without 44 (omega arith) c.first, (decimal_without 44 (omega arith) c.second, (decimal_without 44 (omega arith) c.third, tt))))

  counts_length : length fields ≡ c.number
  counts_length = ap length i.text ∙ length-take-le c.number texts i.fits.1

  counts_field : (k : ℕ) → k < c.number → get_or fields k [] ≡ get_or texts k []
  counts_field k h = ap (λ (fs : List (List ℕ)). get_or fs k []) i.text ∙ get_or-take c.number texts k [] h

  -- the counts of a line whose fields from 1 on begin with theirs
  counts_at : (l : List ℕ) → ((k : ℕ) → k < c.number → field_of (suc k) l ≡ get_or fields k []) → counts_of c.number l ≡ Some c
  counts_at l f = counts_is l c
      (record { small = i.small.0; unused = λ h. absurd (omega (arith, i.fits.0)); field = λ h. f 0 (omega arith) ∙ counts_field 0 (omega arith) })
      (record { small = i.small.1; unused = λ h. i.unused.0 h; field = λ h. f 1 (omega arith) ∙ counts_field 1 (omega arith) })
      (record { small = i.small.2; unused = λ h. i.unused.1 h; field = λ h. f 2 (omega arith) ∙ counts_field 2 (omega arith) })

batch_complete : (d : ℕ) (c : Counts) (l : List ℕ) → length l ≤ 80 → LineIs d (Step.Batch c) l → parse_line d l ≡ Some (Step.Batch c)
unfolding step_of
batch_complete d c l h i =
    let fields = i.0 in
    let n = counts_length d c fields i.1 in
    let q = counts_plain d c fields i.1 in
    let r = counts_at d c fields i.1 l (λ k g. field_is d Kind.Batch fields q l i.2 k (omega (arith, n))) in
    line_is d Kind.Batch fields q l i.2 h ∙ rw (n, fit_is d c.number i.1.fits, r)

cut_complete : (d : ℕ) (c : Counts) (j : ℕ) (l : List ℕ) → length l ≤ 80 → LineIs d (Step.Cut c j) l → parse_line d l ≡ Some (Step.Cut c j)
unfolding step_of
cut_complete d c j l h i =
    let fields = i.0 in
    let last = decimal_text j ∷ [] in
    let n = counts_length d c fields i.1 in
    let q = no_commas_append fields last (counts_plain d c fields i.1) (decimal_without 44 (omega arith) j, tt) in
    let m : length (fields ++ last) ≡ suc c.number = omega (arith, length-append fields last, n) in
    let f = field_is d Kind.Cut (fields ++ last) q l i.3 in
    let r = counts_at d c fields i.1 l (λ k g. f k (omega (arith, m)) ∙ get_or-append fields last [] k (omega (arith, n))) in
    let s : number_at (suc c.number) l ≡ Some j =
    number_is (suc c.number) l (f c.number (omega (arith, m)) ∙ get_or_at fields (decimal_text j) [] [] c.number n) i.2 in
    let z : eqb (suc c.number) 0 ≡ false = ne_eqb (suc c.number) 0 (λ k. omega arith) in
    let p : suc c.number - 1 ≡ c.number = omega arith in
    line_is d Kind.Cut (fields ++ last) q l i.3 h ∙ rw (m, z, p, fit_is d c.number i.1.fits, r, s)

-- every line of a step is read as the step
pub line_complete : (d : ℕ) (s : Step) (l : List ℕ) → LineIs d s l → length l ≤ 80 → parse_line d l ≡ Some s
line_complete d (Step.Start a b) l i h = start_complete d a b l h i
line_complete d (Step.Read a b) l i h = read_complete d a b l h i
line_complete d (Step.Update a b u) l i h = update_complete d a b l h u i
line_complete d (Step.Device act v) l i h = device_complete d act v l h i
line_complete d Step.Crash l i h = crash_complete d l h i
line_complete d (Step.Batch c) l i h = batch_complete d c l h i
line_complete d (Step.Cut c j) l i h = cut_complete d c j l h i
