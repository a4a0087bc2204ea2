-- The fields of a record that is put together from texts without commas, and a record put together from its fields. Assumes nothing.
use Prim.Native.Nat.{◌<◌, ℕ, zero, suc}
use mathlib.Core.Path.{◌≡◌, refl, ap, sym, ◌∙◌}
use mathlib.Core.List.{List, [], ◌∷◌, ◌++◌}
use mathlib.Core.Bool.{Bool, true, false, cond}
use lib.ListN.{length, get_or}
use native.Mathlib.Omega.{arith}
use borrow.Author.Tests.{ne_eqb, eqb-true}
use lib.Dec.{eqb}
use Rattle.text.specs.Field.{record_of, commas_of, after_commas, up_to_comma, field_of}
use Rattle.std.specs.Prelude.{bytes_eq}
use Rattle.std.proofs.lemmas.Slice.Eq.{bytes_eq-Decides}
use Rattle.text.specs.Text.{Without}
use Rattle.text.proofs.Cases.{cond_of}

-- put together, then taken apart
after_none : (l : List ℕ) → after_commas 0 l ≡ l
unfolding after_commas
after_none l = refl

up_plain : (f : List ℕ) → Without 44 f → up_to_comma f ≡ f
unfolding up_to_comma
up_plain [] p = refl
up_plain (b ∷ f) p = rw (ne_eqb b 44 p.0) (ap (λ (t : List ℕ). b ∷ t) (up_plain f p.1))

up_cut : (f r : List ℕ) → Without 44 f → up_to_comma (f ++ 44 ∷ r) ≡ f
unfolding up_to_comma
up_cut [] r p = refl
up_cut (b ∷ f) r p = rw (ne_eqb b 44 p.0) (ap (λ (t : List ℕ). b ∷ t) (up_cut f r p.1))

after_cut : (k : ℕ) (f r : List ℕ) → Without 44 f → after_commas (suc k) (f ++ 44 ∷ r) ≡ after_commas k r
unfolding after_commas
after_cut k [] r p = refl
after_cut k (b ∷ f) r p = rw (ne_eqb b 44 p.0) (after_cut k f r p.1)

commas_plain : (f : List ℕ) → Without 44 f → commas_of f ≡ 0
unfolding commas_of
commas_plain [] p = refl
commas_plain (b ∷ f) p = rw (ne_eqb b 44 p.0) (commas_plain f p.1)

commas_cut : (f r : List ℕ) → Without 44 f → commas_of (f ++ 44 ∷ r) ≡ suc (commas_of r)
unfolding commas_of
commas_cut [] r p = refl
commas_cut (b ∷ f) r p = rw (ne_eqb b 44 p.0) (commas_cut f r p.1)

field_only : (f : List ℕ) → Without 44 f → field_of 0 f ≡ f
unfolding field_of
field_only f p = ap up_to_comma (after_none f) ∙ up_plain f p

field_first : (f r : List ℕ) → Without 44 f → field_of 0 (f ++ 44 ∷ r) ≡ f
unfolding field_of
field_first f r p = ap up_to_comma (after_none (f ++ 44 ∷ r)) ∙ up_cut f r p

field_next : (k : ℕ) (f r : List ℕ) → Without 44 f → field_of (suc k) (f ++ 44 ∷ r) ≡ field_of k r
unfolding field_of
field_next k f r p = ap up_to_comma (after_cut k f r p)

-- taken apart, then put together: behind the first comma stands rest_of
rest_of : List ℕ → List ℕ
rest_of l = after_commas 1 l

all_first : (l : List ℕ) → commas_of l ≡ 0 → l ≡ field_of 0 l
unfolding field_of commas_of up_to_comma after_commas
all_first [] e = refl
all_first (b ∷ l) e = by (eqb b 44) refl (all_first l)
  where
    by : (t : Bool) → eqb b 44 ≡ t → (commas_of l ≡ 0 → l ≡ up_to_comma l) → b ∷ l ≡ up_to_comma (b ∷ l)
    by true q ih = let z : suc (commas_of l) ≡ 0 = sym (rw q) ∙ e in absurd (omega arith)
    by false q ih =
        let z : commas_of l ≡ 0 = sym (rw q) ∙ e in
        rw q (ap (λ (t : List ℕ). b ∷ t) (ih z))

cut_first : (l : List ℕ) (n : ℕ) → commas_of l ≡ suc n → (l ≡ field_of 0 l ++ 44 ∷ rest_of l) × (commas_of (rest_of l) ≡ n)
unfolding field_of commas_of up_to_comma after_commas rest_of
cut_first [] n e = absurd (omega arith)
cut_first (b ∷ l) n e = by (eqb b 44) refl (cut_first l n)
  where
    by :
        (t : Bool)
        → eqb b 44 ≡ t
        → (commas_of l ≡ suc n → (l ≡ up_to_comma l ++ 44 ∷ after_commas 1 l) × (commas_of (after_commas 1 l) ≡ n))
        → (b ∷ l ≡ up_to_comma (b ∷ l) ++ 44 ∷ after_commas 1 (b ∷ l)) × (commas_of (after_commas 1 (b ∷ l)) ≡ n)
    by true q ih =
        let z : suc (commas_of l) ≡ suc n = sym (rw q) ∙ e in
        (rw q (ap (λ (x : ℕ). x ∷ l) (eqb-true b 44 q)), rw q (omega arith))
    by false q ih =
        let z : commas_of l ≡ suc n = sym (rw q) ∙ e in
        let i = ih z in
        (rw q (ap (λ (t : List ℕ). b ∷ t) i.0), rw q i.1)

after_after : (k : ℕ) (l : List ℕ) → after_commas (suc k) l ≡ after_commas k (after_commas 1 l)
unfolding after_commas
after_after zero l = refl
after_after (suc k) [] = refl
after_after (suc k) (b ∷ l) = by (eqb b 44) (after_after (suc k) l)
  where
    by :
        (t : Bool)
        → after_commas (suc (suc k)) l ≡ after_commas (suc k) (after_commas 1 l)
        → cond t (after_commas (suc k) l) (after_commas (suc (suc k)) l) ≡ after_commas (suc k) (cond t l (after_commas 1 l))
    by true ih = refl
    by false ih = ih

field_behind : (k : ℕ) (l : List ℕ) → field_of (suc k) l ≡ field_of k (rest_of l)
unfolding field_of rest_of
field_behind k l = ap up_to_comma (after_after k l)

-- one test of many: the text, or what the others say
pub tested : {A : Type 0} (P : A → Type 0) (f t : List ℕ) {x y : A} → P y → (f ≡ t → P x) → P (cond (bytes_eq f t) x y)
tested P f t q p = cond_of P (bytes_eq f t) (λ e. p ((bytes_eq-Decides f t).0 e)) (λ _. q)

-- n fields, from field k on
abbrev pub fields_from : ℕ → ℕ → List ℕ → List (List ℕ)
fields_from k zero l = []
fields_from k (suc n) l = field_of k l ∷ fields_from (suc k) n l

from_behind : (k n : ℕ) (l : List ℕ) → fields_from (suc k) n l ≡ fields_from k n (rest_of l)
from_behind k zero l = refl
from_behind k (suc n) l =
    ap (λ (f : List ℕ). f ∷ fields_from (suc (suc k)) n l) (field_behind k l)
    ∙ ap (λ (fs : List (List ℕ)). field_of k (rest_of l) ∷ fs) (from_behind (suc k) n l)

-- a line is the record of its fields
pub line_fields : (n : ℕ) (l : List ℕ) → commas_of l ≡ n → l ≡ record_of (field_of 0 l) (fields_from 1 n l)
unfolding record_of
line_fields zero l e = all_first l e
line_fields (suc n) l e =
    let c = cut_first l n e in
    c.0
    ∙ ap (λ (t : List ℕ). field_of 0 l ++ 44 ∷ t)
    (line_fields n (rest_of l) c.1
    ∙ ap (λ (f : List ℕ). record_of f (fields_from 1 n (rest_of l))) (sym (field_behind 0 l))
    ∙ ap (record_of (field_of 1 l)) (sym (from_behind 1 n l)))

-- texts without commas, all of them
abbrev pub NoCommas : List (List ℕ) → Type 0
NoCommas [] = Unit
NoCommas (f ∷ fs) = Without 44 f × NoCommas fs

-- the fields of a record of texts without commas are these texts
pub record_commas : (f : List ℕ) (fs : List (List ℕ)) → Without 44 f → NoCommas fs → commas_of (record_of f fs) ≡ length fs
unfolding record_of
record_commas f [] p q = commas_plain f p
record_commas f (g ∷ fs) p q = commas_cut f (record_of g fs) p ∙ ap suc (record_commas g fs q.0 q.1)

pub record_first : (f : List ℕ) (fs : List (List ℕ)) → Without 44 f → field_of 0 (record_of f fs) ≡ f
unfolding record_of
record_first f [] p = field_only f p
record_first f (g ∷ fs) p = field_first f (record_of g fs) p

pub record_field :
    (f : List ℕ) (fs : List (List ℕ)) → Without 44 f → NoCommas fs → (k : ℕ) → k < length fs → field_of (suc k) (record_of f fs) ≡ get_or fs k []
unfolding record_of
record_field f [] p q k h = absurd (omega arith)
record_field f (g ∷ fs) p q zero h = field_next 0 f (record_of g fs) p ∙ record_first g fs q.0
record_field f (g ∷ fs) p q (suc k) h = field_next (suc k) f (record_of g fs) p ∙ record_field g fs q.0 q.1 k (omega arith)
