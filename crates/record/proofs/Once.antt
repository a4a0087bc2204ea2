-- What is promised of words on places and of a record leaves one outcome. Assumes nothing.
use mathlib.Core.Path.{◌≡◌, refl, sym, ap, ◌∙◌}
use mathlib.Core.Bool.{Bool, true, false}
use mathlib.Core.List.{List}
use Prim.Native.Nat.{ℕ, ◌+◌, ◌*◌, ◌-◌, ◌≤◌, ◌<◌}
use native.Mathlib.Decide.{ℕ_discrete}
use native.Mathlib.Omega.{arith}
use lib.ListN.{length, get_or}
use lib.Seq.{ext_get_or}
use Rattle.cells.specs.declared.Cell.{Cell}
use Rattle.protocol.specs.Machine.{Device, Local, answer_of, Answer}
use Rattle.sheet.specs.Sheet.{sheet}
use Rattle.sheet.specs.Answer.{Given, meaning}
use Rattle.sheet.proofs.OneAnswer.{meaning_one}
use Rattle.words.specs.Layout.{TAKEN}
use Rattle.words.specs.Place.{Place, Put, Filled, Numbers, Decides}
use Rattle.record.specs.Reading.{device_of}
use Rattle.record.specs.Valid.{InUse, ValidRecord}
use Rattle.record.specs.Begun.{Begun}
use Rattle.record.specs.Did.{Did, Tells}
use Rattle.record.proofs.Same.{places_filled}
use Rattle.record.proofs.One.{One, places_words}
use Rattle.record.proofs.OneRecord.{record_words}

-- What is not unequal is equal, where equality is decided.
pub stable : {P : Type 0} → Dec P → ((P → ⊥) → ⊥) → P
stable (yes p) n = p
stable (no q) n = absurd (n q)

-- Two outcomes of xs, each of which says which words it stores, and keeps the others: if what either stores stands in both, they are one.
pub words_once : (xs ys zs : List ℕ) (Y Z : ℕ → Type 0) → length ys ≡ length zs
    → ((i : ℕ) → Y i → get_or ys i 0 ≡ get_or zs i 0) → ((i : ℕ) → Z i → get_or zs i 0 ≡ get_or ys i 0)
    → ((i : ℕ) → (Y i → ⊥) → get_or ys i 0 ≡ get_or xs i 0) → ((i : ℕ) → (Z i → ⊥) → get_or zs i 0 ≡ get_or xs i 0)
    → ys ≡ zs
words_once xs ys zs Y Z l y z p q = ext_get_or 0 ys zs l (λ i h. stable (ℕ_discrete (get_or ys i 0) (get_or zs i 0)) (λ n. n (p i (λ a. n (y i a)) ∙ sym (q i (λ b. n (sym (z i b)))))))

-- The words from o on up to e.
abbrev Span : ℕ → ℕ → ℕ → Type 0
Span o e i = (o ≤ i) × (i < e)

pub decides_once : (P : Type 0) (a b : Bool) → Decides a P → Decides b P → a ≡ b
decides_once P true true A B = refl
decides_once P true false A B = absurd (B.never refl (A.sure refl))
decides_once P false true A B = absurd (A.never refl (B.sure refl))
decides_once P false false A B = refl

pub put_once : (P : Place) → One P → (xs ys zs : List ℕ) (o : ℕ) (v : P.Holds) → length ys ≡ length zs → Put P xs ys o v → Put P xs zs o v → ys ≡ zs
put_once P W xs ys zs o v l A B = words_once xs ys zs (Span o (o + P.width)) (Span o (o + P.width)) l
    (λ i s. same ys zs A B i s.0 s.1)
    (λ i s. same zs ys B A i s.0 s.1)
    (λ i s. A.kept i (λ g h. s (g, h)))
    (λ i s. B.kept i (λ g h. s (g, h)))
  where
    same : (ys zs : List ℕ) → Put P xs ys o v → Put P xs zs o v → (i : ℕ) → o ≤ i → i < o + P.width → get_or ys i 0 ≡ get_or zs i 0
    same ys zs A B i g h =
        let at : o + (i - o) ≡ i = omega arith in
        rw (sym at) (W.words ys zs o A.valid B.valid (A.is ∙ sym B.is) (i - o) (omega arith))

pub filled_once : (P : Place) → One P → (past : P.Holds) (xs ys zs : List ℕ) (o n : ℕ) (f : ℕ → P.Holds) → length ys ≡ length zs → Filled P xs ys o n f → Filled P xs zs o n f → ys ≡ zs
filled_once P W past xs ys zs o n f l A B =
    let e = places_filled P past n xs ys o f A ∙ sym (places_filled P past n xs zs o f B) in
    words_once xs ys zs (Span o (o + P.width * n)) (Span o (o + P.width * n)) l
    (λ i s. places_words P W past n ys zs o A.valid B.valid e i s.0 s.1)
    (λ i s. places_words P W past n zs ys o B.valid A.valid (sym e) i s.0 s.1)
    (λ i s. A.kept i (λ g h. s (g, h)))
    (λ i s. B.kept i (λ g h. s (g, h)))

pub numbers_once : (xs ys zs : List ℕ) (o n : ℕ) (f : ℕ → ℕ) → length ys ≡ length zs → Numbers xs ys o n f → Numbers xs zs o n f → ys ≡ zs
numbers_once xs ys zs o n f l A B = words_once xs ys zs (Span o (o + n)) (Span o (o + n)) l
    (λ i s. same ys zs A B i s.0 s.1)
    (λ i s. same zs ys B A i s.0 s.1)
    (λ i s. A.kept i (λ g h. s (g, h)))
    (λ i s. B.kept i (λ g h. s (g, h)))
  where
    same : (ys zs : List ℕ) → Numbers xs ys o n f → Numbers xs zs o n f → (i : ℕ) → o ≤ i → i < o + n → get_or ys i 0 ≡ get_or zs i 0
    same ys zs A B i g h =
        let at : o + (i - o) ≡ i = omega arith in
        rw (sym at) (A.is (i - o) (omega arith) ∙ sym (B.is (i - o) (omega arith)))

-- Two records that say the same of one device.
pub record_once : (devices cells : ℕ) (xs ys zs : List ℕ) → length ys ≡ length zs → ValidRecord devices cells ys → ValidRecord devices cells zs
    → get_or ys TAKEN 0 ≡ get_or zs TAKEN 0 → device_of devices cells ys ≡ device_of devices cells zs
    → ((i : ℕ) → (InUse devices cells ys i → ⊥) → get_or ys i 0 ≡ get_or xs i 0) → ((i : ℕ) → (InUse devices cells zs i → ⊥) → get_or zs i 0 ≡ get_or xs i 0)
    → ys ≡ zs
record_once devices cells xs ys zs l Y Z t e = words_once xs ys zs (InUse devices cells ys) (InUse devices cells zs) l
    (record_words devices cells ys zs Y Z t e)
    (record_words devices cells zs ys Z Y (sym t) (sym e))

pub begun_once : (cells : ℕ) (known : ℕ → Cell) (number : ℕ) (xs ys zs : List ℕ) → length ys ≡ length zs → Begun cells known number xs ys → Begun cells known number xs zs → ys ≡ zs
begun_once cells known number xs ys zs l A B =
    record_once 0 cells xs ys zs l (A.valid 0) (B.valid 0) (A.taken ∙ sym B.taken) (A.says 0 ∙ sym (B.says 0)) (A.kept 0) (B.kept 0)

pub did_once : (devices cells : ℕ) (f : Device sheet → Local sheet) (xs ys zs : List ℕ) (a b : Answer sheet) → length ys ≡ length zs → Did devices cells f xs a ys → Did devices cells f xs b zs → (a ≡ b) × (ys ≡ zs)
did_once devices cells f xs ys zs a b l A B = (
  (A.answer ∙ sym B.answer),
  record_once devices cells xs ys zs l A.valid B.valid (A.taken ∙ sym B.taken) (A.after ∙ sym B.after) A.kept B.kept,
)

pub tells_once : (devices cells : ℕ) (f : Device sheet → Local sheet) (xs : List ℕ) (a b : Answer sheet) → Tells devices cells f xs a → Tells devices cells f xs b → a ≡ b
tells_once devices cells f xs a b A B = (ap (answer_of sheet) (sym A ∙ B))

-- The same of what is given.
pub did_given_once : (devices cells : ℕ) (f : Device sheet → Local sheet) (xs ys zs : List ℕ) (r q : Given) → length ys ≡ length zs
    → Did devices cells f xs (meaning r) ys → Did devices cells f xs (meaning q) zs → (r ≡ q) × (ys ≡ zs)
did_given_once devices cells f xs ys zs r q l A B = let o = did_once devices cells f xs ys zs (meaning r) (meaning q) l A B in (meaning_one r q o.0, o.1)

pub tells_given_once : (devices cells : ℕ) (f : Device sheet → Local sheet) (xs : List ℕ) (r q : Given)
    → Tells devices cells f xs (meaning r) → Tells devices cells f xs (meaning q) → r ≡ q
tells_given_once devices cells f xs r q A B = meaning_one r q (tells_once devices cells f xs (meaning r) (meaning q) A B)
