-- The claims of specs/Claims.antt, each proved (`OneText` in WholeText.antt). Assumes nothing.
use mathlib.Core.List.{List, [], ◌++◌, ◌∷◌, append_assoc}
use mathlib.Core.Logic.{◌⊎◌, ⊎_elim}
use mathlib.Core.Path.{◌∙◌, ◌≡◌, ap, refl, sym}
use Prim.Native.Nat.{◌<◌, ◌≤◌, ℕ}
use native.Mathlib.Decide.{dec_le}
use native.Mathlib.Omega.{arith}
use lib.ListN.{drop, get_or, length, take}
use lib.Seq.{take_at}
use Rattle.std.specs.Prelude.{Ok}
use Rattle.cells.specs.declared.Cell.{Cell}
use Rattle.protocol.specs.Machine.{length_is, refused, Answer}
use Rattle.protocol.specs.Machine as machine
use Rattle.protocol.specs.declared.Refusal.TheVariants.{BufferShort, NoImage}
use Rattle.sheet.specs.Sheet.{sheet}
use Rattle.sheet.specs.Answer.{meaning}
use Rattle.sheet.specs.declared.Answer.TheVariants.{Length}
use Rattle.sheet.proofs.OneAnswer.{meaning_one}
use Rattle.words.proofs.Places.{lt_or_ge}
use Rattle.text.specs.Field.{record_of}
use Rattle.text.specs.Text.{Put}
use Rattle.text.proofs.PutLaws.{put_once}
use Rattle.record.proofs.Once.{stable}
use Rattle.table.proofs.Once.{either_way, given_once, refused_once}
use Rattle.answers.specs.Answer.{answer_line, answer_text}
use Rattle.cbor.specs.Code.{each}
use Rattle.coding.specs.Image.{Allowed, image_of}
use Rattle.image.specs.Promise.{Stores}
use Rattle.image.proofs.Theorems.{Image, length_refused, none, one_length}
use Rattle.imaging.specs.Claims.{OneComposingGiven, ShownComposedGiven}
use Rattle.imaging.specs.Claims.{ComposedShown, ComposingAlwaysAnswers, OneComposing, OneShowing, RefusedShown, ShownComposed}
use Rattle.imaging.specs.Composed.{Composed, NotText}
use Rattle.listing.specs.Shown.{cell_line, image_text, number_line}
use Rattle.imaging.proofs.WholeText.{cell_first}

buffer_image : (m : machine.Answer sheet) → m ≡ refused BufferShort → m ≡ refused NoImage → ⊥
buffer_image m p q = let z : ◌≡◌ {A = ℕ} 0 1 = cc in omega arith

room : (old image : List ℕ) → (length old < length image) ⊎ (length image ≤ length old)
room old image = lt_or_ge (length old) (length image)

pub composing_answers : ComposingAlwaysAnswers
composing_answers t old new a C = record {
  compose_12 = (λ e cs ns ok q. ⊎_elim (λ l. buffer_image _ ((C.stores cs ns ok q).short l).number e) (λ g. length_refused _ _ _ ((C.stores cs ns ok q).answer g) e) (room old (image_of cs ns)), λ n. (C.no_text n).number);
  compose_11 = λ cs ns ok q. (λ e. ⊎_elim (λ l. l) (λ g. absurd (length_refused _ _ _ ((C.stores cs ns ok q).answer g) e)) (room old (image_of cs ns)), λ l. ((C.stores cs ns ok q).short l).number);
  compose_length = λ cs ns ok q. (λ e. ⊎_elim (λ l. absurd (length_refused _ _ _ e ((C.stores cs ns ok q).short l).number)) (λ g. g) (room old (image_of cs ns)), λ g. (C.stores cs ns ok q).answer g);
}

-- A text that was put at the buffer's front stands there.
put_front : {before t after : List ℕ} {r : ℕ} → Put before 0 t after r → take r after ≡ t
put_front P = P.holds

pub shown_composed : ShownComposed
shown_composed cells numbers before after old new r a ok S C g =
    let T = C.stores cells numbers ok (put_front (S.text cells numbers ok refl)) in
    (T.answer g, T.after g)

pub shown_composed_given : ShownComposedGiven
shown_composed_given cells numbers before after old new n r ok S C g =
    let o = shown_composed cells numbers before after old new n (meaning r) ok S C g in
    (meaning_one r (Ok (Length (length (image_of cells numbers)))) o.0, o.1)

-- The text is that of an image.
abbrev Text : List ℕ → Type 0
Text t = (cells : List Cell) × (numbers : List ℕ) × Allowed cells numbers × (t ≡ image_text cells numbers)

no_text : (t : List ℕ) → (Text t → ⊥) → NotText t
no_text t n cells numbers ok e = n (cells, numbers, ok, e)

pub composed_shown : ComposedShown
composed_shown t old new a n before after r C e S = (either_way (Text t) a a (take r after) t
    (λ p. (refl, text p))
    (λ m. absurd (length_refused _ _ _ e (C.no_text (no_text t m)).number))).1
  where
    text : Text t → take r after ≡ t
    text p =
        let T = C.stores p.0 p.1 p.2 p.3 in
        let h = ⊎_elim (λ l. absurd (length_refused _ _ _ e (T.short l).number)) (λ k. k) (room old (image_of p.0 p.1)) in
        let front = ap (take n) (T.after h) ∙ take_at (image_of p.0 p.1) (drop (length (image_of p.0 p.1)) old) n (sym (one_length _ _ _ e (T.answer h))) in
        put_front (S.text p.0 p.1 p.2 front) ∙ sym p.3

-- An image's text begins with a cell's line, and `refused` with no cell's first byte.
refused_first : get_or (answer_line (refused NoImage)) 0 0 ≡ 114
unfolding answer_line answer_text record_of
refused_first = refl

text_first : (cs : List Cell) (ns : List ℕ) → 1 ≤ length cs → get_or (image_text cs ns) 0 0 < 110
unfolding image_text each
text_first [] ns h = absurd (omega arith)
text_first (c ∷ cs) ns h =
    omega (arith, cell_first c (each cell_line cs ++ each number_line ns), ap (λ (l : List ℕ). get_or l 0 0) (append_assoc (cell_line c) (each cell_line cs) (each number_line ns)))

pub refused_shown : RefusedShown
refused_shown bytes before after r n S cs ns ok e =
    omega (arith, ap (λ (l : List ℕ). get_or l 0 0) (sym (put_front (S.no_image n)) ∙ e), refused_first, text_first cs ns ok.sheet.count.0)

pub one_showing : OneShowing
one_showing bytes before after other r q A B =
    let o = either_way (Image bytes) (length_is r) (length_is q) after other
    (λ p. told (put_once before 0 _ after r other q (A.text p.0 p.1 p.2 p.3) (B.text p.0 p.1 p.2 p.3)))
    (λ n. told (put_once before 0 _ after r other q (A.no_image (none bytes n)) (B.no_image (none bytes n)))) in
    (o.1, lengths r q o.0)
  where
    told : (after ≡ other) × (r ≡ q) → (◌≡◌ {A = Answer sheet} (length_is r) (length_is q)) × (after ≡ other)
    told p = (ap length_is p.1, p.0)

    lengths : (m n : ℕ) → ◌≡◌ {A = Answer sheet} (length_is m) (length_is n) → m ≡ n
    lengths m n e = cc

pub one_composing : OneComposing
one_composing t old new other a b A B = either_way (Text t) a b new other
    (λ p. stored (A.stores p.0 p.1 p.2 p.3) (B.stores p.0 p.1 p.2 p.3))
    (λ n. refused_once NoImage old new other a b (A.no_text (no_text t n)) (B.no_text (no_text t n)))
  where
    stored : {image : List ℕ} → Stores image old a new → Stores image old b other → (a ≡ b) × (new ≡ other)
    stored {image} M N = ⊎_elim
        (λ l. refused_once BufferShort old new other a b (M.short l) (N.short l))
        (λ g. (M.answer g ∙ sym (N.answer g), M.after g ∙ sym (N.after g)))
        (room old image)

pub one_composing_given : OneComposingGiven
one_composing_given t old new other r q A B = given_once r q new other (one_composing t old new other (meaning r) (meaning q) A B)

-- The length that composing answers is within the buffer.
pub composed_within : (t old new : List ℕ) (a : Answer sheet) (k : ℕ) → Composed t old a new → a ≡ length_is k → k ≤ length old
composed_within t old new a k C e = stable (dec_le k (length old)) (λ n. length_refused _ _ _ e (C.no_text (no_text t (λ p. n (text p)))).number)
  where
    text : Text t → k ≤ length old
    text p =
        let T = C.stores p.0 p.1 p.2 p.3 in
        ⊎_elim (λ l. absurd (length_refused _ _ _ e (T.short l).number)) (λ g. omega (arith, one_length _ _ _ e (T.answer g))) (room old (image_of p.0 p.1))
