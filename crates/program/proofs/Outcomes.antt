-- No second outcome fits the program's promises. Assumes nothing.
use mathlib.Core.Path.{◌≡◌, sym, ap, subst, ◌∙◌}
use mathlib.Core.List.{List, [], ◌∷◌, ◌++◌}
use Prim.Native.Nat.{ℕ}
use Rattle.protocol.specs.declared.Refusal.TheVariants.{NoTable, OutsideAllowed}
use Rattle.protocol.specs.Fits.{Sizes}
use Rattle.protocol.specs.Machine.{Answer}
use Rattle.sheet.specs.Sheet.{sheet}
use Rattle.sheet.specs.Answer.{meaning}
use Rattle.words.specs.Layout.{DEVICES}
use Rattle.table.proofs.Once.{refused_once, either_way, given_once, one_start, does_once}
use Rattle.text.specs.Text.{Put}
use Rattle.text.proofs.PutLaws.{put_once}
use Rattle.lines.specs.Held.{fed_of, finish_of}
use Rattle.lines.specs.declared.Fed.{Fed}
use Rattle.lines.specs.declared.Fed.TheVariants.{More, Line, Long}
use Rattle.steps.specs.Parse.{parse_line}
use Rattle.answers.specs.Answer.{answer_line}
use Rattle.answering.specs.Program.{asked_by}
use Rattle.answering.specs.Answered.{Small, StartedSmall}
use Rattle.stepping.specs.Bytes.{Standing, Told, ByteFed, BytesFed}
use Rattle.program.specs.Claims.{OneAnswer, OneAnswerGiven, OneChunk, OneEnd}
use lib.ListN.{get_or, take}

module _ (xs : List ℕ) (a b : Answer sheet) (ys zs : List ℕ) where
  start_once : (devices cells : ℕ) → StartedSmall devices cells xs a ys → StartedSmall devices cells xs b zs → (a ≡ b) × (ys ≡ zs)
  start_once devices cells A B = either_way (Sizes devices cells) a b ys zs
      (λ z. either_way (Small devices cells) a b ys zs (λ m. one_start devices cells xs ys zs a b (A.begun z m) (B.begun z m)) (λ n. refused_once NoTable xs ys zs a b (A.large z n) (B.large z n)))
      (λ n. refused_once OutsideAllowed xs ys zs a b (A.outside n) (B.outside n))

pub one_answer : OneAnswer
one_answer line xs a b ys zs A B = does_once StartedSmall xs ys zs a b (start_once xs a b ys zs) (asked_by (parse_line (get_or xs DEVICES 0) line)) A B

pub one_answer_given : OneAnswerGiven
one_answer_given line xs r q ys zs A B = given_once r q ys zs (one_answer line xs (meaning r) (meaning q) ys zs A B)

-- what is told of a byte, and at the end
told_once : (f : Fed) (buffer xs s ys t zs : List ℕ) → Told f buffer xs s ys → Told f buffer xs t zs → (s ≡ t) × (ys ≡ zs)
told_once (More p) buffer xs s ys t zs A B = (A.0 ∙ sym B.0, A.1 ∙ sym B.1)
told_once (Line n) buffer xs s ys t zs (a, A, e) (b, B, f) =
    let o = one_answer (take n buffer) xs a b ys zs A B in
    (e ∙ ap answer_line o.0 ∙ sym f, o.1)
told_once Long buffer xs s ys t zs A B = (A.0 ∙ sym B.0, A.1 ∙ sym B.1)

byte_once : (x : Standing) (b : ℕ) (s : List ℕ) (y : Standing) (t : List ℕ) (z : Standing) → ByteFed x b s y → ByteFed x b t z → (s ≡ t) × (y ≡ z)
byte_once x b s y t z A B =
    let e : z.buffer ≡ y.buffer = B.buffer ∙ sym A.buffer in
    let p : y.unended ≡ z.unended = A.unended ∙ sym B.unended in
    let o = told_once (fed_of x.unended b) y.buffer x.words s y.words t z.words A.told (subst (λ (l : List ℕ). Told (fed_of x.unended b) l x.words t z.words) e B.told) in
    (o.0, λ i. record { buffer = sym e i; unended = p i; words = o.1 i })

bytes_once : (x : Standing) (input s : List ℕ) (y : Standing) (t : List ℕ) (z : Standing) → BytesFed x input s y → BytesFed x input t z → (s ≡ t) × (y ≡ z)
bytes_once x [] s y t z A B = (A.0 ∙ sym B.0, A.1 ∙ sym B.1)
bytes_once x (b ∷ input) s y t z A B =
    let o = byte_once x b A.first A.between B.first B.between A.does B.does in
    let p = bytes_once A.between input A.others y B.others z A.goes_on (subst (λ (w : Standing). BytesFed w input B.others z) (sym o.1) B.goes_on) in
    (A.both ∙ ap (λ (l : List ℕ). l ++ A.others) o.0 ∙ ap (λ (l : List ℕ). B.first ++ l) p.0 ∙ sym B.both, p.1)

put_same : (before s after : List ℕ) (at : ℕ) (t after' : List ℕ) (at' : ℕ) → s ≡ t → Put before 0 s after at → Put before 0 t after' at' → (after ≡ after') × (at ≡ at')
put_same before s after at t after' at' e P Q = put_once before 0 t after at after' at' (subst (λ (l : List ℕ). Put before 0 l after at) e P) Q

pub one_chunk : OneChunk
one_chunk x input before after after' at at' y z A B =
    let o = bytes_once x input A.text y B.text z A.fed B.fed in
    let p = put_same before A.text after at B.text after' at' o.0 A.puts B.puts in
    (p.0, p.1, o.1)

pub one_end : OneEnd
one_end x before after after' at at' ys zs A B =
    let o = told_once (finish_of x.unended) x.buffer x.words A.text ys B.text zs A.told B.told in
    let p = put_same before A.text after at B.text after' at' o.0 A.puts B.puts in
    (p.0, p.1, o.1)
