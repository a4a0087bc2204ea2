-- The whole of an input is answered as the machine answers its lines, however it arrives. Assumes nothing.
use mathlib.Core.Path.{◌≡◌, sym, ap, subst, ◌∙◌}
use mathlib.Core.List.{List, [], ◌∷◌, ◌++◌, append_assoc}
use mathlib.Core.Option.{Option, none}
use Prim.Native.Nat.{ℕ}
use native.Mathlib.Omega.{arith}
use borrow.Author.Tests.{ne_eqb}
use lib.ListN.{length, take}
use Rattle.protocol.specs.Machine.{Table}
use Rattle.sheet.specs.Sheet.{sheet}
use Rattle.lines.specs.Lines.{ended_in, unended_after, lines_of, last_line}
use Rattle.lines.specs.Held.{Held, nothing, LastIs, finish_of}
use Rattle.lines.specs.declared.Fed.{Fed}
use Rattle.lines.specs.declared.Fed.TheVariants.{More, Line, Long}
use Rattle.lines.proofs.Held.{held_none, last_is}
use Rattle.answering.specs.Program.{answers_to, table_after, output_of}
use Rattle.stepping.specs.Bytes.{Standing, standing, Told, BytesFed, ChunksFed}
use Rattle.program.specs.Claims.{Holds, FedAsTheMachine, AnswersAChunk, whole, WholeProgram, HoweverItArrives}
use Rattle.program.proofs.Bytewise.{answers_append, Replied, replied_none, replied_line, replied_long, feeds_as_the_machine}

-- the text at the front of the output buffer
pub answers_a_chunk : AnswersAChunk
answers_a_chunk s q x input before after at y room h H C =
    let F = feeds_as_the_machine s q x input C.text y room h H C.fed in
    let e : take at after ≡ C.text = C.puts.holds in
    record { answers = e ∙ F.text_is; behind = C.puts.kept; then_is = subst (λ (l : List ℕ). FedAsTheMachine s q input l y) (sym e) F }

-- chunk after chunk is byte after byte
bytes_append : (x : Standing) (a s : List ℕ) (y : Standing) (b t : List ℕ) (z : Standing) → BytesFed x a s y → BytesFed y b t z → BytesFed x (a ++ b) (s ++ t) z
bytes_append x [] s y b t z (e, f) B = subst (λ (w : Standing). BytesFed w b (s ++ t) z) f (subst (λ (l : List ℕ). BytesFed y b l z) (ap (λ (l : List ℕ). l ++ t) (sym e)) B)
bytes_append x (c ∷ a) s y b t z A B = record {
  between = A.between;
  first = A.first;
  others = A.others ++ t;
  does = A.does;
  goes_on = bytes_append A.between a A.others y b t z A.goes_on B;
  both = ap (λ (l : List ℕ). l ++ t) A.both ∙ append_assoc A.first A.others t;
}

chunks_bytes : (x : Standing) (chunks : List (List ℕ)) (text : List ℕ) (y : Standing) → ChunksFed x chunks text y → BytesFed x (whole chunks) text y
chunks_bytes x [] text y C = C
chunks_bytes x (chunk ∷ chunks) text y C = subst (λ (l : List ℕ). BytesFed x (chunk ++ whole chunks) l y) (sym C.both) (bytes_append x chunk C.first C.between (whole chunks) C.others y C.does (chunks_bytes C.between chunks C.others y C.goes_on))

-- the end of the input
module _ (s : Option (Table sheet)) (q : List ℕ) (x : Standing) (text ys : List ℕ) (h : Held q x.buffer x.unended) (H : Holds s x.words) where
  one_line : (length q ≡ 0 → ⊥) → last_line q ≡ q ∷ []
  one_line n = rw (ne_eqb (length q) 0 n)

  replied_at : (f : Fed) → LastIs q f x.buffer → Told f x.buffer x.words text ys → Replied s (last_line q) text ys
  replied_at (More p) e T = rw e (replied_none s x.words text ys H T.0 T.1)
  replied_at (Line n) e T = subst (λ (l : List (List ℕ)). Replied s l text ys) (sym (one_line (λ z. omega (arith, e.0, e.1)))) (replied_line s x.words text ys H q n x.buffer e.3 T)
  replied_at Long e T = subst (λ (l : List (List ℕ)). Replied s l text ys) (sym (one_line (λ z. omega arith))) (replied_long s x.words text ys H q x.buffer e T)

  end_is : Told (finish_of x.unended) x.buffer x.words text ys → Replied s (last_line q) text ys
  end_is T = replied_at (finish_of x.unended) (last_is q x.buffer x.unended h) T

pub whole_program : WholeProgram
unfolding output_of lines_of
whole_program buffer xs chunks text y last ys room long e C T =
    let input = whole chunks in
    let F = feeds_as_the_machine none [] (standing buffer nothing xs) input text y room (held_none buffer) (e, long) (chunks_bytes (standing buffer nothing xs) chunks text y C) in
    let E = end_is (table_after none (ended_in [] input)) (unended_after [] input) y last ys F.held F.holds T in
    ap (λ (l : List ℕ). l ++ last) F.text_is
    ∙ ap (λ (l : List ℕ). answers_to none (ended_in [] input) ++ l) E.text_is
    ∙ sym (answers_append none (ended_in [] input) (last_line (unended_after [] input)))

pub however_it_arrives : HoweverItArrives
however_it_arrives buffer xs chunks chunks' text text' y y' last last' ys ys' room long e w C T C' T' =
    whole_program buffer xs chunks text y last ys room long e C T
    ∙ ap output_of w
    ∙ sym (whole_program buffer xs chunks' text' y' last' ys' room long e C' T')
