-- The answers to bytes, one after the other, on any words and buffers. Assumes nothing.
use mathlib.Core.Path.{◌≡◌, refl, sym, ap, subst, ◌∙◌}
use mathlib.Core.List.{List, [], ◌∷◌, ◌++◌, append_assoc, append-nil}
use Prim.Native.Nat.{ℕ, ◌+◌, ◌*◌, ◌≤◌, ◌<◌}
use native.Mathlib.Omega.{arith}
use native.Mathlib.Numerals.{add-one}
use lib.ListN.{length, get_or, take, length-take}
use lib.Seq.{take_all, take-suc}
use Rattle.protocol.specs.declared.Refusal.TheVariants.{NoStep}
use Rattle.protocol.specs.Machine.{Answer, refused}
use Rattle.sheet.specs.Sheet.{sheet}
use Rattle.text.specs.Text.{Put}
use Rattle.text.proofs.PutLaws.{put_none, put_then}
use Rattle.lines.specs.Held.{fed_of, buffer_after, finish_of}
use Rattle.lines.specs.declared.Unended.{Unended}
use Rattle.lines.specs.declared.Fed.{Fed}
use Rattle.lines.specs.declared.Fed.TheVariants.{More, Line, Long}
use Rattle.lines.proofs.Held as held
use Rattle.answers.specs.Answer.{PutUpTo, answer_line}
use Rattle.answering.specs.Answered.{Answered}
use Rattle.stepping.specs.Bytes.{Standing, standing, Told, Within, held_by, ByteFed, PutTold, PutByte, BytesFed, ChunkFed, Finished}

-- a line that is told has at most 80 bytes
pub within_buffer : (fed : Fed) (buffer : List ℕ) → 80 ≤ length buffer → held.Within fed → Within fed buffer
within_buffer (More p) buffer room w = tt
within_buffer (Line n) buffer room w = omega arith
within_buffer Long buffer room w = tt

pub within_line : (fed : Fed) (buffer : List ℕ) (n : ℕ) → fed ≡ Line n → Within fed buffer → n ≤ length buffer
within_line fed buffer n e w = subst (λ (f : Fed). Within f buffer) e w

-- the three things that may be told
module _ (fed : Fed) (buffer xs out : List ℕ) (at : ℕ) where
  pub told_more : (p : Unended) → fed ≡ More p → PutTold fed buffer xs xs out at out at
  told_more p e = record {
    text = [];
    told = subst (λ (f : Fed). Told f buffer xs [] xs) (sym e) (refl, refl);
    puts = record { puts = put_none out at; within = omega arith };
  }

  pub told_line : (n : ℕ) (a : Answer sheet) (ys after : List ℕ) (next : ℕ) → fed ≡ Line n → Answered (take n buffer) xs a ys → PutUpTo 34 out at (answer_line a) after next → PutTold fed buffer xs ys out at after next
  told_line n a ys after next e A P = record {
    text = answer_line a;
    told = subst (λ (f : Fed). Told f buffer xs (answer_line a) ys) (sym e) (a, A, refl);
    puts = P;
  }

  pub told_long : (after : List ℕ) (next : ℕ) → fed ≡ Long → PutUpTo 34 out at (answer_line (refused NoStep)) after next → PutTold fed buffer xs xs out at after next
  told_long after next e P = record {
    text = answer_line (refused NoStep);
    told = subst (λ (f : Fed). Told f buffer xs (answer_line (refused NoStep)) xs) (sym e) (refl, refl);
    puts = P;
  }

-- the end of the input
pub told_end : (buffer : List ℕ) (p : Unended) (xs : List ℕ) (fed : Fed) (ys out after : List ℕ) (next : ℕ) → fed ≡ finish_of p → PutTold fed buffer xs ys out 0 after next → Finished (standing buffer p xs) out after next ys
told_end buffer p xs fed ys out after next e T = record { text = T.text; told = subst (λ (f : Fed). Told f buffer xs T.text ys) e T.told; puts = T.puts.puts }

-- one byte: fed, told and held
pub byte_put : (buffer : List ℕ) (p : Unended) (xs : List ℕ) (b : ℕ) (fed : Fed) (buffer' : List ℕ) (p' : Unended) (ys out : List ℕ) (at : ℕ) (after : List ℕ) (next : ℕ)
    → fed ≡ fed_of p b → buffer' ≡ buffer_after buffer p b → p' ≡ held_by fed → PutTold fed buffer' xs ys out at after next
    → PutByte (standing buffer p xs) b (standing buffer' p' ys) out at after next
byte_put buffer p xs b fed buffer' p' ys out at after next e f h T = record {
  text = T.text;
  fed = record {
    told = subst (λ (g : Fed). Told g buffer' xs T.text ys) e T.told;
    buffer = f;
    unended = h ∙ ap held_by e;
  };
  puts = T.puts;
}

-- one byte more
bytes_snoc : (x : Standing) (input s : List ℕ) (y : Standing) (b : ℕ) (t : List ℕ) (z : Standing) → BytesFed x input s y → ByteFed y b t z → BytesFed x (input ++ (b ∷ [])) (s ++ t) z
bytes_snoc x [] s y b t z (e, f) B = record {
  between = z;
  first = t;
  others = [];
  does = subst (λ (w : Standing). ByteFed w b t z) f B;
  goes_on = (refl, refl);
  both = ap (λ (l : List ℕ). l ++ t) e ∙ sym (append-nil t);
}
bytes_snoc x (c ∷ input) s y b t z h B = record {
  between = h.between;
  first = h.first;
  others = h.others ++ t;
  does = h.does;
  goes_on = bytes_snoc h.between input h.others y b t z h.goes_on B;
  both = ap (λ (l : List ℕ). l ++ t) h.both ∙ append_assoc h.first h.others t;
}

-- the first i bytes of a chunk
pub record Sofar (x : Standing) (input before : List ℕ) (i : ℕ) (after : List ℕ) (at : ℕ) (y : Standing) : Type 0 where
  pub text : List ℕ
  pub fed : BytesFed x (take i input) text y
  pub puts : PutUpTo (34 * i) before 0 text after at

module _ (x : Standing) (input before : List ℕ) where
  pub sofar_more : (i : ℕ) (mid : List ℕ) (m : ℕ) (y : Standing) (after : List ℕ) (at : ℕ) (z : Standing) → i < length input
      → Sofar x input before i mid m y → PutByte y (get_or input i 0) z mid m after at → Sofar x input before (i + 1) after at z
  sofar_more i mid m y after at z h S B = record {
    text = S.text ++ B.text;
    fed = subst (λ (l : List ℕ). BytesFed x l (S.text ++ B.text) z) (sym (ap (λ (n : ℕ). take n input) (add-one i) ∙ take-suc input i 0 h))
        (bytes_snoc x (take i input) S.text y (get_or input i 0) B.text z S.fed B.fed);
    puts = record {
      puts = put_then before 0 S.text mid m B.text after at S.puts.puts B.puts.puts;
      within = omega (arith, S.puts.within, B.puts.within);
    };
  }

  pub sofar_all : (i : ℕ) (all after : List ℕ) (at : ℕ) (y : Standing) → length input ≤ i → input ≡ all → Sofar x input before i after at y → ChunkFed x all before after at y
  sofar_all i all after at y h e S = record { text = S.text; fed = subst (λ (l : List ℕ). BytesFed x l S.text y) (take_all i input h ∙ e) S.fed; puts = S.puts.puts }

-- the text stands within the output buffer
text_within : (before text after : List ℕ) (at : ℕ) → Put before 0 text after at → at ≤ length after
text_within before text after at P = omega (arith, P.behind, ap length P.holds, length-take at after)

pub chunk_within : (x : Standing) (input before after : List ℕ) (at : ℕ) (y : Standing) → ChunkFed x input before after at y → at ≤ length after
chunk_within x input before after at y C = text_within before C.text after at C.puts

pub end_within : (x : Standing) (before after : List ℕ) (at : ℕ) (ys : List ℕ) → Finished x before after at ys → at ≤ length after
end_within x before after at ys F = text_within before F.text after at F.puts
