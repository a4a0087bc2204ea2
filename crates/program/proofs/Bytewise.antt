-- Bytes are answered as the machine answers the lines that end in them. Assumes nothing.
use mathlib.Core.Path.{◌≡◌, refl, sym, ap, subst, ◌∙◌}
use mathlib.Core.Bool.{Bool, true, false, cond}
use mathlib.Core.List.{List, [], ◌∷◌, ◌++◌, append_assoc, append-nil}
use mathlib.Core.Option.{Option}
use Prim.Native.Nat.{ℕ, ◌≤◌, ◌<◌}
use native.Mathlib.Omega.{arith}
use lib.Dec.{ltb}
use lib.ListN.{length, take, set, length-set}
use Rattle.protocol.specs.declared.Refusal.TheVariants.{NoStep}
use Rattle.protocol.specs.Machine.{Table, refused}
use Rattle.sheet.specs.Sheet.{sheet}
use Rattle.lines.specs.Lines.{ends_line, next_of, ended_in, unended_after}
use Rattle.lines.specs.Held.{Held, nothing, fed_of, buffer_after}
use Rattle.lines.specs.declared.Unended.{Unended}
use Rattle.lines.specs.declared.Fed.{Fed}
use Rattle.lines.specs.declared.Fed.TheVariants.{More, Line, Long}
use Rattle.lines.proofs.Held.{held_none}
use Rattle.lines.proofs.Chunks.{unended_append, ended_append}
use Rattle.lines.proofs.Feeding.{ended_by, left_by, fed_more, fed_line, fed_long, ended_one, unended_one}
use Rattle.answers.specs.Answer.{answer_line}
use Rattle.steps.proofs.Exactly.{long_line}
use Rattle.std.specs.Prelude as std
use Rattle.steps.specs.declared.parse.Step.{Step}
use Rattle.answering.specs.Program.{Reply, asked_by, reply_to, devices_of, answer_to, answers_to, table_after}
use Rattle.stepping.specs.Bytes.{Standing, Told, held_by, ByteFed}
use Rattle.program.specs.Claims.{Holds, FedAsTheMachine, FeedsAsTheMachine}
use Rattle.program.proofs.Replies.{answers_as_the_machine}

-- lines after lines
pub answers_append : (s : Option (Table sheet)) (a b : List (List ℕ)) → answers_to s (a ++ b) ≡ answers_to s a ++ answers_to (table_after s a) b
unfolding answers_to table_after
answers_append s [] b = refl
answers_append s (line ∷ a) b =
    ap (λ (l : List ℕ). answer_line (answer_to s line).answer ++ l) (answers_append (answer_to s line).table a b)
    ∙ sym (append_assoc (answer_line (answer_to s line).answer) (answers_to (answer_to s line).table a) (answers_to (table_after (answer_to s line).table a) b))

table_append : (s : Option (Table sheet)) (a b : List (List ℕ)) → table_after s (a ++ b) ≡ table_after (table_after s a) b
unfolding table_after
table_append s [] b = refl
table_append s (line ∷ a) b = table_append (answer_to s line).table a b

-- what is told of a line k, and nothing is told of none
pub record Replied (s : Option (Table sheet)) (lines : List (List ℕ)) (text ys : List ℕ) : Type 0 where
  pub text_is : text ≡ answers_to s lines
  pub holds : Holds (table_after s lines) ys

module _ (s : Option (Table sheet)) (xs text ys : List ℕ) (H : Holds s xs) where
  pub replied_none : text ≡ [] → ys ≡ xs → Replied s [] text ys
  unfolding answers_to table_after
  replied_none e f = record { text_is = e; holds = subst (Holds s) (sym f) H }

  pub replied_line : (k : List ℕ) (n : ℕ) (buffer : List ℕ) → take n buffer ≡ k → Told (Line n) buffer xs text ys → Replied s (k ∷ []) text ys
  unfolding answers_to table_after
  replied_line k n buffer e (a, A, f) =
      let o = answers_as_the_machine s k xs a ys H (rw e at A) in
      record { text_is = f ∙ ap answer_line o.0 ∙ sym (append-nil (answer_line (answer_to s k).answer)); holds = o.1 }

  long_answer : (k : List ℕ) → 80 < length k → answer_to s k ≡ record { answer = refused NoStep; table = s }
  unfolding answer_to
  long_answer k h = ap (λ (t : std.Option Step). reply_to s (asked_by t)) (long_line (devices_of s) k h)

  pub replied_long : (k buffer : List ℕ) → 80 < length k → Told Long buffer xs text ys → Replied s (k ∷ []) text ys
  unfolding answers_to table_after
  replied_long k buffer h (e, f) = record {
    text_is = e ∙ sym (append-nil (answer_line (refused NoStep))) ∙ ap (λ (r : Reply). answer_line r.answer ++ []) (sym (long_answer k h));
    holds = subst (λ (r : Reply). Holds r.table ys) (sym (long_answer k h)) (subst (Holds s) (sym f) H);
  }

-- the buffer keeps its length
buffer_length : (buffer : List ℕ) (p : Unended) (b : ℕ) → length (buffer_after buffer p b) ≡ length buffer
unfolding buffer_after
buffer_length buffer p b = by (ends_line p.last b) (ltb p.len 81)
  where
    by : (t u : Bool) → length (cond t buffer (cond u (set buffer p.len b) buffer)) ≡ length buffer
    by true u = refl
    by false true = length-set buffer p.len b
    by false false = refl

-- one byte
module _ (s : Option (Table sheet)) (q : List ℕ) (x : Standing) (b : ℕ) (text : List ℕ) (y : Standing) (room : 81 ≤ length x.buffer) (h : Held q x.buffer x.unended) (H : Holds s x.words) (B : ByteFed x b text y) where
  pub record ByteIs : Type 0 where
    pub replied : Replied s (ended_in q (b ∷ [])) text y.words
    pub held : Held (unended_after q (b ∷ [])) y.buffer y.unended

  told : (f : Fed) → fed_of x.unended b ≡ f → Told f (buffer_after x.buffer x.unended b) x.words text y.words
  told f e = subst (λ (g : Fed). Told g (buffer_after x.buffer x.unended b) x.words text y.words) e (subst (λ (l : List ℕ). Told (fed_of x.unended b) l x.words text y.words) B.buffer B.told)

  holding : (f : Fed) → fed_of x.unended b ≡ f → Held (left_by (next_of q b)) (buffer_after x.buffer x.unended b) (held_by f) → Held (unended_after q (b ∷ [])) y.buffer y.unended
  holding f e g = rw (unended_one q b, B.buffer, B.unended, e) g

  saying : (lines : List (List ℕ)) → ended_by (next_of q b) ≡ lines → Replied s lines text y.words → Replied s (ended_in q (b ∷ [])) text y.words
  saying lines e R = subst (λ (l : List (List ℕ)). Replied s l text y.words) (sym (ended_one q b ∙ e)) R

  empty_held : left_by (next_of q b) ≡ [] → Held (left_by (next_of q b)) (buffer_after x.buffer x.unended b) nothing
  empty_held e = rw e (held_none (buffer_after x.buffer x.unended b))

  byte_by : (f : Fed) → fed_of x.unended b ≡ f → ByteIs
  byte_by (More r) e =
      let g = fed_more q x.buffer x.unended b room h r e in
      let t = told (More r) e in
      record { replied = saying [] g.none (replied_none s x.words text y.words H t.0 t.1); held = holding (More r) e g.held }
  byte_by (Line n) e =
      let g = fed_line q x.buffer x.unended b room h n e in
      record {
        replied = saying _ g.ended (replied_line s x.words text y.words H (take n (buffer_after x.buffer x.unended b)) n (buffer_after x.buffer x.unended b) refl (told (Line n) e));
        held = holding (Line n) e (empty_held g.empty);
      }
  byte_by Long e =
      let g = fed_long q x.buffer x.unended b room h e in
      record {
        replied = saying _ g.ended (replied_long s x.words text y.words H g.text (buffer_after x.buffer x.unended b) g.long (told Long e));
        held = holding Long e (empty_held g.empty);
      }

  pub byte_is : ByteIs
  byte_is = byte_by (fed_of x.unended b) refl

  byte_room : 81 ≤ length y.buffer
  byte_room = omega (arith, ap length B.buffer, buffer_length x.buffer x.unended b)

-- a byte, and then others
module _ (s : Option (Table sheet)) (q : List ℕ) (b : ℕ) (input first others text : List ℕ) (ys : List ℕ) (y : Standing) where
  and_then : text ≡ first ++ others → Replied s (ended_in q (b ∷ [])) first ys → FedAsTheMachine (table_after s (ended_in q (b ∷ []))) (unended_after q (b ∷ [])) input others y → FedAsTheMachine s q (b ∷ input) text y
  and_then e R F =
      let lines = ended_append q (b ∷ []) input in
      record {
        text_is =
            e
            ∙ ap (λ (l : List ℕ). l ++ others) R.text_is
            ∙ ap (λ (l : List ℕ). answers_to s (ended_in q (b ∷ [])) ++ l) F.text_is
            ∙ sym (answers_append s (ended_in q (b ∷ [])) (ended_in (unended_after q (b ∷ [])) input))
            ∙ ap (answers_to s) (sym lines);
        holds = subst (λ (l : List (List ℕ)). Holds (table_after s l) y.words) (sym lines) (subst (λ (t : Option (Table sheet)). Holds t y.words) (sym (table_append s (ended_in q (b ∷ [])) (ended_in (unended_after q (b ∷ [])) input))) F.holds);
        held = subst (λ (l : List ℕ). Held l y.buffer y.unended) (sym (unended_append q (b ∷ []) input)) F.held;
        room = F.room;
      }

nothing_fed : (s : Option (Table sheet)) (q : List ℕ) (x : Standing) (text : List ℕ) (y : Standing) → 81 ≤ length x.buffer → Held q x.buffer x.unended → Holds s x.words → text ≡ [] → y ≡ x → FedAsTheMachine s q [] text y
unfolding ended_in unended_after answers_to table_after
nothing_fed s q x text y room h H e f = record {
  text_is = e;
  holds = subst (λ (w : Standing). Holds s w.words) (sym f) H;
  held = subst (λ (w : Standing). Held q w.buffer w.unended) (sym f) h;
  room = subst (λ (w : Standing). 81 ≤ length w.buffer) (sym f) room;
}

-- byte after byte
pub feeds_as_the_machine : FeedsAsTheMachine
feeds_as_the_machine s q x [] text y room h H F = nothing_fed s q x text y room h H F.0 F.1
feeds_as_the_machine s q x (b ∷ input) text y room h H F =
    let B = byte_is s q x b F.first F.between room h H F.does in
    let r = byte_room s q x b F.first F.between room h H F.does in
    and_then s q b input F.first F.others text F.between.words y F.both B.replied
    (feeds_as_the_machine (table_after s (ended_in q (b ∷ []))) (unended_after q (b ∷ [])) F.between input F.others y r B.held B.replied.holds F.goes_on)
