-- When the program refuses a line of its own accord, and that a refusal keeps the table. Assumes nothing.
use mathlib.Core.Path.{◌≡◌, refl, sym, ap, subst, ◌∙◌}
use mathlib.Core.Bool.{Bool, true, false, false≢true}
use mathlib.Core.Logic.{◌⊎◌, inl, inr}
use mathlib.Core.List.{List}
use mathlib.Core.Option.{Option, none, some}
use Prim.Native.Nat.{ℕ}
use native.Mathlib.Omega.{arith}
use Rattle.protocol.specs.declared.Refusal.{Refusal}
use Rattle.protocol.specs.declared.Refusal.TheVariants.{NoTable, OutsideAllowed, NoStep}
use Rattle.protocol.specs.Machine.{Table, Answer, refused, done, step}
use Rattle.protocol.specs.Machine as machine
use Rattle.protocol.specs.Fits.{Sizes}
use Rattle.sheet.specs.Sheet.{sheet}
use Rattle.sheet.proofs.Theorem.{refusal_changes_nothing}
use Rattle.sheet.proofs.OneAnswer.{done_refused}
use Rattle.std.specs.Prelude as std
use Rattle.steps.specs.Grammar.{LineOf}
use Rattle.steps.specs.Parse.{parse_line}
use Rattle.steps.specs.declared.parse.Step.{Step}
use Rattle.steps.proofs.Exactly.{is_step, step_is, no_step_is, none_step}
use Rattle.table.specs.Asked.{Asked, no_step, start, machine_step}
use Rattle.answering.specs.Program.{Reply, asked, asked_by, allowed, small, start_from, step_from, reply_to, devices_of, answer_to}
use Rattle.answering.specs.Answered.{Small}
use Rattle.program.specs.Claims.{RefusalKeepsTheTable, Refusals, RefusedExactlyWhen}
use Rattle.program.proofs.Replies.{sizes_of, of_sizes, small_of, of_small}
use Rattle.sheet.proofs.MachineAnswers.{is_answer, step_answers}

-- the machine's refusals are not the program's
not_machine : (m : machine.Step sheet) (t : Table sheet) (a : Answer sheet) → is_answer a ≡ false → (step sheet m t).answer ≡ a → ⊥
not_machine m t a f e = false≢true (sym f ∙ ap is_answer (sym e) ∙ step_answers m t)

-- what a step asks for, read backwards
module _ (devices cells : ℕ) where
  not_start : (m : machine.Step sheet) → machine_step m ≡ start devices cells → ⊥
  not_start m e = let z : ◌≡◌ {A = ℕ} 0 1 = cc in omega arith

  none_start : no_step ≡ start devices cells → ⊥
  none_start e = let z : ◌≡◌ {A = ℕ} 0 1 = cc in omega arith

  is_start : (t : Step) → asked t ≡ start devices cells → t ≡ Step.Start devices cells
  is_start (Step.Start a b) e = cc
  is_start (Step.Update a b u) e = absurd (not_start _ e)
  is_start (Step.Read a b) e = absurd (not_start _ e)
  is_start (Step.Device act a) e = absurd (not_start _ e)
  is_start Step.Crash e = absurd (not_start _ e)
  is_start (Step.Batch a) e = absurd (not_start _ e)
  is_start (Step.Cut a b) e = absurd (not_start _ e)

not_none : (m : machine.Step sheet) → machine_step m ≡ no_step → ⊥
not_none m e = let z : ◌≡◌ {A = ℕ} 0 1 = cc in omega arith

no_step_asked : (t : Step) → asked t ≡ no_step → ⊥
no_step_asked (Step.Start a b) e = none_start a b (sym e)
no_step_asked (Step.Update a b u) e = not_none _ e
no_step_asked (Step.Read a b) e = not_none _ e
no_step_asked (Step.Device act a) e = not_none _ e
no_step_asked Step.Crash e = not_none _ e
no_step_asked (Step.Batch a) e = not_none _ e
no_step_asked (Step.Cut a b) e = not_none _ e

is_none : (o : std.Option Step) → asked_by o ≡ no_step → o ≡ std.None
is_none (std.Some t) e = absurd (no_step_asked t e)
is_none std.None e = refl

is_step_asked : (o : std.Option Step) (a : Asked) → (a ≡ no_step → ⊥) → asked_by o ≡ a → (t : Step) × (o ≡ std.Some t) × (asked t ≡ a)
is_step_asked (std.Some t) a n e = (t, refl, e)
is_step_asked std.None a n e = absurd (n (sym e))

-- the three ways in which a start ends
module _ (s : Option (Table sheet)) (devices cells : ℕ) where
  pub data Ends (r : Reply) : Type 0 where
    begins : Sizes devices cells → Small devices cells → r.answer ≡ done → Ends r
    is_large : Sizes devices cells → (Small devices cells → ⊥) → r ≡ record { answer = refused NoTable; table = s } → Ends r
    is_outside : (Sizes devices cells → ⊥) → r ≡ record { answer = refused OutsideAllowed; table = s } → Ends r

  ends : Ends (start_from s devices cells)
  unfolding start_from
  ends = by (allowed devices cells) refl (small devices cells) refl
    where
      by : (t : Bool) → allowed devices cells ≡ t → (u : Bool) → small devices cells ≡ u → Ends (start_from s devices cells)
      by true e true f = begins (sizes_of devices cells e) (small_of devices cells f) (rw (e, f))
      by true e false f = is_large (sizes_of devices cells e) (λ m. false≢true (sym f ∙ of_small devices cells m)) (rw (e, f))
      by false e u f = is_outside (λ z. false≢true (sym e ∙ of_sizes devices cells z)) (rw e)

-- answers that are not the same
case1_not_2 : (a : Answer sheet) → a ≡ refused NoTable → a ≡ refused OutsideAllowed → ⊥
case1_not_2 a e f = let z : ◌≡◌ {A = ℕ} 0 1 = cc in omega arith

case1_not_13 : (a : Answer sheet) → a ≡ refused NoTable → a ≡ refused NoStep → ⊥
case1_not_13 a e f = let z : ◌≡◌ {A = ℕ} 0 1 = cc in omega arith

case2_not_13 : (a : Answer sheet) → a ≡ refused OutsideAllowed → a ≡ refused NoStep → ⊥
case2_not_13 a e f = let z : ◌≡◌ {A = ℕ} 0 1 = cc in omega arith

-- a step of the machine is refused 1 before a start, and 2 and 13 never
step_1 : (s : Option (Table sheet)) (m : machine.Step sheet) → (step_from s m).answer ≡ refused NoTable → s ≡ none
step_1 none m e = refl
step_1 (some t) m e = absurd (not_machine m t (refused NoTable) refl e)

step_2 : (s : Option (Table sheet)) (m : machine.Step sheet) → (step_from s m).answer ≡ refused OutsideAllowed → ⊥
step_2 none m e = case1_not_2 (refused NoTable) refl e
step_2 (some t) m e = not_machine m t (refused OutsideAllowed) refl e

step_13 : (s : Option (Table sheet)) (m : machine.Step sheet) → (step_from s m).answer ≡ refused NoStep → ⊥
step_13 none m e = case1_not_13 (refused NoTable) refl e
step_13 (some t) m e = not_machine m t (refused NoStep) refl e

module _ (s : Option (Table sheet)) (line : List ℕ) where
  -- the line of a step that the machine has or that starts
  line_of : (a : Asked) → (a ≡ no_step → ⊥) → asked_by (parse_line (devices_of s) line) ≡ a → (t : Step) × LineOf (devices_of s) t line × (asked t ≡ a)
  line_of a n e =
      let k = is_step_asked (parse_line (devices_of s) line) a n e in
      (k.0, step_is (devices_of s) k.0 line k.1, k.2)

  start_line : (devices cells : ℕ) → asked_by (parse_line (devices_of s) line) ≡ start devices cells → LineOf (devices_of s) (Step.Start devices cells) line
  start_line devices cells e =
      let k = line_of (start devices cells) (λ z. none_start devices cells (sym z)) e in
      subst (λ (t : Step). LineOf (devices_of s) t line) (is_start devices cells k.0 k.2) k.1

  -- the answer to a step's line
  answered_so : (t : Step) → LineOf (devices_of s) t line → answer_to s line ≡ reply_to s (asked t)
  unfolding answer_to
  answered_so t l = ap (λ (u : std.Option Step). reply_to s (asked_by u)) (is_step (devices_of s) t line l)

  to_13 : (a : Asked) → asked_by (parse_line (devices_of s) line) ≡ a → (reply_to s a).answer ≡ refused NoStep → parse_line (devices_of s) line ≡ std.None
  to_13 no_step e q = is_none (parse_line (devices_of s) line) e
  to_13 (start d c) e q = absurd (by (ends s d c))
    where
      by : Ends s d c (start_from s d c) → ⊥
      by (begins z m f) = done_refused (start_from s d c).answer NoStep f q
      by (is_large z m f) = case1_not_13 (start_from s d c).answer (ap (λ (r : Reply). r.answer) f) q
      by (is_outside z f) = case2_not_13 (start_from s d c).answer (ap (λ (r : Reply). r.answer) f) q
  to_13 (machine_step m) e q = absurd (step_13 s m q)

  to_2 : (a : Asked) → asked_by (parse_line (devices_of s) line) ≡ a → (reply_to s a).answer ≡ refused OutsideAllowed → (devices : ℕ) × (cells : ℕ) × LineOf (devices_of s) (Step.Start devices cells) line × (Sizes devices cells → ⊥)
  to_2 no_step e q = absurd (case2_not_13 (refused NoStep) q refl)
  to_2 (start d c) e q = (d, c, start_line d c e, λ z. by z (ends s d c))
    where
      by : Sizes d c → Ends s d c (start_from s d c) → ⊥
      by z (begins y m f) = done_refused (start_from s d c).answer OutsideAllowed f q
      by z (is_large y m f) = case1_not_2 (start_from s d c).answer (ap (λ (r : Reply). r.answer) f) q
      by z (is_outside y f) = y z
  to_2 (machine_step m) e q = absurd (step_2 s m q)

  abbrev Large : Type 0
  Large = (devices : ℕ) × (cells : ℕ) × LineOf (devices_of s) (Step.Start devices cells) line × Sizes devices cells × (Small devices cells → ⊥)

  abbrev Before : Type 0
  Before = (s ≡ none) × (t : Step) × (m : machine.Step sheet) × LineOf (devices_of s) t line × (asked t ≡ machine_step m)

  to_1 : (a : Asked) → asked_by (parse_line (devices_of s) line) ≡ a → (reply_to s a).answer ≡ refused NoTable → Large ⊎ Before
  to_1 no_step e q = absurd (case1_not_13 (refused NoStep) q refl)
  to_1 (start d c) e q = by (ends s d c)
    where
      by : Ends s d c (start_from s d c) → Large ⊎ Before
      by (begins z m f) = absurd (done_refused (start_from s d c).answer NoTable f q)
      by (is_large z m f) = inl (d, c, start_line d c e, z, m)
      by (is_outside z f) = absurd (case1_not_2 (start_from s d c).answer q (ap (λ (r : Reply). r.answer) f))
  to_1 (machine_step m) e q = let k = line_of (machine_step m) (not_none m) e in inr (step_1 s m q, k.0, m, k.1, k.2)

  from_13 : ((t : Step) → LineOf (devices_of s) t line → ⊥) → (answer_to s line).answer ≡ refused NoStep
  unfolding answer_to
  from_13 h = ap (λ (u : std.Option Step). (reply_to s (asked_by u)).answer) (none_step (devices_of s) line h)

  from_2 : (d c : ℕ) → LineOf (devices_of s) (Step.Start d c) line → (Sizes d c → ⊥) → (answer_to s line).answer ≡ refused OutsideAllowed
  from_2 d c l h = ap (λ (r : Reply). r.answer) (answered_so (Step.Start d c) l) ∙ by (ends s d c)
    where
      by : Ends s d c (start_from s d c) → (start_from s d c).answer ≡ refused OutsideAllowed
      by (begins z m f) = absurd (h z)
      by (is_large z m f) = absurd (h z)
      by (is_outside z f) = ap (λ (r : Reply). r.answer) f

  from_large : Large → (answer_to s line).answer ≡ refused NoTable
  from_large (d, c, l, z, h) = ap (λ (r : Reply). r.answer) (answered_so (Step.Start d c) l) ∙ by (ends s d c)
    where
      by : Ends s d c (start_from s d c) → (start_from s d c).answer ≡ refused NoTable
      by (begins y m f) = absurd (h m)
      by (is_large y m f) = ap (λ (r : Reply). r.answer) f
      by (is_outside y f) = absurd (y z)

  from_before : Before → (answer_to s line).answer ≡ refused NoTable
  from_before (e, t, m, l, f) =
      ap (λ (r : Reply). r.answer) (answered_so t l)
      ∙ ap (λ (a : Asked). (reply_to s a).answer) f
      ∙ ap (λ (u : Option (Table sheet)). (step_from u m).answer) e

  from_1 : Large ⊎ Before → (answer_to s line).answer ≡ refused NoTable
  from_1 (inl h) = from_large h
  from_1 (inr h) = from_before h

  refusals : Refusals s line
  unfolding answer_to
  refusals = record {
    refused_13 = (λ q. no_step_is (devices_of s) line (to_13 (asked_by (parse_line (devices_of s) line)) refl q), from_13);
    refused_2 = (to_2 (asked_by (parse_line (devices_of s) line)) refl, λ h. from_2 h.0 h.1 h.2 h.3);
    refused_1 = (to_1 (asked_by (parse_line (devices_of s) line)) refl, from_1);
  }

pub refused_exactly_when : RefusedExactlyWhen
refused_exactly_when s line = refusals s line

-- a refusal keeps the table
keeps : (s : Option (Table sheet)) (a : Asked) (r : Refusal) → (reply_to s a).answer ≡ refused r → (reply_to s a).table ≡ s
keeps s no_step r q = refl
keeps s (start d c) r q = by (ends s d c)
  where
    by : Ends s d c (start_from s d c) → (start_from s d c).table ≡ s
    by (begins z m f) = absurd (done_refused (start_from s d c).answer r f q)
    by (is_large z m f) = ap (λ (x : Reply). x.table) f
    by (is_outside z f) = ap (λ (x : Reply). x.table) f
keeps none (machine_step m) r q = refl
keeps (some t) (machine_step m) r q = ap some ((refusal_changes_nothing m t r).0 q)

pub refusal_keeps_the_table : RefusalKeepsTheTable
unfolding answer_to
refusal_keeps_the_table s line r q = keeps s (asked_by (parse_line (devices_of s) line)) r q
