-- The answer to a line is the machine's, and the words hold its table afterwards. Assumes nothing.
use mathlib.Core.Path.{◌≡◌, refl, sym, ap, ap₂, subst, ◌∙◌}
use mathlib.Core.Bool.{Bool, true, false, ◌&&◌, false≢true}
use mathlib.Core.List.{List, [], ◌∷◌, ◌++◌, map}
use mathlib.Core.Option.{Option, none, some}
use Prim.Native.Nat.{ℕ, zero, suc, ◌≤◌}
use native.Mathlib.Omega.{arith}
use borrow.Author.Tests.{leb-true, le-leb}
use lib.Dec.{leb}
use lib.ListN.{length, get_or, replicate, length-replicate}
use Rattle.cells.proofs.Laws.{both_true}
use Rattle.protocol.specs.declared.Refusal.{Refusal}
use Rattle.protocol.specs.declared.Refusal.TheVariants.{NoTable}
use Rattle.protocol.specs.Machine.{Table, Step, step, fresh, refused, Answer, done}
use Rattle.protocol.specs.Fits.{Sizes, Fits}
use Rattle.sheet.specs.Sheet.{sheet, started}
use Rattle.sheet.specs.Answer.{BlockGiven, block_meaning, written}
use Rattle.sheet.proofs.OneAnswer.{written_meaning}
use Rattle.sheet.proofs.Theorem.{reached_fits}
use Rattle.sheet.proofs.Runs.{run_append}
use Rattle.words.specs.Layout.{DEVICES}
use Rattle.table.specs.Table.{need, reading, IsTable}
use Rattle.table.specs.Promise.{RefusedWith, Stepped}
use Rattle.steps.specs.Parse.{parse_line}
use Rattle.table.specs.Asked.{Asked, no_step, start, machine_step}
use Rattle.answering.specs.Program.{asked_by, allowed, small, start_from, step_from, reply_to, devices_of, answer_to, table_after}
use Rattle.answering.specs.Answered.{Small, StartedSmall, Does}
use Rattle.program.specs.Claims.{ZerosHoldNoTable, Reached, Holds, AnswersAsTheMachine, AnswersEveryLine, GivenAsTheMachine, EveryLineGiven}

-- the bounds of a start, and the tests of them
module _ (devices cells : ℕ) where
  pub sizes_of : allowed devices cells ≡ true → Sizes devices cells
  sizes_of e =
      let a = both_true (leb 1 devices && leb devices 8 && leb 1 cells) (leb cells 64) e in
      let b = both_true (leb 1 devices && leb devices 8) (leb 1 cells) a.0 in
      let c = both_true (leb 1 devices) (leb devices 8) b.0 in
      record { devices_from_1 = leb-true 1 devices c.0; devices_to_8 = leb-true devices 8 c.1; cells_from_1 = leb-true 1 cells b.1; cells_to_64 = leb-true cells 64 a.1 }

  pub of_sizes : Sizes devices cells → allowed devices cells ≡ true
  of_sizes z = rw (le-leb 1 devices z.devices_from_1, le-leb devices 8 z.devices_to_8, le-leb 1 cells z.cells_from_1, le-leb cells 64 z.cells_to_64)

  pub small_of : small devices cells ≡ true → Small devices cells
  small_of e = let a = both_true (leb devices 3) (leb cells 16) e in record { devices_to_3 = leb-true devices 3 a.0; cells_to_16 = leb-true cells 16 a.1 }

  pub of_small : Small devices cells → small devices cells ≡ true
  of_small s = rw (le-leb devices 3 s.devices_to_3, le-leb cells 16 s.cells_to_16)

-- a refusal keeps what the words hold
module _ (s : Option (Table sheet)) (xs : List ℕ) (a : Answer sheet) (ys : List ℕ) (H : Holds s xs) where
  refusal_holds : (r : Refusal) → RefusedWith r xs a ys → (a ≡ refused r) × Holds s ys
  refusal_holds r R = (R.number, subst (Holds s) (sym R.untouched) H)

room_held : (s : Option (Table sheet)) (xs : List ℕ) → Holds s xs → need 3 ≤ length xs
room_held none xs H = H.1
room_held (some t) xs H = H.3

-- a start
module _ (s : Option (Table sheet)) (devices cells : ℕ) (xs : List ℕ) (a : Answer sheet) (ys : List ℕ) (H : Holds s xs) (S : StartedSmall devices cells xs a ys) where
  started_holds : Sizes devices cells → Small devices cells → (a ≡ done) × Holds (some (fresh sheet (started devices cells))) ys
  started_holds z m =
      let r = room_held s xs H in
      let d = m.devices_to_3 in
      let B = (S.begun z m).begun z (omega arith) in (
        B.0,
        (B.1.valid, B.1.says, record { devices = devices; cells = cells; sizes = z; steps = []; is = refl }, omega (arith, B.1.size)),
      )

  start_is : (a ≡ (start_from s devices cells).answer) × Holds (start_from s devices cells).table ys
  unfolding start_from
  start_is = by (allowed devices cells) refl (small devices cells) refl
    where
      by : (t : Bool) → allowed devices cells ≡ t → (u : Bool) → small devices cells ≡ u → (a ≡ (start_from s devices cells).answer) × Holds (start_from s devices cells).table ys
      by true e true f = rw (e, f) (started_holds (sizes_of devices cells e) (small_of devices cells f))
      by true e false f = rw (e, f) (refusal_holds s xs a ys H _ (S.large (sizes_of devices cells e) (λ m. false≢true (sym f ∙ of_small devices cells m))))
      by false e u f = rw e (refusal_holds s xs a ys H _ (S.outside (λ z. false≢true (sym e ∙ of_sizes devices cells z))))

-- a step of the machine
next_reached : (m : Step sheet) (t : Table sheet) → Reached t → Reached (step sheet m t).table
next_reached m t R = record {
  devices = R.devices;
  cells = R.cells;
  sizes = R.sizes;
  steps = R.steps ++ (m ∷ []);
  is = ap (λ (u : Table sheet). (step sheet m u).table) R.is ∙ sym (run_append R.steps (m ∷ []) (fresh sheet (started R.devices R.cells)));
}

fits_reached : (t : Table sheet) → Reached t → Fits sheet t
fits_reached t R = subst (Fits sheet) (sym R.is) (reached_fits (started R.devices R.cells) R.steps R.sizes (λ d h. omega arith))

no_table_held : (xs : List ℕ) → get_or xs DEVICES 0 ≡ 0 → IsTable xs → ⊥
no_table_held xs e T = let z = T.valid.sizes.devices_from_1 in omega arith

step_is : (s : Option (Table sheet)) (m : Step sheet) (xs : List ℕ) (a : Answer sheet) (ys : List ℕ) → Holds s xs → Stepped (step sheet m) xs a ys → (a ≡ (step_from s m).answer) × Holds (step_from s m).table ys
step_is none m xs a ys H S = refusal_holds none xs a ys H NoTable (S.no_table (no_table_held xs H.0))
step_is (some t) m xs a ys H S =
    let T : IsTable xs = record { valid = H.0; fits = subst (Fits sheet) (sym H.1) (fits_reached t H.2) } in
    let B = S.after T in (
      S.answer T ∙ ap (λ (u : Table sheet). (step sheet m u).answer) H.1,
      (B.valid, B.says ∙ ap (λ (u : Table sheet). (step sheet m u).table) H.1, next_reached m t H.2, omega (arith, B.size, H.3)),
    )

-- whatever was asked
does_is : (s : Option (Table sheet)) (k : Asked) (xs : List ℕ) (a : Answer sheet) (ys : List ℕ) → Holds s xs → Does k xs a ys → (a ≡ (reply_to s k).answer) × Holds (reply_to s k).table ys
does_is s no_step xs a ys H D = refusal_holds s xs a ys H _ D
does_is s (start devices cells) xs a ys H D = start_is s devices cells xs a ys H D
does_is s (machine_step m) xs a ys H D = step_is s m xs a ys H D

devices_held : (s : Option (Table sheet)) (xs : List ℕ) → Holds s xs → get_or xs DEVICES 0 ≡ devices_of s
devices_held none xs H = H.0
devices_held (some t) xs H = unfold reading in (ap (λ (u : Table sheet). u.devices) H.1)

pub answers_as_the_machine : AnswersAsTheMachine
unfolding answer_to
answers_as_the_machine s line xs a ys H A = does_is s (asked_by (parse_line (devices_of s) line)) xs a ys H (subst (λ (n : ℕ). Does (asked_by (parse_line n line)) xs a ys) (devices_held s xs H) A)

-- line after line
pub answers_every_line : AnswersEveryLine
unfolding table_after
answers_every_line s [] xs [] ys H A = (refl, subst (Holds s) A H)
answers_every_line s [] xs (a ∷ answers) ys H A = absurd A
answers_every_line s (line ∷ lines) xs [] ys H A = absurd A
answers_every_line s (line ∷ lines) xs (a ∷ answers) ys H (zs, A, rest) =
    let one = answers_as_the_machine s line xs a zs H A in
    let more = answers_every_line (answer_to s line).table lines zs answers ys one.1 rest in
    (cc, more.1)

-- the same of what is given, which is written of its meaning
pub given_as_the_machine : GivenAsTheMachine
given_as_the_machine s line xs r ys H A =
    let o = answers_as_the_machine s line xs (block_meaning r) ys H A in
    (sym (written_meaning r) ∙ ap written o.0, o.1)

all_written : (given : List BlockGiven) → given ≡ map written (map block_meaning given)
all_written [] = refl
all_written (r ∷ given) = ap₂ (λ (x : BlockGiven) (l : List BlockGiven). x ∷ l) (sym (written_meaning r)) (all_written given)

pub every_line_given : EveryLineGiven
every_line_given s lines xs given ys H A =
    let o = answers_every_line s lines xs (map block_meaning given) ys H A in
    (all_written given ∙ ap (map written) o.0, o.1)

-- before the first line
pub zeros_hold_no_table : ZerosHoldNoTable
zeros_hold_no_table n h = (first n, omega (arith, length-replicate {A = ℕ} n 0))
  where
    first : (n : ℕ) → get_or (replicate {A = ℕ} n 0) DEVICES 0 ≡ 0
    first zero = refl
    first (suc n) = refl
