-- A call is a step of the machine, and a list of calls a run of it. Assumes nothing.
use mathlib.Core.Path.{◌≡◌, refl, sym, ap, ◌∙◌, subst}
use mathlib.Core.Logic.{⊎_elim}
use mathlib.Core.List.{List, [], ◌∷◌, ◌++◌, append_assoc, append-nil}
use Prim.Native.Nat.{ℕ, ◌≤◌, ◌<◌}
use native.Mathlib.Omega.{arith}
use lib.ListN.{length}
use Rattle.cbor.proofs.Codes.{all_at}
use Rattle.cells.specs.declared.Cell.{Cell}
use Rattle.protocol.specs.Fits.{Fits, Sizes}
use Rattle.protocol.specs.Machine.{Start, Step, Table, step, fresh, Answer, done}
use Rattle.protocol.specs.History.{Every, table_after}
use Rattle.sheet.specs.Sheet.{sheet}
use Rattle.sheet.proofs.OneAnswer.{done_refused}
use Rattle.sheet.proofs.Runs.{run_append}
use Rattle.sheet.proofs.Theorem.{reached_fits}
use Rattle.words.specs.Layout.{MOST_PUSHES}
use Rattle.words.proofs.Places.{lt_or_ge}
use Rattle.table.specs.Promise.{Stepped, Started}
use Rattle.table.specs.Table.{IsTable, ValidTable, need, reading}
use Rattle.table.proofs.Once.{either_way}
use Rattle.coding.specs.Image.{Allowed, NumberAllowed, image_of}
use Rattle.image.specs.Promise.{Makes, Opened}
use Rattle.image.proofs.Theorems.{opening_answers}
use Rattle.desk.specs.Calls.{Call, Called, Made, Calls, Renews, Begun, at_start, at_opening, start, update, block, read, confirmed, push, send, ask, give_up, receive, pull, accept, serverdrop, batch, crash, cut, write_image, open_image}
use Rattle.desk.specs.Demand3.{step_of_call, steps_of}

-- What a table may begin with.
pub record AllowedStart (b : Start sheet) : Type 0 where
  pub sizes : Sizes b.devices b.cells
  pub numbers : (d : ℕ) → d < b.devices → b.numbers d ≤ MOST_PUSHES

-- The words after some steps of the machine.
pub record At (b : Start sheet) (steps : List (Step sheet)) (xs : List ℕ) : Type 0 where
  pub says : reading xs ≡ table_after sheet b steps
  pub valid : ValidTable xs

pub is_table : {b : Start sheet} → AllowedStart b → {steps : List (Step sheet)} {xs : List ℕ} → At b steps xs → IsTable xs
is_table {b} k {steps} A = record { valid = A.valid; fits = subst (Fits sheet) (sym A.says) (reached_fits b steps k.sizes k.numbers) }

-- A start or an opening that is refused leaves the words.
pub start_stays : (devices cells : ℕ) (xs ys : List ℕ) (a : Answer sheet) → Started devices cells xs a ys → (a ≡ done → ⊥) → ys ≡ xs
start_stays devices cells xs ys a S n =
    (either_way (Sizes devices cells) a a ys xs
    (λ z. (refl, ⊎_elim (λ l. (S.short z l).untouched) (λ g. absurd (n ((S.begun z g).0))) (lt_or_ge (length xs) (need devices))))
    (λ z. (refl, (S.outside z).untouched))).1

pub opening_stays : (bytes xs ys : List ℕ) (a : Answer sheet) → Opened bytes xs a ys → (a ≡ done → ⊥) → ys ≡ xs
opening_stays bytes xs ys a O n =
    (either_way ((cells : List Cell) × (numbers : List ℕ) × Allowed cells numbers × (bytes ≡ image_of cells numbers)) a a ys xs
    (λ p. (refl, made (O.makes p.0 p.1 p.2 p.3)))
    (λ z. (refl, (O.no_image (λ cells numbers ok e. z (cells, numbers, ok, e))).untouched))).1
  where
    made : {b : Start sheet} → Makes b xs a ys → ys ≡ xs
    made {b} M = ⊎_elim (λ l. (M.short l).untouched) (λ g. absurd (n (M.answer g))) (lt_or_ge (length xs) (need b.devices))

module _ (b : Start sheet) (k : AllowedStart b) (steps : List (Step sheet)) where
  -- a step, and no step
  stepped : (s : Step sheet) (xs ys : List ℕ) (a : Answer sheet) → At b steps xs → Stepped (step sheet s) xs a ys → At b (steps ++ (s ∷ [])) ys
  stepped s xs ys a A S =
      let B = S.after (is_table k A) in
      record { says = B.says ∙ ap (λ (t : Table sheet). (step sheet s t).table) A.says ∙ sym (run_append steps (s ∷ []) (fresh sheet b)); valid = B.valid }

  stays : (xs ys : List ℕ) → At b steps xs → ys ≡ xs → At b (steps ++ []) ys
  stays xs ys A e = subst (λ (zs : List ℕ). At b (steps ++ []) zs) (sym e) (subst (λ (l : List (Step sheet)). At b l xs) (sym (append-nil steps)) A)

  looked : (s : Step sheet) (xs ys : List ℕ) (a : Answer sheet) → At b steps xs → Stepped (step sheet s) xs a xs × (ys ≡ xs) → At b (steps ++ (s ∷ [])) ys
  looked s xs ys a A S = subst (λ (zs : List ℕ). At b (steps ++ (s ∷ [])) zs) (sym S.1) (stepped s xs xs a A S.0)

  -- what a call leaves is what the machine comes to by its step
  pub called_step : (c : Call) (xs ys : List ℕ) (a : Answer sheet) → At b steps xs → Called c xs a ys → (Renews record { call = c; answer = a } → ⊥) → At b (steps ++ step_of_call c) ys
  called_step (start devices cells) xs ys a A C n = stays xs ys A (start_stays devices cells xs ys a C (λ e. n (refl, e)))
  called_step (update d cell u) xs ys a A C n = stepped _ xs ys a A C
  called_step (block d entries) xs ys a A C n = stepped _ xs ys a A C
  called_step (read d cell) xs ys a A C n = looked _ xs ys a A C
  called_step (confirmed d) xs ys a A C n = looked _ xs ys a A C
  called_step (push d) xs ys a A C n = stepped _ xs ys a A C
  called_step (send d) xs ys a A C n = stepped _ xs ys a A C
  called_step (ask d) xs ys a A C n = stepped _ xs ys a A C
  called_step (give_up d) xs ys a A C n = stepped _ xs ys a A C
  called_step (receive d) xs ys a A C n = stepped _ xs ys a A C
  called_step (pull d) xs ys a A C n = stepped _ xs ys a A C
  called_step (accept d) xs ys a A C n = stepped _ xs ys a A C
  called_step (serverdrop d) xs ys a A C n = stepped _ xs ys a A C
  called_step (batch counts) xs ys a A C n = stepped _ xs ys a A C
  called_step crash xs ys a A C n = stepped _ xs ys a A C
  called_step (cut counts reach) xs ys a A C n = stepped _ xs ys a A C
  called_step (write_image buffer buffer') xs ys a A C n = stays xs ys A C.1
  called_step (open_image bytes) xs ys a A C n = stays xs ys A (opening_stays bytes xs ys a C (λ e. n (refl, e)))

-- and so of a list of calls
pub called_steps : (b : Start sheet) → AllowedStart b → (ms : List Made) (steps : List (Step sheet)) (xs ys : List ℕ) → At b steps xs → Calls xs ms ys → Every (λ m. Renews m → ⊥) ms → At b (steps ++ steps_of ms) ys
called_steps b k [] steps xs ys A C n = stays b k steps xs ys A C
called_steps b k (m ∷ ms) steps xs ys A C n =
    subst (λ (l : List (Step sheet)). At b l ys) (append_assoc steps (step_of_call m.call) (steps_of ms))
    (called_steps b k ms (steps ++ step_of_call m.call) C.0 ys (called_step b k steps m.call xs C.0 m.answer A C.1 n.0) C.2 n.1)

-- Sizes that are not outside of the allowed are allowed.
sizes_hold : (devices cells : ℕ) → ((Sizes devices cells → ⊥) → ⊥) → Sizes devices cells
sizes_hold devices cells n =
    record {
      devices_from_1 = ⊎_elim (λ l. absurd (n (λ z. omega arith))) (λ g. g) (lt_or_ge devices 1);
      devices_to_8 = ⊎_elim (λ l. absurd (n (λ z. omega arith))) (λ g. g) (lt_or_ge 8 devices);
      cells_from_1 = ⊎_elim (λ l. absurd (n (λ z. omega arith))) (λ g. g) (lt_or_ge cells 1);
      cells_to_64 = ⊎_elim (λ l. absurd (n (λ z. omega arith))) (λ g. g) (lt_or_ge 64 cells);
    }

-- Words just started or just opened are at the beginning of a run.
pub begun_at : (b : Start sheet) (xs : List ℕ) → Begun b xs → AllowedStart b × At b [] xs
begun_at b xs (at_start devices cells ws ys S) =
    let z = sizes_hold devices cells (λ n. done_refused done _ refl (S.outside n).number) in
    let B = ⊎_elim (λ l. absurd (done_refused done _ refl (S.short z l).number)) (λ g. (S.begun z g).1) (lt_or_ge (length ws) (need devices)) in
    (record { sizes = z; numbers = λ d h. omega arith }, record { says = B.says; valid = B.valid })
begun_at b xs (at_opening cells numbers ws ys ok O) =
    let g = ((opening_answers (image_of cells numbers) ws ys done O).open_done cells numbers ok refl).0 refl in
    let B = (O.makes cells numbers ok refl).after g in
    let s = ok.sheet.count in
    let t = ok.devices.count in (
      record {
        sizes = record { devices_from_1 = omega arith; devices_to_8 = omega arith; cells_from_1 = omega arith; cells_to_64 = omega arith };
        numbers = λ d h. (all_at NumberAllowed numbers d 0 ok.devices.every h).1;
      },
      record { says = B.says; valid = B.valid },
    )
