-- What `push` makes of a record. Assumes nothing.
use mathlib.Core.Path.{◌≡◌, refl, ◌∙◌}
use mathlib.Core.List.{List}
use Prim.Native.Nat.{ℕ, suc, ◌+◌, ◌*◌, ◌≤◌, ◌<◌}
use native.Mathlib.Numerals.{add-one}
use native.Mathlib.Omega.{arith}
use lib.ListN.{length, get_or, set, length-set}
use borrow.Author.Tests.{le-leb, lt-leb}
use Rattle.cells.specs.Cells.{joined}
use Rattle.cells.specs.declared.Change.TheVariants.{Nothing}
use Rattle.protocol.specs.declared.Refusal.TheVariants.{PushesSpent}
use Rattle.protocol.specs.Machine.{Device, fine, push_at, done, refused}
use Rattle.sheet.specs.Sheet.{sheet}
use Rattle.words.specs.Layout.{CHANGE, LAST, TAKEN, COVERED, PENDING_LENGTH, WAITING_LENGTH, ITEMS_LENGTH, TRANSACTION, BUFFERED, RECEIVED, RECORD}
use Rattle.words.specs.Place.{change_place, change_at, Filled, Out}
use Rattle.words.proofs.Places.{set_kept, set_new, change_local}
use Rattle.record.specs.Reading.{changes_at, device_of}
use Rattle.record.specs.Valid.{InUse, IsRecord}
use Rattle.record.proofs.Loops.{joined_changes, cleared}
use Rattle.record.specs.Did.{Did}
use Rattle.queues.proofs.Parts.{Parts, did_parts, places_put, places_kept, words_stay, known_stays, received_stays, pending_stays, waiting_stays, items_stay}
use Rattle.record.proofs.Steps.{told}

-- Past the last number nothing changes.
pub push_refused : (devices cells : ℕ) (xs : List ℕ) → IsRecord devices cells xs → 1000000 ≤ get_or xs LAST 0 → Did devices cells (push_at sheet) xs (refused PushesSpent) xs
unfolding push_at device_of
push_refused devices cells xs R h = told devices cells (push_at sheet) xs (refused PushesSpent) R (rw (le-leb 1000000 (get_or xs LAST 0) h) refl)

-- y1 has the transaction joined to the push buffer, y2 the transaction cleared.
module _ (devices cells : ℕ) (xs y1 y2 : List ℕ) (R : IsRecord devices cells xs) (h : get_or xs LAST 0 < 1000000) (J : Filled change_place xs y1 BUFFERED cells (λ k. joined (change_at xs (BUFFERED + CHANGE * k)) (change_at xs (TRANSACTION + CHANGE * k)))) (C : Filled change_place y1 y2 TRANSACTION cells (λ k. Nothing)) (len : length y2 ≡ RECORD) where
  y3 : List ℕ
  y3 = set y2 LAST (get_or xs LAST 0 + 1)

  end : List ℕ
  end = set y3 COVERED (get_or xs COVERED 0 + 1)

  few : cells ≤ 64
  few = R.few_cells

  from_y2 : (i : ℕ) → (i ≡ LAST → ⊥) → (i ≡ COVERED → ⊥) → get_or end i 0 ≡ get_or y2 i 0
  unfolding end y3
  from_y2 i a b = set_kept y3 COVERED (get_or xs COVERED 0 + 1) i b ∙ set_kept y2 LAST (get_or xs LAST 0 + 1) i a

  keep : (i : ℕ) → (i ≡ LAST → ⊥) → (i ≡ COVERED → ⊥) → Out TRANSACTION (CHANGE * cells) i → Out BUFFERED (CHANGE * cells) i → get_or end i 0 ≡ get_or xs i 0
  keep i a b o p = from_y2 i a b ∙ C.kept i o ∙ J.kept i p

  -- what lies before the transaction, but LAST and COVERED, and what lies behind the push buffer
  ahead : (i : ℕ) → i < TRANSACTION → (i ≡ LAST → ⊥) → (i ≡ COVERED → ⊥) → get_or end i 0 ≡ get_or xs i 0
  ahead i l a b = keep i a b (λ p q. omega arith) (λ p q. omega arith)

  behind : (i : ℕ) → RECEIVED ≤ i → get_or end i 0 ≡ get_or xs i 0
  behind i l = keep i (λ e. omega arith) (λ e. omega arith) (λ p q. omega (arith, few)) (λ p q. omega (arith, few))

  last_is : get_or end LAST 0 ≡ suc (get_or xs LAST 0)
  unfolding end y3
  last_is = set_kept y3 COVERED (get_or xs COVERED 0 + 1) LAST (λ q. omega arith) ∙ set_new y2 LAST (get_or xs LAST 0 + 1) (omega arith) ∙ add-one (get_or xs LAST 0)

  covered_is : get_or end COVERED 0 ≡ suc (get_or xs COVERED 0)
  unfolding end y3
  covered_is = set_new y3 COVERED (get_or xs COVERED 0 + 1) (simp length-set (omega arith)) ∙ add-one (get_or xs COVERED 0)

  pushed : Device sheet
  pushed = record {
    known = (device_of devices cells xs).known;
    received = (device_of devices cells xs).received;
    pending = (device_of devices cells xs).pending;
    buffered = λ c. joined (changes_at cells xs BUFFERED c) (changes_at cells xs TRANSACTION c);
    covered = suc (get_or xs COVERED 0);
    transaction = λ c. Nothing;
    last = suc (get_or xs LAST 0);
    link = (device_of devices cells xs).link;
  }

  parts : Parts devices cells end pushed
  unfolding pushed
  parts = record {
    size = unfold end y3 in (simp length-set len);
    last = last_is;
    covered = covered_is;
    words = words_stay devices cells xs end R (λ i p q. ahead i (omega arith) (λ e. omega arith) (λ e. omega arith));
    known = known_stays devices cells xs end R (λ i p q. ahead i (omega (arith, few)) (λ e. omega arith) (λ e. omega arith));
    transaction = places_kept change_place change_local Nothing cells y2 end TRANSACTION _ (λ i p q. from_y2 i (λ e. omega arith) (λ e. omega arith)) (places_put change_place Nothing cells y1 y2 TRANSACTION _ _ C (cleared cells y1 y2 TRANSACTION TRANSACTION change_place Nothing C));
    buffered = places_kept change_place change_local Nothing cells y1 end BUFFERED _ (λ i p q. from_y2 i (λ e. omega arith) (λ e. omega arith) ∙ C.kept i (λ u v. omega (arith, few))) (places_put change_place Nothing cells xs y1 BUFFERED _ _ J (joined_changes cells xs y1 BUFFERED TRANSACTION J));
    received = received_stays devices cells xs end R (λ i p q. behind i p);
    pending = pending_stays devices cells xs end R (ahead PENDING_LENGTH (omega arith) (λ e. omega arith) (λ e. omega arith)) (λ i p q. behind i (omega arith));
    waiting = waiting_stays devices cells xs end R (ahead WAITING_LENGTH (omega arith) (λ e. omega arith) (λ e. omega arith)) (λ i p q. behind i (omega arith));
    items = items_stay devices cells xs end R (ahead ITEMS_LENGTH (omega arith) (λ e. omega arith) (λ e. omega arith)) (λ i p q. behind i (omega arith));
  }

  kept_is : (i : ℕ) → (InUse devices cells end i → ⊥) → get_or end i 0 ≡ get_or xs i 0
  kept_is i n = keep i (λ e. n (InUse.single (omega arith))) (λ e. n (InUse.single (omega arith))) (λ l b. n (InUse.transaction l b)) (λ l b. n (InUse.buffered l b))

  pub push_done : Did devices cells (push_at sheet) xs done (set (set y2 LAST (get_or xs LAST 0 + 1)) COVERED (get_or xs COVERED 0 + 1))
  push_done = unfold end y3 in (did_parts devices cells (push_at sheet) xs end pushed step_is parts (ahead TAKEN (omega arith) (λ e. omega arith) (λ e. omega arith)) kept_is)
    where
      step_is : push_at sheet (device_of devices cells xs) ≡ fine pushed
      step_is = unfold push_at device_of pushed in (rw (lt-leb 1000000 (get_or xs LAST 0) h) refl)
