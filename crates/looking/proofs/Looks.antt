-- What `read` answers of a record, and a question that is known. Assumes nothing.
use mathlib.Core.Path.{◌≡◌, refl, sym, ap, ◌∙◌, subst}
use mathlib.Core.List.{List, [], ◌∷◌}
use Prim.Native.Nat.{ℕ, ◌+◌, ◌*◌, ◌≤◌, ◌<◌}
use native.Mathlib.Numerals.{add-one}
use lib.ListN.{get_or}
use borrow.Author.Tests.{le-leb, lt-leb}
use Rattle.cells.specs.Cells.{applied}
use Rattle.cells.specs.declared.Cell.{Cell}
use Rattle.cells.specs.declared.Cell.TheVariants.{Blank}
use Rattle.cells.specs.declared.Change.{Change}
use Rattle.cells.specs.declared.Change.TheVariants.{Nothing}
use Rattle.protocol.specs.declared.Refusal.TheVariants.{NoCell}
use Rattle.protocol.specs.Machine.{apply_rounds, read_at, tell, value, Answer, refused}
use Rattle.protocol.proofs.Basics.{apply_rounds_append}
use Rattle.sheet.specs.Sheet.{sheet}
use Rattle.words.specs.Layout.{CELL, CHANGE, ROUND, ROUND_CHANGES, PENDING_LENGTH, KNOWN, TRANSACTION, BUFFERED, PENDING}
use Rattle.words.specs.Place.{cell_at, change_at, cell_place, change_place}
use Rattle.record.specs.Reading.{sheet_at, queue, round_at, device_of}
use Rattle.record.specs.Did.{Tells}
use Rattle.record.proofs.Same.{place_in}
use Rattle.looking.specs.Look.{question_of}
use Rattle.looking.specs.declared.look.Question.{Question}

-- Cell k with the first j pending rounds applied.
unfoldable pub after_rounds : (cells : ℕ) → List ℕ → (k j : ℕ) → Cell
after_rounds cells xs k j = apply_rounds sheet (queue j (λ i. round_at cells xs (PENDING + ROUND * i))) (sheet_at cells xs KNOWN) k

module _ (devices cells : ℕ) (xs : List ℕ) (k : ℕ) (h : k < cells) where
  pub none_applied : {c : Cell} → c ≡ cell_at xs (KNOWN + CELL * k) → c ≡ after_rounds cells xs k 0
  unfolding after_rounds queue
  none_applied e = e ∙ sym (place_in cell_place Blank cells xs KNOWN k h)

  pub one_applied : {c r : Cell} {d : Change} (j : ℕ) → c ≡ after_rounds cells xs k j → d ≡ change_at xs (PENDING + ROUND * j + ROUND_CHANGES + CHANGE * k) → r ≡ applied c d → r ≡ after_rounds cells xs k (j + 1)
  unfolding after_rounds queue round_at
  one_applied j p q e =
      rw (add-one j)
      (e ∙ (λ i. applied (p i) ((q ∙ sym (place_in change_place Nothing cells xs (PENDING + ROUND * j + ROUND_CHANGES) k h)) i))
      ∙ sym (ap (λ (s : ℕ → Cell). s k) (apply_rounds_append sheet (queue j (λ i. round_at cells xs (PENDING + ROUND * i))) (round_at cells xs (PENDING + ROUND * j) ∷ []) (sheet_at cells xs KNOWN))))

  pub all_applied : {c : Cell} (j : ℕ) → j ≡ get_or xs PENDING_LENGTH 0 → c ≡ after_rounds cells xs k j → c ≡ apply_rounds sheet (device_of devices cells xs).pending (device_of devices cells xs).known k
  unfolding after_rounds device_of
  all_applied j e p = rw (sym e) p

  pub read_value : {s p v : Cell} {b t : Change} → s ≡ apply_rounds sheet (device_of devices cells xs).pending (device_of devices cells xs).known k → b ≡ change_at xs (BUFFERED + CHANGE * k) → p ≡ applied s b → t ≡ change_at xs (TRANSACTION + CHANGE * k) → v ≡ applied p t → Tells devices cells (read_at sheet cells k) xs (value v)
  unfolding read_at device_of
  read_value a b c d e =
      rw (lt-leb cells k h)
      (sym (ap (λ (w : Cell). tell (value w)) (e ∙ (λ i. applied ((c ∙ (λ j. applied (a j) ((b ∙ sym (place_in change_place Nothing cells xs BUFFERED k h)) j))) i) ((d ∙ sym (place_in change_place Nothing cells xs TRANSACTION k h)) i)))))

pub read_refused : (devices cells : ℕ) (xs : List ℕ) (k : ℕ) → cells ≤ k → Tells devices cells (read_at sheet cells k) xs (refused NoCell)
unfolding read_at
read_refused devices cells xs k h = rw (le-leb cells k h) refl

-- The question that is known.
pub tells_as : (devices cells : ℕ) (xs : List ℕ) (a : Answer sheet) (p q : Question) → q ≡ p → Tells devices cells (question_of cells p) xs a → Tells devices cells (question_of cells q) xs a
tells_as devices cells xs a p q e t = subst (λ (o : Question). Tells devices cells (question_of cells o) xs a) (sym e) t
