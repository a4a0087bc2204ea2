-- The queues of a record, as the conditions speak of them. Assumes nothing.
use mathlib.Core.Path.{◌≡◌, sym, ap, ◌∙◌}
use mathlib.Core.Logic.{⊎_elim}
use mathlib.Core.List.{List}
use mathlib.Core.Option.{Option, none, some}
use Prim.Native.Nat.{ℕ, ◌+◌, ◌*◌, ◌-◌, ◌≤◌, ◌<◌}
use native.Mathlib.Omega.{arith}
use lib.ListN.{length, get_or, get_elem?, drop}
use Rattle.protocol.specs.Machine.{Round, Item}
use Rattle.protocol.specs.Fits.{numbers, number_at, last_of}
use Rattle.sheet.specs.Sheet.{sheet}
use Rattle.words.specs.Layout.{ROUND, ITEM, PENDING_LENGTH, WAITING_LENGTH, ITEMS_LENGTH, PENDING, WAITING, ITEMS}
use Rattle.words.proofs.Places.{lt_or_ge}
use Rattle.record.specs.Reading.{queue, round_at, item_at}
use Rattle.record.proofs.Queues.{queue_length, queue_at, queue_past, queue_drop}
use Rattle.record.proofs.Meanings.{numbers_are, number_is}

module _ (devices cells : ℕ) (xs : List ℕ) where
  abbrev pub pending_rounds : List (Round sheet)
  pending_rounds = queue (get_or xs PENDING_LENGTH 0) (λ j. round_at cells xs (PENDING + ROUND * j))

  abbrev pub waiting_rounds : List (Round sheet)
  waiting_rounds = queue (get_or xs WAITING_LENGTH 0) (λ j. round_at cells xs (WAITING + ROUND * j))

  abbrev pub item : ℕ → Item sheet
  item j = item_at devices cells xs (ITEMS + ITEM * j)

  pub pending_number : (i : ℕ) → i < get_or xs PENDING_LENGTH 0 → number_at sheet pending_rounds i ≡ get_or xs (PENDING + ROUND * i) 0
  pending_number i h = number_is cells xs PENDING (get_or xs PENDING_LENGTH 0) i h

  pub pending_length : length pending_rounds ≡ get_or xs PENDING_LENGTH 0
  pending_length = queue_length _ _

  pub waiting_length : length waiting_rounds ≡ get_or xs WAITING_LENGTH 0
  waiting_length = queue_length _ _

  -- the numbers of the last w pending rounds
  pub last_numbers : get_or xs WAITING_LENGTH 0 ≤ get_or xs PENDING_LENGTH 0 → last_of (length waiting_rounds) (numbers sheet pending_rounds)
      ≡ queue (get_or xs WAITING_LENGTH 0) (λ j. get_or xs (PENDING + ROUND * (get_or xs PENDING_LENGTH 0 - get_or xs WAITING_LENGTH 0 + j)) 0)
  last_numbers h =
      let p : ℕ = get_or xs PENDING_LENGTH 0 in
      let w : ℕ = get_or xs WAITING_LENGTH 0 in
      let e : p - w + w ≡ p = omega arith in
      let l = queue_length p (λ j. get_or xs (PENDING + ROUND * j) 0) in
      ap (λ (q : List ℕ). last_of (length waiting_rounds) q) (numbers_are cells xs PENDING p)
      ∙ (λ i. drop (l i - waiting_length i) (queue p (λ j. get_or xs (PENDING + ROUND * j) 0)))
      ∙ ap (λ (n : ℕ). drop (p - w) (queue n (λ j. get_or xs (PENDING + ROUND * j) 0))) (sym e)
      ∙ queue_drop (p - w) w (λ j. get_or xs (PENDING + ROUND * j) 0)

  -- of a place in the items queue: there is none, or what holds of the item there
  pub at_item : (P : ℕ → Option (Item sheet) → Type 0) → ((i : ℕ) → P i none) → ((j : ℕ) → j < get_or xs ITEMS_LENGTH 0 → P j (some (item j))) → (i : ℕ) → P i (get_elem? (queue (get_or xs ITEMS_LENGTH 0) item) i)
  at_item P a b i = ⊎_elim (λ l. rw (queue_at (get_or xs ITEMS_LENGTH 0) item i l) (b i l)) (λ g. rw (queue_past (get_or xs ITEMS_LENGTH 0) item i g) (a i)) (lt_or_ge i (get_or xs ITEMS_LENGTH 0))
