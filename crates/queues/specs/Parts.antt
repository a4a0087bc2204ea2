-- Document 01's queues (rounds pending and waiting, items) as they lie in a device's record. Assumes nothing.
use Rattle.std.specs.Prelude.{◌≡◌, List, ℕ, ◌+◌, ◌*◌, ◌≤◌, ◌<◌, length, get_or}
use Rattle.protocol.specs.Machine.{Round, Item}
use Rattle.sheet.specs.Sheet.{sheet}
use Rattle.words.specs.Layout.{CHANGE, QUEUE, ROUND, ROUND_CHANGES, ITEM}
use Rattle.words.specs.Place.{Place, change_place, Valid, Apart}
use Rattle.record.specs.Reading.{places_at, queue, round_at, item_at}
use Rattle.record.specs.Valid.{InItem, ValidItem}

-- The places from o on say v and are valid.
pub record PlacesAre (P : Place) (past : P.Holds) (cells : ℕ) (xs : List ℕ) (o : ℕ) (v : ℕ → P.Holds) : Type 0 where
  pub is : places_at P past cells xs o ≡ v
  pub valid : Valid P xs o cells

-- A kind of queue entry: the words of its room, its value, whether it is valid, and which words of an entry from o on are in use.
pub record Entry : Type 1 where
  pub Holds : Type 0
  pub room : ℕ
  pub value_at : List ℕ → ℕ → Holds
  pub ValidAt : List ℕ → ℕ → Type 0
  pub Uses : List ℕ → ℕ → ℕ → Type 0

abbrev pub round_entry : (cells : ℕ) → Entry
round_entry cells =
    record { Holds = Round sheet; room = ROUND; value_at = round_at cells; ValidAt = λ xs o. Valid change_place xs (o + ROUND_CHANGES) cells; Uses = λ xs o i. (o ≤ i) × (i < o + ROUND_CHANGES + CHANGE * cells) }

abbrev pub item_entry : (devices cells : ℕ) → Entry
item_entry devices cells = record { Holds = Item sheet; room = ITEM; value_at = item_at devices cells; ValidAt = ValidItem devices cells; Uses = InItem devices cells }

-- ys is xs with v stored as the entry from o on.
pub record PutEntry (E : Entry) (xs ys : List ℕ) (o : ℕ) (v : E.Holds) : Type 0 where
  pub is : E.value_at ys o ≡ v
  pub valid : E.ValidAt ys o
  pub kept : (i : ℕ) → (E.Uses ys o i → ⊥) → get_or ys i 0 ≡ get_or xs i 0

-- What storing the entry from `from` on as the one from `to` on asks: both are in the slice, it is valid, and they are apart.
pub record EntryBeside (E : Entry) (xs : List ℕ) (to from : ℕ) : Type 0 where
  pub to_fits : to + E.room ≤ length xs
  pub from_fits : from + E.room ≤ length xs
  pub from_valid : E.ValidAt xs from
  pub apart : Apart to E.room from E.room

-- What moving the n entries from `from` on to `to` on asks, one after the other: none lands on one that is still to be moved.
pub record Movable (E : Entry) (xs : List ℕ) (to from n : ℕ) : Type 0 where
  pub to_fits : to + E.room * n ≤ length xs
  pub from_fits : from + E.room * n ≤ length xs
  pub from_valid : (j : ℕ) → j < n → E.ValidAt xs (from + E.room * j)
  pub ahead : (i j : ℕ) → i ≤ j → j < n → Apart (to + E.room * i) E.room (from + E.room * j) E.room

-- ys is xs with f j stored as the j-th of the n entries from o on.
pub record Moved (E : Entry) (xs ys : List ℕ) (o n : ℕ) (f : ℕ → E.Holds) : Type 0 where
  pub is : (j : ℕ) → j < n → E.value_at ys (o + E.room * j) ≡ f j
  pub valid : (j : ℕ) → j < n → E.ValidAt ys (o + E.room * j)
  pub kept : (i : ℕ) → ((j : ℕ) → j < n → E.Uses ys (o + E.room * j) i → ⊥) → get_or ys i 0 ≡ get_or xs i 0

-- The queue from o on, whose length is the word at l, is q and valid.
pub record QueueIs (E : Entry) (xs : List ℕ) (l o : ℕ) (q : List E.Holds) : Type 0 where
  pub is : queue (get_or xs l 0) (λ j. E.value_at xs (o + E.room * j)) ≡ q
  pub few : get_or xs l 0 ≤ QUEUE
  pub valid : (j : ℕ) → j < get_or xs l 0 → E.ValidAt xs (o + E.room * j)

-- xs became ys, whose queue is q; every word but the queue's is kept.
pub record Requeued (E : Entry) (xs ys : List ℕ) (l o : ℕ) (q : List E.Holds) : Type 0 where
  pub now_is : QueueIs E ys l o q
  pub kept : (i : ℕ) → (i ≡ l → ⊥) → ((j : ℕ) → j < get_or ys l 0 → E.Uses ys (o + E.room * j) i → ⊥) → get_or ys i 0 ≡ get_or xs i 0
