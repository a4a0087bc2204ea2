-- Document 01's rounds, "numbered with its last push", as they lie in a record's queues. Assumes nothing.
use Rattle.std.specs.Prelude.{◌≡◌, List, [], ◌∷◌, ◌++◌, ℕ, ◌+◌, ◌*◌, ◌≤◌, ◌<◌, length, get_or}
use Rattle.protocol.specs.Machine.{Round}
use Rattle.sheet.specs.Sheet.{sheet}
use Rattle.words.specs.Layout.{MOST_CELLS, QUEUE, ROUND, ROUND_CHANGES, LAST, PENDING_LENGTH, KNOWN, BUFFERED, PENDING, RECORD}
use Rattle.words.specs.Place.{change_place, Valid}
use Rattle.record.specs.Reading.{changes_at, queue, round_at}

-- A round of a number, with the changes from `from` on.
abbrev pub round_from : (cells : ℕ) → List ℕ → (number from : ℕ) → Round sheet
round_from cells xs number from = record { number = number; delta = changes_at cells xs from }

-- The rounds from o on, as many as the word at l says.
abbrev pub rounds_of : (cells : ℕ) → List ℕ → (l o : ℕ) → List (Round sheet)
rounds_of cells xs l o = queue (get_or xs l 0) (λ j. round_at cells xs (o + ROUND * j))

-- These, and a round of the push buffer, "numbered with its last push".
abbrev pub with_round : (cells : ℕ) → List ℕ → (l o : ℕ) → List (Round sheet)
with_round cells xs l o = rounds_of cells xs l o ++ (round_from cells xs (get_or xs LAST 0) BUFFERED ∷ [])

-- What adding a round to the queue from o on asks, whose length is the word at l: it is a queue of the record, and has room.
pub record Addable (cells : ℕ) (xs : List ℕ) (l o : ℕ) : Type 0 where
  pub size : length xs ≡ RECORD
  pub few_cells : cells ≤ MOST_CELLS
  pub past_last : LAST < l
  pub single : l < KNOWN
  pub behind : PENDING ≤ o
  pub fits : o + ROUND * QUEUE ≤ RECORD
  pub room : get_or xs l 0 < QUEUE
  pub rounds : (j : ℕ) → j < get_or xs l 0 → Valid change_place xs (o + ROUND * j + ROUND_CHANGES) cells
  pub buffered : Valid change_place xs BUFFERED cells

-- The first s pending rounds are numbered up to a number, and the next is not.
pub record CountedTo (xs : List ℕ) (number s : ℕ) : Type 0 where
  pub few : s ≤ get_or xs PENDING_LENGTH 0
  pub up_to : (j : ℕ) → j < s → get_or xs (PENDING + ROUND * j) 0 ≤ number
  pub next : s < get_or xs PENDING_LENGTH 0 → number < get_or xs (PENDING + ROUND * s) 0

-- The pending rounds of a record are within its length, and valid.
pub record HasPending (cells : ℕ) (xs : List ℕ) : Type 0 where
  pub size : length xs ≡ RECORD
  pub few_cells : cells ≤ MOST_CELLS
  pub few : get_or xs PENDING_LENGTH 0 ≤ QUEUE
  pub rounds : (j : ℕ) → j < get_or xs PENDING_LENGTH 0 → Valid change_place xs (PENDING + ROUND * j + ROUND_CHANGES) cells
