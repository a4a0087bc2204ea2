-- "It applies them": the rounds that a batch takes, joined into one segment. Assumes nothing.
use Rattle.std.specs.Prelude.{◌≡◌, List, ℕ, ◌+◌, ◌≤◌, ◌<◌, length, get_or}
use Rattle.cells.specs.declared.Change.TheVariants.{Nothing}
use Rattle.protocol.specs.Machine.{join_rounds, last_number, rounds_at, all_rounds}
use Rattle.sheet.specs.Sheet.{sheet}
use Rattle.words.specs.Layout.{ITEM, ITEM_KIND, ITEM_NUMBERS, ITEM_PLACES, SEGMENT}
use Rattle.words.specs.Place.{change_place, Valid}
use Rattle.table.specs.Table.{reading}
use Rattle.record.specs.Reading.{changes_at, given_by}

-- The words of a segment that holds nothing yet.
pub record SegmentReady (cells : ℕ) (ss : List ℕ) : Type 0 where
  pub item : length ss ≡ ITEM
  pub kind : get_or ss ITEM_KIND 0 ≡ SEGMENT
  pub numbers : (d : ℕ) → d < 8 → get_or ss (ITEM_NUMBERS + d) 0 ≡ 0
  pub changes : changes_at cells ss ITEM_PLACES ≡ (λ c. Nothing)
  pub valid : Valid change_place ss ITEM_PLACES cells

-- "takes, for each device in rising number": the words ss are the segment of what the first n devices give, and r tells how many rounds it holds.
pub record Gathered (xs counts : List ℕ) (n cells r : ℕ) (ss : List ℕ) : Type 0 where
  pub item : length ss ≡ ITEM
  pub kind : get_or ss ITEM_KIND 0 ≡ SEGMENT
  pub many : r ≡ length (all_rounds sheet (reading xs) counts n)
  pub numbers : (d : ℕ) → d < n → given_by (get_or ss (ITEM_NUMBERS + d) 0) ≡ last_number sheet (rounds_at sheet (reading xs) counts d)
  pub ahead : (d : ℕ) → n ≤ d → d < 8 → get_or ss (ITEM_NUMBERS + d) 0 ≡ 0
  pub changes : changes_at cells ss ITEM_PLACES ≡ join_rounds sheet (λ c. Nothing) (all_rounds sheet (reading xs) counts n)
  pub valid : Valid change_place ss ITEM_PLACES cells
