-- "the present prefix (sheet and all numbers)". Assumes nothing.
use Rattle.std.specs.Prelude.{◌≡◌, List, ℕ, length}
use Rattle.protocol.specs.Machine.{prefix}
use Rattle.words.specs.Layout.{ITEM, ITEM_KIND}
use Rattle.record.specs.Reading.{item_at}
use Rattle.record.specs.Valid.{ValidItem}
use Rattle.table.specs.Table.{reading}

-- The words ss are the prefix of the table xs.
pub record PrefixIs (xs : List ℕ) (devices cells : ℕ) (ss : List ℕ) : Type 0 where
  pub item : length ss ≡ ITEM
  pub is : item_at devices cells ss ITEM_KIND ≡ prefix (reading xs).sheet (reading xs).taken
  pub valid : ValidItem devices cells ss ITEM_KIND
