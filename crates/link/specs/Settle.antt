-- "It applies them, sets the numbers, and puts one segment on every connection that is not stale"; "cut is a stop after a batch is stored: as
-- batch, but segments reach only devices numbered below j, then as crash": what both come to on one device. Assumes nothing.
use Rattle.std.specs.Prelude.{◌≡◌, Bool, false, List, ℕ, ◌+◌, ◌<◌, get_or}
use Rattle.protocol.specs.Machine.{Device, Item, choose, given, is_held, batched_at}
use Rattle.sheet.specs.Sheet.{sheet}
use Rattle.words.specs.Layout.{ITEM_KIND, ITEM_NUMBERS, SEGMENT, TAKEN, REQUEST, CONNECTION}
use Rattle.record.specs.Reading.{given_by, item_at, device_of}
use Rattle.delivery.specs.Deliver.{ItemReady}
use Rattle.link.specs.Ends.{ended}
use Rattle.link.specs.Turn.{Sound, Turned}

-- "sets the numbers": the number that a word of a segment gives is taken now.
pub record NumberTaken (word : ℕ) (xs ys : List ℕ) : Type 0 where
  pub taken : get_or ys TAKEN 0 ≡ given (given_by word) (get_or xs TAKEN 0)
  pub others : (i : ℕ) → (i ≡ TAKEN → ⊥) → get_or ys i 0 ≡ get_or xs i 0

-- A record that a batch can settle with the segment ss.
pub record Settling (devices cells d : ℕ) (xs ss : List ℕ) : Type 0 where
  pub sound : Sound devices cells xs
  pub ready : ItemReady devices cells ss
  pub is_segment : get_or ss ITEM_KIND 0 ≡ SEGMENT
  pub device : d < devices

-- With a crash neither connection nor request is left.
pub record HungUp (crash : Bool) (xs ys : List ℕ) : Type 0 where
  pub request : get_or ys REQUEST 0 ≡ choose crash 0 (get_or xs REQUEST 0)
  pub connection : get_or ys CONNECTION 0 ≡ choose crash 0 (get_or xs CONNECTION 0)
  pub others : (i : ℕ) → (i ≡ REQUEST → ⊥) → (i ≡ CONNECTION → ⊥) → get_or ys i 0 ≡ get_or xs i 0

-- A device after a batch that asked so many rounds of it and made the item, and after a cut.
abbrev pub settled : (count : ℕ) → (reaches crash : Bool) → Item sheet → Device sheet → Device sheet
settled count reaches crash i x =
    choose crash (ended false (batched_at sheet (choose (is_held x.link.connection) count 0) reaches i x)) (batched_at sheet (choose (is_held x.link.connection) count 0) reaches i x)

-- The same of its record, and the number taken.
abbrev pub Settled : (devices cells d count : ℕ) → (reaches crash : Bool) → (ss xs ys : List ℕ) → Type 0
Settled devices cells d count reaches crash ss xs =
    Turned devices cells (settled count reaches crash (item_at devices cells ss ITEM_KIND) (device_of devices cells xs)) (given (given_by (get_or ss (ITEM_NUMBERS + d) 0)) (get_or xs TAKEN 0)) xs
