-- "Each public function's promise determines its answer and the table and buffers afterwards": the public calls on lent words, each with what
-- stands in its `ensures`, said of the machine's answer, and lists of them. Assumes nothing.
use Rattle.std.specs.Prelude.{◌≡◌, Bool, true, false, List, [], ◌∷◌, ℕ}
use Rattle.cells.specs.declared.Cell.{Cell}
use Rattle.cells.specs.declared.Update.{Update}
use Rattle.protocol.specs.Machine.{Start, step, Answer, done}
use Rattle.protocol.specs.Machine as machine
use Rattle.protocol.specs.History.{Every}
use Rattle.sheet.specs.Sheet.{sheet, started}
use Rattle.device.specs.Named.{update_of}
use Rattle.table.specs.Promise.{Stepped, Started}
use Rattle.block.specs.Block.{updates_in}
use Rattle.block.specs.declared.Entry.{Entry}
use Rattle.coding.specs.Image.{image_of, Allowed}
use Rattle.image.specs.Promise.{Written, Opened, start_of}

-- A call, with its arguments besides the lent words. `give_up` is document 01's drop. Writing an image has a buffer, as it was and as it is then.
pub data Call : Type 0 where
  start : (devices cells : ℕ) → Call
  update : (d cell : ℕ) → Update → Call
  block : (d : ℕ) (entries : List Entry) → Call
  read : (d cell : ℕ) → Call
  confirmed push send ask give_up receive pull accept serverdrop : (d : ℕ) → Call
  batch : (counts : List ℕ) → Call
  crash : Call
  cut : (counts : List ℕ) (reach : ℕ) → Call
  write_image : (buffer buffer' : List ℕ) → Call
  open_image : (bytes : List ℕ) → Call

-- On the words xs it may answer a and leave the words ys. Words that are lent only to be read are left as they are.
abbrev pub Called : Call → List ℕ → Answer sheet → List ℕ → Type 0
Called (start devices cells) xs a ys = Started devices cells xs a ys
Called (update d cell u) xs a ys = Stepped (step sheet (machine.update d (update_of cell u))) xs a ys
Called (block d entries) xs a ys = Stepped (step sheet (machine.block d (updates_in entries))) xs a ys
Called (read d cell) xs a ys = Stepped (step sheet (machine.read d cell)) xs a xs × (ys ≡ xs)
Called (confirmed d) xs a ys = Stepped (step sheet (machine.confirmed d)) xs a xs × (ys ≡ xs)
Called (push d) xs a ys = Stepped (step sheet (machine.push d)) xs a ys
Called (send d) xs a ys = Stepped (step sheet (machine.send d)) xs a ys
Called (ask d) xs a ys = Stepped (step sheet (machine.ask d)) xs a ys
Called (give_up d) xs a ys = Stepped (step sheet (machine.drop_channel d)) xs a ys
Called (receive d) xs a ys = Stepped (step sheet (machine.receive d)) xs a ys
Called (pull d) xs a ys = Stepped (step sheet (machine.pull d)) xs a ys
Called (accept d) xs a ys = Stepped (step sheet (machine.accept d)) xs a ys
Called (serverdrop d) xs a ys = Stepped (step sheet (machine.serverdrop d)) xs a ys
Called (batch counts) xs a ys = Stepped (step sheet (machine.batch counts)) xs a ys
Called crash xs a ys = Stepped (step sheet machine.crash) xs a ys
Called (cut counts reach) xs a ys = Stepped (step sheet (machine.cut counts reach)) xs a ys
Called (write_image buffer buffer') xs a ys = Written xs buffer a buffer' × (ys ≡ xs)
Called (open_image bytes) xs a ys = Opened bytes xs a ys

-- A call that was made, and its answer.
pub record Made : Type 0 where
  pub call : Call
  pub answer : Answer sheet

-- Calls one after the other, from the words xs to the words ys.
abbrev pub Calls : List ℕ → List Made → List ℕ → Type 0
Calls xs [] ys = ys ≡ xs
Calls xs (m ∷ ms) ys = (zs : List ℕ) × Called m.call xs m.answer zs × Calls zs ms ys

-- The two calls that make a table anew.
abbrev pub anew : Call → Bool
anew (start devices cells) = true
anew (update d cell u) = false
anew (block d entries) = false
anew (read d cell) = false
anew (confirmed d) = false
anew (push d) = false
anew (send d) = false
anew (ask d) = false
anew (give_up d) = false
anew (receive d) = false
anew (pull d) = false
anew (accept d) = false
anew (serverdrop d) = false
anew (batch counts) = false
anew crash = false
anew (cut counts reach) = false
anew (write_image buffer buffer') = false
anew (open_image bytes) = true

-- A start or an opening that is done: the words then say another table, with a history of its own.
abbrev pub Renews : Made → Type 0
Renews m = (anew m.call ≡ true) × (m.answer ≡ done)

-- Words just started, or just opened from an image, and what their table begins with. Bytes that are no image are never opened.
pub data Begun : Start sheet → List ℕ → Type 0 where
  at_start : (devices cells : ℕ) (xs ys : List ℕ) → Called (start devices cells) xs done ys → Begun (started devices cells) ys
  at_opening : (cells : List Cell) (numbers xs ys : List ℕ) → Allowed cells numbers → Called (open_image (image_of cells numbers)) xs done ys → Begun (start_of cells numbers) ys

-- The calls of one table, refused ones too: from words just started or just opened, up to the next start or opening that is done.
pub record Run (b : Start sheet) (ms : List Made) (xs : List ℕ) : Type 0 where
  pub first : List ℕ
  pub begun : Begun b first
  pub calls : Calls first ms xs
  pub goes_on : Every (λ m. Renews m → ⊥) ms
