-- "demand 3 over lists", of the calls: what every list of them comes to, and what the next call answers. Assumes nothing.
use Rattle.std.specs.Prelude.{◌≡◌, ◌↔◌, Ok, true, false, List, [], ◌∷◌, ◌++◌, map, ℕ, ◌+◌, ◌<◌, length, take, drop, replicate}
use Rattle.cells.specs.declared.Cell.{Cell}
use Rattle.protocol.specs.declared.Refusal.{Refusal}
use Rattle.protocol.specs.Machine.{Start, Step, Table, Result, step, batched_unless0, after_crash, Answer, done, value, says_yes, says_no, moved, length_is, refused, refused_at}
use Rattle.protocol.specs.Machine as machine
use Rattle.protocol.specs.History.{Every, History, apply_all, flat, mine, table_after, history_after}
use Rattle.protocol.specs.Claims.{Explained, Onward, sheet_at, waiting_in}
use Rattle.protocol.specs.Refusals.{number_of}
use Rattle.sheet.specs.Changes.{idle_below}
use Rattle.sheet.specs.Sheet.{sheet}
use Rattle.sheet.specs.Answer.{Given, BlockGiven, meaning, block_meaning}
use Rattle.sheet.specs.declared.Answer.TheVariants.{Done, Value, Yes}
use Rattle.device.specs.Named.{update_of}
use Rattle.table.specs.Promise.{Stepped}
use Rattle.table.specs.Table.{reading, IsTable}
use Rattle.block.specs.Block.{updates_in}
use Rattle.desk.specs.Calls.{Call, Called, Made, Calls, Renews, Begun, Run, anew, start, update, block, read, confirmed, push, send, ask, give_up, receive, pull, accept, serverdrop, batch, crash, cut, write_image, open_image}

-- The machine's step of a call. A start and an opening that are refused have none, and neither has writing an image.
abbrev pub step_of_call : Call → List (Step sheet)
step_of_call (start devices cells) = []
step_of_call (update d cell u) = machine.update d (update_of cell u) ∷ []
step_of_call (block d entries) = machine.block d (updates_in entries) ∷ []
step_of_call (read d cell) = machine.read d cell ∷ []
step_of_call (confirmed d) = machine.confirmed d ∷ []
step_of_call (push d) = machine.push d ∷ []
step_of_call (send d) = machine.send d ∷ []
step_of_call (ask d) = machine.ask d ∷ []
step_of_call (give_up d) = machine.drop_channel d ∷ []
step_of_call (receive d) = machine.receive d ∷ []
step_of_call (pull d) = machine.pull d ∷ []
step_of_call (accept d) = machine.accept d ∷ []
step_of_call (serverdrop d) = machine.serverdrop d ∷ []
step_of_call (batch counts) = machine.batch counts ∷ []
step_of_call crash = machine.crash ∷ []
step_of_call (cut counts reach) = machine.cut counts reach ∷ []
step_of_call (write_image buffer buffer') = []
step_of_call (open_image bytes) = []

abbrev pub steps_of : List Made → List (Step sheet)
steps_of [] = []
steps_of (m ∷ ms) = step_of_call m.call ++ steps_of ms

-- The history of the calls: what each device pushed, in which order the server took it, and how far each device has pulled.
abbrev pub history_of : Start sheet → List Made → History sheet
history_of b ms = history_after sheet b (steps_of ms)

-- What device d reads in a history: the beginning of the shared list that it has pulled, then its own pushes outside of it, then its open edits, each update applied singly.
abbrev pub read_by : Start sheet → History sheet → ℕ → ℕ → Cell
read_by b h d =
    apply_all sheet (h.past d).edits
    (apply_all sheet (flat sheet (drop (length (mine sheet d (take (h.past d).pulled h.log))) (h.past d).made))
    (sheet_at sheet b.sheet h.log (h.past d).pulled))

-- The number of a refusal, and 0 of every other answer.
abbrev pub refusal_number : Answer sheet → ℕ
refusal_number done = 0
refusal_number (value c) = 0
refusal_number says_yes = 0
refusal_number says_no = 0
refusal_number (moved k) = 0
refusal_number (length_is k) = 0
refusal_number (refused r) = number_of r
refusal_number (refused_at r k) = number_of r

-- "A refusal returns its number": 1 where the contents are no table; else document 01's number of the machine's refusal, and 0 where it gives none.
pub record ByNumber (s : Table sheet → Result sheet) (xs : List ℕ) (a : Answer sheet) : Type 0 where
  pub no_table : (IsTable xs → ⊥) → refusal_number a ≡ 1
  pub refusal : IsTable xs → (r : Refusal) → (s (reading xs)).answer ≡ machine.refused r → refusal_number a ≡ number_of r
  pub refusal_at : IsTable xs → (r : Refusal) (k : ℕ) → (s (reading xs)).answer ≡ machine.refused_at r k → refusal_number a ≡ number_of r
  pub no_refusal : IsTable xs → ((r : Refusal) → (s (reading xs)).answer ≡ machine.refused r → ⊥)
      → ((r : Refusal) (k : ℕ) → (s (reading xs)).answer ≡ machine.refused_at r k → ⊥) → refusal_number a ≡ 0

abbrev pub RefusalsByNumber : Type 0
RefusalsByNumber = (s : Table sheet → Result sheet) (xs ys : List ℕ) (a : Answer sheet) → Stepped s xs a ys → ByNumber s xs a

-- What a call on the words xs, which say the table t, answers, and what it leaves where it is refused.
pub record Next (t : Table sheet) (c : Call) (xs : List ℕ) (a : Answer sheet) (ys : List ℕ) : Type 0 where
  -- the machine's answer, where the call is a step of the machine
  pub answers : Every (λ s. a ≡ (step sheet s t).answer) (step_of_call c)
  -- "Every reached table is one, so 1 never comes from it": a start's or an opening's 1 is about the room for what it is to make
  pub never_1 : anew c ≡ false → refusal_number a ≡ 1 → ⊥
  -- "A refusal .. leaves table .. untouched": every word
  pub untouched : 0 < refusal_number a → ys ≡ xs

-- "serverdrop, ask, accept, receive, batch 8, receive, pull, send, batch 8, receive, pull, done in a row with .. other devices' counts 0"
abbrev pub reconnect : ℕ → List Call
reconnect d =
    serverdrop d ∷ ask d ∷ accept d ∷ receive d ∷ batch (replicate d 0 ++ (8 ∷ [])) ∷ receive d ∷ pull d ∷ send d ∷ batch (replicate d 0 ++ (8 ∷ [])) ∷ receive d ∷ pull d ∷ []

-- Of the words xs to which the calls ms led, from a table that began as b.
pub record Reached (b : Start sheet) (ms : List Made) (xs : List ℕ) : Type 0 where
  -- they say what the machine comes to by the calls' steps, and are a table
  pub says : reading xs ≡ table_after sheet b (steps_of ms)
  pub is_table : IsTable xs
  -- one list of pushes, each device's in order, no gap, none twice, the others not lost; the server's sheet is that list; what each device
  -- knows is a beginning of it (protocol, specs/Claims.antt)
  pub explained : Explained sheet b (reading xs) (history_of b ms)
  -- whatever is called next, refused or not
  pub next : (c : Call) (a : Answer sheet) (ys : List ℕ) → Called c xs a ys → Next (reading xs) c xs a ys
  -- ".. and output buffer untouched"
  pub buffer_untouched : (buffer buffer' : List ℕ) (a : Answer sheet) (ys : List ℕ) → Called (write_image buffer buffer') xs a ys → 0 < refusal_number a → buffer' ≡ buffer
  -- each read's value
  pub reads : (d c : ℕ) (a : Answer sheet) (ys : List ℕ) → Called (read d c) xs a ys → d < b.devices → c < b.cells → a ≡ value (read_by b (history_of b ms) d c)
  -- each yes of confirmed: all that the device pushed stands in the beginning that it knows, and it has no open edit
  pub confirms : (d : ℕ) (ys : List ℕ) → Called (confirmed d) xs says_yes ys
      → (((history_of b ms).past d).made ≡ mine sheet d (take ((history_of b ms).past d).pulled (history_of b ms).log)) × (((history_of b ms).past d).edits ≡ [])
  -- each `moved`: "it equals the rounds by which the waiting lists shrink, in `cut` before its crash"
  pub moves : (counts : List ℕ) (k : ℕ) (ys : List ℕ) → Called (batch counts) xs (moved k) ys → waiting_in sheet (reading ys) b.devices + k ≡ waiting_in sheet (reading xs) b.devices
  pub cuts : (counts : List ℕ) (reach k : ℕ) (ys : List ℕ) → Called (cut counts reach) xs (moved k) ys
      → (reading ys ≡ after_crash sheet (batched_unless0 sheet (reading xs) counts reach)) × (waiting_in sheet (batched_unless0 sheet (reading xs) counts reach) b.devices + k ≡ waiting_in sheet (reading xs) b.devices)
  -- later calls of the same table: list and pushes only grow at their ends, and no device goes back to a shorter beginning
  pub onward : (more : List Made) → Onward sheet (history_of b ms) (history_of b (ms ++ more))
  -- reconnecting ends in confirmed yes, whatever is refused on the way
  pub reconnects : (d : ℕ) → d < b.devices → idle_below b.cells ((reading xs).device d).transaction ≡ true
      → (ns : List Made) → map (λ m. m.call) ns ≡ reconnect d → (ys zs : List ℕ) (a : Answer sheet) → Calls xs ns ys → Called (confirmed d) ys a zs → a ≡ says_yes

-- demand 3, for every list of calls
abbrev pub Demand3OverCalls : Type 0
Demand3OverCalls = (b : Start sheet) (ms : List Made) (xs : List ℕ) → Run b ms xs → Reached b ms xs

-- The same of what is given: a read's value, confirmed behind reconnecting, and a start or an opening that is done.
abbrev pub ReadsGiven : Type 0
ReadsGiven = (b : Start sheet) (ms : List Made) (xs : List ℕ) → Run b ms xs → (d c : ℕ) (r : Given) (ys : List ℕ)
    → Called (read d c) xs (meaning r) ys → d < b.devices → c < b.cells → r ≡ Ok (Value (read_by b (history_of b ms) d c))

abbrev pub ReconnectsGiven : Type 0
ReconnectsGiven = (b : Start sheet) (ms : List Made) (xs : List ℕ) → Run b ms xs → (d : ℕ) → d < b.devices
    → idle_below b.cells ((reading xs).device d).transaction ≡ true → (ns : List Made) → map (λ m. m.call) ns ≡ reconnect d
    → (ys zs : List ℕ) (r : Given) → Calls xs ns ys → Called (confirmed d) ys (meaning r) zs → r ≡ Ok Yes

abbrev pub RenewsGiven : Type 0
RenewsGiven = (c : Call) (r : BlockGiven) → Renews (record { call = c; answer = block_meaning r }) ↔ ((anew c ≡ true) × (r ≡ Ok Done))

-- Each call of a list is the next one on words to which the calls before it led, so the above is about each call's answer.
abbrev pub EachCall : Type 0
EachCall = (b : Start sheet) (ms ns : List Made) (m : Made) (zs : List ℕ) → Run b (ms ++ (m ∷ ns)) zs → (xs ys : List ℕ) × Run b ms xs × Called m.call xs m.answer ys × Calls ys ns zs

-- Every start and every opening that is done begins such a run, so each list of calls falls into runs.
abbrev pub AlwaysBegins : Type 0
AlwaysBegins = (m : Made) (xs ys : List ℕ) → Called m.call xs m.answer ys → Renews m → (b : Start sheet) × Begun b ys

-- Read and confirmed, of which the calls lend the words only to be read, leave every word as it is: no outcome of the machine's step has others.
abbrev pub LookingLeaves : Type 0
LookingLeaves = (d c : ℕ) (xs ys : List ℕ) (a : Answer sheet)
    → (Stepped (step sheet (machine.read d c)) xs a ys → ys ≡ xs) × (Stepped (step sheet (machine.confirmed d)) xs a ys → ys ≡ xs)
