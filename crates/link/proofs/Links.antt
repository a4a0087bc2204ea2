-- A record of which the server changes only the link and the number taken. Assumes nothing.
use mathlib.Core.Path.{◌≡◌, refl, ap, ◌∙◌}
use mathlib.Core.Bool.{Bool}
use mathlib.Core.Logic.{⊎_elim}
use mathlib.Core.List.{List}
use Prim.Native.Nat.{ℕ, ◌+◌, ◌*◌, ◌≤◌, ◌<◌}
use native.Mathlib.Omega.{arith}
use lib.ListN.{length, get_or}
use Rattle.cells.specs.declared.Cell.TheVariants.{Blank}
use Rattle.cells.specs.declared.Change.TheVariants.{Nothing}
use Rattle.protocol.specs.Machine.{device_after, Channel, Connection, Device, Item, Link, Local, Round, fine, with_link, Answer}
use Rattle.sheet.specs.Sheet.{sheet}
use Rattle.words.specs.Layout.{QUEUE, ROUND, ITEM, LAST, TAKEN, CHANNEL, REQUEST, CONNECTION, COVERED, PENDING_LENGTH, WAITING_LENGTH, ITEMS_LENGTH, KNOWN, TRANSACTION, BUFFERED, PENDING, WAITING, ITEMS, RECORD}
use Rattle.words.specs.Place.{cell_place, change_place, Out}
use Rattle.words.proofs.Places.{lt_or_ge, cell_local, change_local}
use Rattle.record.specs.Reading.{device_of}
use Rattle.record.specs.Valid.{InUse}
use Rattle.record.specs.Did.{Did}
use Rattle.queues.specs.Parts.{Entry, QueueIs, Requeued, round_entry, item_entry}
use Rattle.queues.proofs.Entries.{LocalEntry, round_local, item_local, queue_kept, requeued_outside}
use Rattle.queues.proofs.Parts.{WordsAre, Parts, parts_of, parts_say, parts_valid, past_singles, places_kept, received_kept}
use Rattle.link.specs.Turn.{Sound, Turned}

-- The number taken, then the waiting rounds, then the items, then request and connection are stored anew: nothing else is.
pub record Chain (devices cells : ℕ) (xs y1 y2 y3 end : List ℕ) (waiting : List (Round sheet)) (items : List (Item sheet)) : Type 0 where
  pub sound : Sound devices cells xs
  pub numbered : (i : ℕ) → (i ≡ TAKEN → ⊥) → get_or y1 i 0 ≡ get_or xs i 0
  pub waits : Requeued (round_entry cells) y1 y2 WAITING_LENGTH WAITING waiting
  pub stands : Requeued (item_entry devices cells) y2 y3 ITEMS_LENGTH ITEMS items
  pub ends : (i : ℕ) → (i ≡ REQUEST → ⊥) → (i ≡ CONNECTION → ⊥) → get_or end i 0 ≡ get_or y3 i 0
  pub size : length end ≡ RECORD

-- A queue that is left as it is.
pub requeued_same : (E : Entry) (xs : List ℕ) (l o : ℕ) (q : List E.Holds) → QueueIs E xs l o q → Requeued E xs xs l o q
requeued_same E xs l o q Q = record { now_is = Q; kept = λ i n u. refl }

module _ (devices cells : ℕ) (xs y1 y2 y3 end : List ℕ) (waiting : List (Round sheet)) (items : List (Item sheet)) (C : Chain devices cells xs y1 y2 y3 end waiting items) where
  round_entries : LocalEntry (round_entry cells)
  round_entries = round_local cells C.sound.few_cells

  item_entries : LocalEntry (item_entry devices cells)
  item_entries = item_local devices cells C.sound.few_devices C.sound.few_cells

  out_of_items : (i : ℕ) → (i ≡ ITEMS_LENGTH → ⊥) → i < ITEMS → get_or y3 i 0 ≡ get_or y2 i 0
  out_of_items i n h = requeued_outside (item_entry devices cells) item_entries y2 y3 ITEMS_LENGTH ITEMS items C.stands i n (λ p q. omega arith)

  out_of_rounds : (i : ℕ) → (i ≡ WAITING_LENGTH → ⊥) → Out WAITING (ROUND * QUEUE) i → get_or y2 i 0 ≡ get_or y1 i 0
  out_of_rounds i n out = requeued_outside (round_entry cells) round_entries y1 y2 WAITING_LENGTH WAITING waiting C.waits i n out

  past_words : (i : ℕ) → CONNECTION < i → get_or end i 0 ≡ get_or y3 i 0
  past_words i h = C.ends i (λ e. omega arith) (λ e. omega arith)

  -- the device's own words
  own : (i : ℕ) → (i ≡ TAKEN → ⊥) → (i ≡ REQUEST → ⊥) → (i ≡ CONNECTION → ⊥) → (i ≡ WAITING_LENGTH → ⊥) → (i ≡ ITEMS_LENGTH → ⊥) → i < WAITING → get_or end i 0 ≡ get_or xs i 0
  own i a b c d e h = C.ends i b c ∙ out_of_items i e (omega arith) ∙ out_of_rounds i d (λ p q. omega arith) ∙ C.numbered i a

  body : (i : ℕ) → KNOWN ≤ i → i < WAITING → get_or end i 0 ≡ get_or xs i 0
  body i p q = own i (λ e. omega arith) (λ e. omega arith) (λ e. omega arith) (λ e. omega arith) (λ e. omega arith) q

  pub channel_kept : get_or end CHANNEL 0 ≡ get_or xs CHANNEL 0
  channel_kept = own CHANNEL (λ e. omega arith) (λ e. omega arith) (λ e. omega arith) (λ e. omega arith) (λ e. omega arith) (omega arith)

  from_rounds : (i : ℕ) → CONNECTION < i → (i ≡ ITEMS_LENGTH → ⊥) → i < ITEMS → get_or end i 0 ≡ get_or y2 i 0
  from_rounds i p n q = past_words i p ∙ out_of_items i n q

  module _ (c : Channel) (r : Bool) (k : Connection) (W : WordsAre end c r k) where
    after : Link sheet
    after = record { channel = c; request = r; connection = k; waiting = waiting; items = items }

    before : Parts devices cells xs (device_of devices cells xs)
    before = parts_of devices cells xs C.sound.valid

    parts : Parts devices cells end (with_link sheet (device_of devices cells xs) after)
    unfolding after
    parts = record {
      size = C.size;
      last = own LAST (λ e. omega arith) (λ e. omega arith) (λ e. omega arith) (λ e. omega arith) (λ e. omega arith) (omega arith) ∙ before.last;
      covered = own COVERED (λ e. omega arith) (λ e. omega arith) (λ e. omega arith) (λ e. omega arith) (λ e. omega arith) (omega arith) ∙ before.covered;
      words = W;
      known = places_kept cell_place cell_local Blank cells xs end KNOWN _ (λ i p q. body i (omega arith) (omega (arith, C.sound.few_cells))) before.known;
      transaction = places_kept change_place change_local Nothing cells xs end TRANSACTION _ (λ i p q. body i (omega arith) (omega (arith, C.sound.few_cells))) before.transaction;
      buffered = places_kept change_place change_local Nothing cells xs end BUFFERED _ (λ i p q. body i (omega arith) (omega (arith, C.sound.few_cells))) before.buffered;
      received = received_kept devices cells C.sound.few_devices C.sound.few_cells xs end _ (λ i p q. body i (omega arith) (omega arith)) before.received;
      pending = queue_kept (round_entry cells) round_entries xs end PENDING_LENGTH PENDING _ (own PENDING_LENGTH (λ e. omega arith) (λ e. omega arith) (λ e. omega arith) (λ e. omega arith) (λ e. omega arith) (omega arith)) (λ i p q. body i (omega arith) (omega arith)) before.pending;
      waiting = queue_kept (round_entry cells) round_entries y2 end WAITING_LENGTH WAITING waiting (from_rounds WAITING_LENGTH (omega arith) (λ e. omega arith) (omega arith)) (λ i p q. from_rounds i (omega arith) (λ e. omega arith) (omega arith)) C.waits.now_is;
      items = queue_kept (item_entry devices cells) item_entries y3 end ITEMS_LENGTH ITEMS items (past_words ITEMS_LENGTH (omega arith)) (λ i p q. past_words i (omega arith)) C.stands.now_is;
    }

    kept_is : (i : ℕ) → (InUse devices cells end i → ⊥) → get_or end i 0 ≡ get_or xs i 0
    kept_is i n =
        let k = past_singles devices cells end i n in
        ⊎_elim (λ h. body i k h) (λ g. ⊎_elim (λ h. in_rounds g h) (λ h. in_items h) (lt_or_ge i ITEMS)) (lt_or_ge i WAITING)
      where
        in_rounds : WAITING ≤ i → i < ITEMS → get_or end i 0 ≡ get_or xs i 0
        in_rounds p q =
            from_rounds i (omega arith) (λ e. omega arith) q
            ∙ C.waits.kept i (λ e. omega arith) (λ j h u. n (InUse.waiting j (omega (arith, from_rounds WAITING_LENGTH (omega arith) (λ e. omega arith) (omega arith))) u.0 u.1))
            ∙ C.numbered i (λ e. omega arith)

        in_items : ITEMS ≤ i → get_or end i 0 ≡ get_or xs i 0
        in_items p =
            past_words i (omega arith)
            ∙ C.stands.kept i (λ e. omega arith) (λ j h u. n (InUse.items j (omega (arith, past_words ITEMS_LENGTH (omega arith))) (item_entries.uses_same y3 end (ITEMS + ITEM * j) (λ m v. let b = item_entries.within y3 (ITEMS + ITEM * j) m v in past_words m (omega arith)) i u)))
            ∙ out_of_rounds i (λ e. omega arith) (λ u v. omega arith)
            ∙ C.numbered i (λ e. omega arith)

    pub link_turned : (n : ℕ) → get_or end TAKEN 0 ≡ n → Turned devices cells (with_link sheet (device_of devices cells xs) record { channel = c; request = r; connection = k; waiting = waiting; items = items }) n xs end
    unfolding after
    link_turned n e = record { says = parts_say devices cells end _ parts; taken = e; valid = parts_valid devices cells end _ parts; kept = kept_is }

-- A step that is done turns its record.
pub did_turned : (devices cells : ℕ) (f : Device sheet → Local sheet) (xs ys : List ℕ) (a : Answer sheet) (y : Device sheet) → f (device_of devices cells xs) ≡ fine y → Did devices cells f xs a ys → Turned devices cells y (get_or xs TAKEN 0) xs ys
did_turned devices cells f xs ys a y e D = record { says = D.after ∙ ap (device_after sheet (device_of devices cells xs)) e; taken = D.taken; valid = D.valid; kept = D.kept }
