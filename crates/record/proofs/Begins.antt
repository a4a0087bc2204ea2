-- What `begin_knowing` and `begin` make of a record. Assumes nothing.
use mathlib.Core.Path.{◌≡◌, ap, ◌∙◌}
use mathlib.Core.List.{List}
use Prim.Native.Nat.{ℕ, ◌+◌, ◌*◌, ◌≤◌, ◌<◌}
use native.Mathlib.Omega.{arith}
use lib.ListN.{length, get_or, set, length-set}
use Rattle.cells.specs.declared.Cell.{Cell}
use Rattle.cells.specs.declared.Cell.TheVariants.{Blank}
use Rattle.cells.specs.declared.Change.TheVariants.{Nothing}
use Rattle.protocol.specs.Machine.{fresh_device}
use Rattle.sheet.specs.Sheet.{sheet}
use Rattle.words.specs.Layout.{CELL, CHANGE, ROUND, ITEM, LAST, TAKEN, CHANNEL, REQUEST, CONNECTION, COVERED, PENDING_LENGTH, WAITING_LENGTH, ITEMS_LENGTH, KNOWN, TRANSACTION, BUFFERED, RECEIVED, PENDING, WAITING, ITEMS, RECORD}
use Rattle.words.specs.Place.{cell_place, change_place, Filled, Numbers, Valid}
use Rattle.words.proofs.Places.{Same, set_kept, set_new, cell_local, change_local}
use Rattle.record.specs.Reading.{sheet_at, changes_at, round_at, item_at, buffer_of, received_at, channel_of, connection_of, request_of, link_of, device_of}
use Rattle.record.specs.Valid.{InUse, ValidRecord}
use Rattle.record.specs.Begun.{Begun}
use Rattle.record.proofs.Same.{places_same, places_valid}
use Rattle.record.proofs.Loops.{cleared}
use Rattle.record.proofs.Meanings.{empty_queue}

-- The changes are cleared one after the other, then the single numbers.
module _ (cells number : ℕ) (few : cells ≤ 64) (y1 y2 y3 y4 : List ℕ) (K : Valid cell_place y1 KNOWN cells) (T : Filled change_place y1 y2 TRANSACTION cells (λ k. Nothing)) (B : Filled change_place y2 y3 BUFFERED cells (λ k. Nothing)) (N : Numbers y3 y4 LAST KNOWN (λ k. 0)) (len : length y4 ≡ RECORD) where
  y5 : List ℕ
  y5 = set y4 RECEIVED 0

  y6 : List ℕ
  y6 = set y5 LAST number

  end : List ℕ
  end = set y6 TAKEN number

  from_y4 : (i : ℕ) → (i ≡ RECEIVED → ⊥) → (i ≡ LAST → ⊥) → (i ≡ TAKEN → ⊥) → get_or end i 0 ≡ get_or y4 i 0
  unfolding end y6 y5
  from_y4 i a b c = set_kept y6 TAKEN number i c ∙ set_kept y5 LAST number i b ∙ set_kept y4 RECEIVED 0 i a

  from_y3 : (i : ℕ) → KNOWN ≤ i → (i ≡ RECEIVED → ⊥) → get_or end i 0 ≡ get_or y3 i 0
  from_y3 i l r = from_y4 i r (λ e. omega arith) (λ e. omega arith) ∙ N.kept i (λ p q. omega arith)

  zero_at : (i : ℕ) → TAKEN < i → i < KNOWN → get_or end i 0 ≡ 0
  zero_at i l h = let e : LAST + i ≡ i = omega arith in from_y4 i (λ q. omega arith) (λ q. omega arith) (λ q. omega arith) ∙ (rw e at (N.is i h))

  last_is : get_or end LAST 0 ≡ number
  unfolding end y6 y5
  last_is = set_kept y6 TAKEN number LAST (λ q. omega arith) ∙ set_new y5 LAST number (simp length-set (omega arith))

  taken_is : get_or end TAKEN 0 ≡ number
  unfolding end y6 y5
  taken_is = set_new y6 TAKEN number (simp length-set (omega arith))

  received_is : get_or end RECEIVED 0 ≡ 0
  unfolding end y6 y5
  received_is = set_kept y6 TAKEN number RECEIVED (λ q. omega arith) ∙ set_kept y5 LAST number RECEIVED (λ q. omega arith) ∙ set_new y4 RECEIVED 0 (omega arith)

  known_same : Same y1 end KNOWN (CELL * cells)
  known_same i p q = from_y3 i p (λ e. omega arith) ∙ B.kept i (λ u v. omega arith) ∙ T.kept i (λ u v. omega arith)

  transaction_same : Same y2 end TRANSACTION (CHANGE * cells)
  transaction_same i p q = from_y3 i (omega arith) (λ e. omega arith) ∙ B.kept i (λ u v. omega arith)

  buffered_same : Same y3 end BUFFERED (CHANGE * cells)
  buffered_same i p q = from_y3 i (omega arith) (λ e. omega arith)

  known_is : sheet_at cells end KNOWN ≡ sheet_at cells y1 KNOWN
  known_is = places_same cell_place cell_local cells y1 end KNOWN known_same Blank

  transaction_is : changes_at cells end TRANSACTION ≡ (λ c. Nothing)
  transaction_is = places_same change_place change_local cells y2 end TRANSACTION transaction_same Nothing ∙ cleared cells y1 y2 TRANSACTION TRANSACTION change_place Nothing T

  buffered_is : changes_at cells end BUFFERED ≡ (λ c. Nothing)
  buffered_is = places_same change_place change_local cells y3 end BUFFERED buffered_same Nothing ∙ cleared cells y2 y3 BUFFERED BUFFERED change_place Nothing B

  says_is : (devices : ℕ) → device_of devices cells end ≡ fresh_device sheet (sheet_at cells y1 KNOWN) number
  unfolding device_of link_of received_at
  says_is devices = (λ i. record {
    known = known_is i;
    received = buffer_of (received_is i) (item_at devices cells end RECEIVED);
    pending = empty_queue (get_or end PENDING_LENGTH 0) (λ j. round_at cells end (PENDING + ROUND * j)) (zero_at PENDING_LENGTH (omega arith) (omega arith)) i;
    buffered = buffered_is i;
    covered = zero_at COVERED (omega arith) (omega arith) i;
    transaction = transaction_is i;
    last = last_is i;
    link = record {
      channel = channel_of (zero_at CHANNEL (omega arith) (omega arith) i);
      request = request_of (zero_at REQUEST (omega arith) (omega arith) i);
      connection = connection_of (zero_at CONNECTION (omega arith) (omega arith) i);
      waiting = empty_queue (get_or end WAITING_LENGTH 0) (λ j. round_at cells end (WAITING + ROUND * j)) (zero_at WAITING_LENGTH (omega arith) (omega arith)) i;
      items = empty_queue (get_or end ITEMS_LENGTH 0) (λ j. item_at devices cells end (ITEMS + ITEM * j)) (zero_at ITEMS_LENGTH (omega arith) (omega arith)) i;
    };
  })

  valid_is : (devices : ℕ) → ValidRecord devices cells end
  valid_is devices =
      let c = zero_at CHANNEL (omega arith) (omega arith) in
      let r = zero_at REQUEST (omega arith) (omega arith) in
      let n = zero_at CONNECTION (omega arith) (omega arith) in
      let p = zero_at PENDING_LENGTH (omega arith) (omega arith) in
      let w = zero_at WAITING_LENGTH (omega arith) (omega arith) in
      let m = zero_at ITEMS_LENGTH (omega arith) (omega arith) in
      let e = received_is in
      record {
        size = unfold end y6 y5 in (simp length-set len);
        channel = omega arith;
        request = omega arith;
        connection = omega arith;
        few_pending = omega arith;
        few_waiting = omega arith;
        few_items = omega arith;
        known = places_valid cell_place cell_local cells y1 end KNOWN known_same K;
        transaction = places_valid change_place change_local cells y2 end TRANSACTION transaction_same T.valid;
        buffered = places_valid change_place change_local cells y3 end BUFFERED buffered_same B.valid;
        received = λ h. absurd (omega arith);
        pending = λ j h. absurd (omega arith);
        waiting = λ j h. absurd (omega arith);
        items = λ j h. absurd (omega arith);
      }

  kept_is : (devices i : ℕ) → (InUse devices cells end i → ⊥) → get_or end i 0 ≡ get_or y1 i 0
  kept_is devices i n =
      from_y4 i (λ e. n (rw e InUse.buffer_kind)) (λ e. n (InUse.single (omega arith))) (λ e. n (InUse.single (omega arith)))
      ∙ N.kept i (λ p q. n (InUse.single (omega arith))) ∙ B.kept i (λ p q. n (InUse.buffered p q)) ∙ T.kept i (λ p q. n (InUse.transaction p q))

  pub begun : Begun cells (sheet_at cells y1 KNOWN) number y1 (set (set (set y4 RECEIVED 0) LAST number) TAKEN number)
  begun = unfold end y6 y5 in did
    where
      did : Begun cells (sheet_at cells y1 KNOWN) number y1 end
      did = record { says = says_is; taken = taken_is; valid = valid_is; kept = kept_is }

-- Where the known sheet is stored first, the record knows it.
pub begun_known : (cells number : ℕ) (xs ys zs : List ℕ) (f known : ℕ → Cell) → Filled cell_place xs ys KNOWN cells f → sheet_at cells ys KNOWN ≡ known → Begun cells (sheet_at cells ys KNOWN) number ys zs → Begun cells known number xs zs
begun_known cells number xs ys zs f known K e B = record {
  says = λ devices. B.says devices ∙ ap (λ (s : ℕ → Cell). fresh_device sheet s number) e;
  taken = B.taken;
  valid = B.valid;
  kept = λ devices i n. B.kept devices i n ∙ K.kept i (λ p q. n (InUse.known p q));
}

pub begun_blank : (cells number : ℕ) (xs ys zs : List ℕ) → Filled cell_place xs ys KNOWN cells (λ k. Blank) → Begun cells (sheet_at cells ys KNOWN) number ys zs → Begun cells (λ c. Blank) number xs zs
begun_blank cells number xs ys zs K B = begun_known cells number xs ys zs (λ k. Blank) (λ c. Blank) K (cleared cells xs ys KNOWN KNOWN cell_place Blank K) B
