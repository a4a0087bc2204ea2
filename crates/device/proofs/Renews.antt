-- What a new channel, or none, makes of a record. Assumes nothing.
use mathlib.Core.Path.{◌≡◌, refl, sym, ap, ◌∙◌}
use mathlib.Core.Bool.{Bool, true, false}
use mathlib.Core.List.{List, []}
use Prim.Native.Nat.{ℕ, zero, suc, ◌≤◌, ◌<◌}
use native.Mathlib.Omega.{arith}
use lib.ListN.{length, get_or, set, length-set}
use Rattle.protocol.specs.declared.Refusal.TheVariants.{NothingToDrop}
use Rattle.protocol.specs.Machine.{choose, unheld, stale, Link, is_held, with_link, renewed, ask_at, drop_at, Answer, done, refused}
use Rattle.sheet.specs.Sheet.{sheet}
use Rattle.words.specs.Layout.{ASKED, ESTABLISHED, STALE, LAST, TAKEN, CHANNEL, REQUEST, CONNECTION, COVERED, PENDING_LENGTH, WAITING_LENGTH, ITEMS_LENGTH, KNOWN, WAITING, RECORD}
use Rattle.words.proofs.Places.{set_kept, set_new}
use Rattle.record.specs.Reading.{channel_of, connection_of, request_of, link_of, device_of}
use Rattle.record.specs.Valid.{IsRecord}
use Rattle.record.proofs.Meanings.{empty_queue}
use Rattle.record.specs.Did.{Did}
use Rattle.device.specs.Named.{renew_at}
use Rattle.queues.specs.Parts.{QueueIs, round_entry}
use Rattle.queues.proofs.Parts.{Parts, did_parts, past_singles, last_stays, covered_stays, known_stays, transaction_stays, buffered_stays, received_stays, pending_stays, waiting_stays}
use Rattle.record.proofs.Steps.{told, did_as}

module _ (devices cells : ℕ) (xs : List ℕ) (channel request : ℕ) (R : IsRecord devices cells xs) (c : channel ≤ ESTABLISHED) (q : request ≤ 1) where
  y1 : List ℕ
  y1 = set xs CHANNEL channel

  y2 : List ℕ
  y2 = set y1 REQUEST request

  y3 : List ℕ
  y3 = set y2 ITEMS_LENGTH 0

  after : Link sheet
  after = renewed sheet (channel_of channel) (request_of request) (device_of devices cells xs).link

  -- the last store is to the connection or to the length of the waiting rounds
  module _ (end : List ℕ) (last-store : (i : ℕ) → (i ≡ CONNECTION → ⊥) → (i ≡ WAITING_LENGTH → ⊥) → get_or end i 0 ≡ get_or y3 i 0) (len : length end ≡ RECORD) where
    keep : (i : ℕ) → (i ≡ CHANNEL → ⊥) → (i ≡ REQUEST → ⊥) → (i ≡ ITEMS_LENGTH → ⊥) → (i ≡ CONNECTION → ⊥) → (i ≡ WAITING_LENGTH → ⊥) → get_or end i 0 ≡ get_or xs i 0
    unfolding y3 y2 y1
    keep i e f g h k = last-store i h k ∙ set_kept y2 ITEMS_LENGTH 0 i g ∙ set_kept y1 REQUEST request i f ∙ set_kept xs CHANNEL channel i e

    behind : (i : ℕ) → KNOWN ≤ i → get_or end i 0 ≡ get_or xs i 0
    behind i h = keep i (λ e. omega arith) (λ e. omega arith) (λ e. omega arith) (λ e. omega arith) (λ e. omega arith)

    channel_is : get_or end CHANNEL 0 ≡ channel
    unfolding y3 y2 y1
    channel_is =
        last-store CHANNEL (λ e. omega arith) (λ e. omega arith) ∙ set_kept y2 ITEMS_LENGTH 0 CHANNEL (λ e. omega arith) ∙ set_kept y1 REQUEST request CHANNEL (λ e. omega arith) ∙ set_new xs CHANNEL channel (omega (arith, R.valid.size))

    request_is : get_or end REQUEST 0 ≡ request
    unfolding y3 y2 y1
    request_is = last-store REQUEST (λ e. omega arith) (λ e. omega arith) ∙ set_kept y2 ITEMS_LENGTH 0 REQUEST (λ e. omega arith) ∙ set_new y1 REQUEST request (simp length-set (omega (arith, R.valid.size)))

    no_items : get_or end ITEMS_LENGTH 0 ≡ 0
    unfolding y3 y2 y1
    no_items = last-store ITEMS_LENGTH (λ e. omega arith) (λ e. omega arith) ∙ set_new y2 ITEMS_LENGTH 0 (simp length-set (omega (arith, R.valid.size)))

    -- of what the connection and the waiting rounds are then
    module _ (f : get_or end CONNECTION 0 ≤ STALE) (e : connection_of (get_or end CONNECTION 0) ≡ after.connection) (Q : QueueIs (round_entry cells) end WAITING_LENGTH WAITING after.waiting) where
      parts : Parts devices cells end (with_link sheet (device_of devices cells xs) after)
      unfolding after
      parts = record {
        size = len;
        last = last_stays devices cells xs end R (keep LAST (λ e. omega arith) (λ e. omega arith) (λ e. omega arith) (λ e. omega arith) (λ e. omega arith));
        covered = covered_stays devices cells xs end R (keep COVERED (λ e. omega arith) (λ e. omega arith) (λ e. omega arith) (λ e. omega arith) (λ e. omega arith));
        words = record { channel = ap channel_of channel_is; request = ap request_of request_is; connection = e; channel_fits = rw channel_is c; request_fits = rw request_is q; connection_fits = f };
        known = known_stays devices cells xs end R (λ i p q. behind i (omega arith));
        transaction = transaction_stays devices cells xs end R (λ i p q. behind i (omega arith));
        buffered = buffered_stays devices cells xs end R (λ i p q. behind i (omega arith));
        received = received_stays devices cells xs end R (λ i p q. behind i (omega arith));
        pending = pending_stays devices cells xs end R (keep PENDING_LENGTH (λ e. omega arith) (λ e. omega arith) (λ e. omega arith) (λ e. omega arith) (λ e. omega arith)) (λ i p q. behind i (omega arith));
        waiting = Q;
        items = record { is = empty_queue _ _ no_items; few = rw no_items (omega arith); valid = λ j h. absurd (omega (arith, no_items)) };
      }

      did_so : Did devices cells (renew_at (channel_of channel) (request_of request)) xs done end
      did_so =
          did_parts devices cells (renew_at (channel_of channel) (request_of request)) xs end (with_link sheet (device_of devices cells xs) after) (unfold after in refl) parts
          (keep TAKEN (λ e. omega arith) (λ e. omega arith) (λ e. omega arith) (λ e. omega arith) (λ e. omega arith))
          (λ i n. behind i (past_singles devices cells end i n))

  before_last : (i : ℕ) → REQUEST < i → (i ≡ ITEMS_LENGTH → ⊥) → get_or y3 i 0 ≡ get_or xs i 0
  unfolding y3 y2 y1
  before_last i l n = set_kept y2 ITEMS_LENGTH 0 i n ∙ set_kept y1 REQUEST request i (λ e. omega arith) ∙ set_kept xs CHANNEL channel i (λ e. omega arith)

  size_is : length y3 ≡ RECORD
  unfolding y3 y2 y1
  size_is = simp length-set R.valid.size

  held_is : (b : Bool) → is_held (connection_of (get_or xs CONNECTION 0)) ≡ b → (after.connection ≡ choose b stale unheld) × (after.waiting ≡ choose b (device_of devices cells xs).link.waiting [])
  unfolding after device_of link_of
  held_is b e = (ap (λ h. choose h stale unheld) e, ap (λ h. choose h (device_of devices cells xs).link.waiting []) e)

  -- no connection is held: none is now, and no round waits
  pub renew_unheld : get_or xs CONNECTION 0 ≡ 0 → Did devices cells (renew_at (channel_of channel) (request_of request)) xs done (set (set (set (set xs CHANNEL channel) REQUEST request) ITEMS_LENGTH 0) WAITING_LENGTH 0)
  renew_unheld e = unfold y3 y2 y1 in did
    where
      did : Did devices cells (renew_at (channel_of channel) (request_of request)) xs done (set y3 WAITING_LENGTH 0)
      did =
          let w = set_kept y3 WAITING_LENGTH 0 CONNECTION (λ e. omega arith) ∙ before_last CONNECTION (omega arith) (λ e. omega arith) ∙ e in
          let z = set_new y3 WAITING_LENGTH 0 (omega (arith, size_is)) in
          let h = held_is false (ap (λ (k : ℕ). is_held (connection_of k)) e) in
          did_so (set y3 WAITING_LENGTH 0) (λ i a b. set_kept y3 WAITING_LENGTH 0 i b) (simp length-set size_is) (omega (arith, w)) (ap connection_of w ∙ sym h.0)
          record { is = empty_queue _ _ z ∙ sym h.1; few = rw z (omega arith); valid = λ j l. absurd (omega (arith, z)) }

  -- a connection is held: it is stale now, and its rounds wait
  pub renew_held : (get_or xs CONNECTION 0 ≡ 0 → ⊥) → Did devices cells (renew_at (channel_of channel) (request_of request)) xs done (set (set (set (set xs CHANNEL channel) REQUEST request) ITEMS_LENGTH 0) CONNECTION STALE)
  renew_held n = unfold y3 y2 y1 in did
    where
      stays_held : (k : ℕ) → (k ≡ 0 → ⊥) → is_held (connection_of k) ≡ true
      stays_held zero n = absurd (n refl)
      stays_held (suc zero) n = refl
      stays_held (suc (suc k)) n = refl

      same : (i : ℕ) → CONNECTION < i → (i ≡ ITEMS_LENGTH → ⊥) → get_or (set y3 CONNECTION STALE) i 0 ≡ get_or xs i 0
      same i l n = set_kept y3 CONNECTION STALE i (λ e. omega arith) ∙ before_last i (omega arith) n

      did : Did devices cells (renew_at (channel_of channel) (request_of request)) xs done (set y3 CONNECTION STALE)
      did =
          let w = set_new y3 CONNECTION STALE (omega (arith, size_is)) in
          let h = held_is true (stays_held (get_or xs CONNECTION 0) n) in
          did_so (set y3 CONNECTION STALE) (λ i a b. set_kept y3 CONNECTION STALE i a) (simp length-set size_is) (omega (arith, w)) (ap connection_of w ∙ sym h.0)
          (rw h.1 (waiting_stays devices cells xs (set y3 CONNECTION STALE) R (same WAITING_LENGTH (omega arith) (λ e. omega arith)) (λ i p q. same i (omega arith) (λ e. omega arith))))

-- A device without a channel has nothing to drop; with one, it drops it.
module _ (devices cells : ℕ) (xs : List ℕ) where
  pub drop_refused : IsRecord devices cells xs → get_or xs CHANNEL 0 ≡ 0 → Did devices cells (drop_at sheet) xs (refused NothingToDrop) xs
  unfolding drop_at device_of link_of
  drop_refused R e = told devices cells (drop_at sheet) xs (refused NothingToDrop) R (rw e refl)

  pub drop_done : (ys : List ℕ) (a : Answer sheet) → (get_or xs CHANNEL 0 ≡ 0 → ⊥) → Did devices cells (renew_at (channel_of 0) (request_of 0)) xs a ys → Did devices cells (drop_at sheet) xs a ys
  unfolding drop_at device_of link_of
  drop_done ys a n D = did_as devices cells (renew_at (channel_of 0) (request_of 0)) (drop_at sheet) xs ys a (go (get_or xs CHANNEL 0) n refl) D
    where
      go : (k : ℕ) → (k ≡ 0 → ⊥) → get_or xs CHANNEL 0 ≡ k → renew_at (channel_of 0) (request_of 0) (device_of devices cells xs) ≡ drop_at sheet (device_of devices cells xs)
      go zero n e = absurd (n refl)
      go (suc zero) n e = rw e refl
      go (suc (suc k)) n e = rw e refl

  pub ask_done : (ys : List ℕ) (a : Answer sheet) → Did devices cells (renew_at (channel_of ASKED) (request_of 1)) xs a ys → Did devices cells (ask_at sheet) xs a ys
  unfolding ask_at
  ask_done ys a D = did_as devices cells (renew_at (channel_of ASKED) (request_of 1)) (ask_at sheet) xs ys a refl D
