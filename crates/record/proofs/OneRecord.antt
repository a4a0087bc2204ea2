-- Two valid records that say the same have the same words in use. Assumes nothing.
use mathlib.Core.Path.{◌≡◌, refl, sym, ap, ◌∙◌, subst}
use mathlib.Core.Logic.{◌⊎◌, ⊎_elim}
use mathlib.Core.List.{List}
use Prim.Native.Nat.{ℕ, zero, suc, ◌+◌, ◌*◌, ◌≤◌, ◌<◌}
use native.Mathlib.Omega.{arith}
use lib.ListN.{get_or}
use Rattle.cells.specs.declared.Cell.TheVariants.{Blank}
use Rattle.cells.specs.declared.Change.TheVariants.{Nothing}
use Rattle.protocol.specs.Machine.{Channel, Connection, Round, Link, Device}
use Rattle.sheet.specs.Sheet.{sheet}
use Rattle.words.specs.Layout.{CHANGE, ROUND, ROUND_CHANGES, ITEM, TAKEN, PENDING_LENGTH, WAITING_LENGTH, ITEMS_LENGTH, KNOWN, TRANSACTION, BUFFERED, RECEIVED, PENDING, WAITING, ITEMS}
use Rattle.words.specs.Place.{cell_place, change_place, Valid}
use Rattle.words.proofs.Places.{lt_or_ge}
use Rattle.record.specs.Reading.{round_at, item_at, buffer_of, channel_of, connection_of, request_of, link_of, device_of}
use Rattle.record.specs.Valid.{InItem, InUse, ValidRecord}
use Rattle.record.proofs.Queues.{same_lengths, same_entries}
use Rattle.record.proofs.SameQueues.{SameQueues, one_device, same_link, same_pending, same_waiting, same_items, same_received}
use Rattle.record.proofs.One.{cell_one, change_one, places_words, item_words}

channel_one : (a b : ℕ) → a ≤ 2 → b ≤ 2 → channel_of a ≡ channel_of b → a ≡ b
channel_one zero zero h k e = refl
channel_one zero (suc zero) h k e = let z : ◌≡◌ {A = ℕ} 0 1 = cc in absurd (omega arith)
channel_one zero (suc (suc b)) h k e = let z : ◌≡◌ {A = ℕ} 0 1 = cc in absurd (omega arith)
channel_one (suc zero) zero h k e = let z : ◌≡◌ {A = ℕ} 0 1 = cc in absurd (omega arith)
channel_one (suc zero) (suc zero) h k e = refl
channel_one (suc zero) (suc (suc b)) h k e = let z : ◌≡◌ {A = ℕ} 0 1 = cc in absurd (omega arith)
channel_one (suc (suc a)) zero h k e = let z : ◌≡◌ {A = ℕ} 0 1 = cc in absurd (omega arith)
channel_one (suc (suc a)) (suc zero) h k e = let z : ◌≡◌ {A = ℕ} 0 1 = cc in absurd (omega arith)
channel_one (suc (suc a)) (suc (suc b)) h k e = omega arith

-- a connection's number is the channel's of the same place
as_channel : Connection → Channel
as_channel Connection.unheld = Channel.off
as_channel Connection.live = Channel.asked
as_channel Connection.stale = Channel.established

as_channel_is : (a : ℕ) → as_channel (connection_of a) ≡ channel_of a
unfolding as_channel
as_channel_is zero = refl
as_channel_is (suc zero) = refl
as_channel_is (suc (suc a)) = refl

connection_one : (a b : ℕ) → a ≤ 2 → b ≤ 2 → connection_of a ≡ connection_of b → a ≡ b
connection_one a b h k e = channel_one a b h k (sym (as_channel_is a) ∙ ap as_channel e ∙ as_channel_is b)

request_one : (a b : ℕ) → a ≤ 1 → b ≤ 1 → request_of a ≡ request_of b → a ≡ b
request_one zero zero h k e = refl
request_one zero (suc b) h k e = let z : ◌≡◌ {A = ℕ} 0 1 = cc in absurd (omega arith)
request_one (suc a) zero h k e = let z : ◌≡◌ {A = ℕ} 0 1 = cc in absurd (omega arith)
request_one (suc a) (suc b) h k e = omega arith

-- The words of a round.
pub round_words : (cells : ℕ) (xs ys : List ℕ) (o : ℕ) → Valid change_place xs (o + ROUND_CHANGES) cells → Valid change_place ys (o + ROUND_CHANGES) cells → round_at cells xs o ≡ round_at cells ys o → (i : ℕ) → o ≤ i → i < o + ROUND_CHANGES + CHANGE * cells → get_or xs i 0 ≡ get_or ys i 0
unfolding round_at
round_words cells xs ys o X Y e i l h = ⊎_elim
    (λ n. let q : o ≡ i = omega arith in subst (λ (j : ℕ). get_or xs j 0 ≡ get_or ys j 0) q (ap (λ (r : Round sheet). r.number) e))
    (λ p. places_words change_place change_one Nothing cells xs ys (o + ROUND_CHANGES) X Y (ap (λ (r : Round sheet). r.delta) e) i (omega arith) h)
    (lt_or_ge i (o + ROUND_CHANGES))

module _ (devices cells : ℕ) (xs ys : List ℕ) (X : ValidRecord devices cells xs) (Y : ValidRecord devices cells ys) (taken : get_or xs TAKEN 0 ≡ get_or ys TAKEN 0) (e : device_of devices cells xs ≡ device_of devices cells ys) where
  same : SameQueues (device_of devices cells xs) (device_of devices cells ys)
  same = one_device _ _ e

  links : link_of devices cells xs ≡ link_of devices cells ys
  links = same_link devices cells xs ys same

  single_words : (i : ℕ) → i < KNOWN → get_or xs i 0 ≡ get_or ys i 0
  unfolding device_of link_of
  single_words zero h = ap (λ (x : Device sheet). x.last) e
  single_words (suc zero) h = taken
  single_words (suc (suc zero)) h = channel_one _ _ X.channel Y.channel (ap (λ (l : Link sheet). l.channel) links)
  single_words (suc (suc (suc zero))) h = request_one _ _ X.request Y.request (ap (λ (l : Link sheet). l.request) links)
  single_words (suc (suc (suc (suc zero)))) h = connection_one _ _ X.connection Y.connection (ap (λ (l : Link sheet). l.connection) links)
  single_words (suc (suc (suc (suc (suc zero))))) h = ap (λ (x : Device sheet). x.covered) e
  single_words (suc (suc (suc (suc (suc (suc zero)))))) h = same_lengths _ _ _ _ (ap (λ (x : Device sheet). x.pending) e)
  single_words (suc (suc (suc (suc (suc (suc (suc zero))))))) h = same_lengths _ _ _ _ (ap (λ (l : Link sheet). l.waiting) links)
  single_words (suc (suc (suc (suc (suc (suc (suc (suc zero)))))))) h = same_lengths _ _ _ _ (ap (λ (l : Link sheet). l.items) links)
  single_words (suc (suc (suc (suc (suc (suc (suc (suc (suc i))))))))) h = absurd (omega arith)

  -- the receive buffer is empty in both, or an item in both
  buffer_words : (i : ℕ) → (a b : ℕ) → get_or xs RECEIVED 0 ≡ a → get_or ys RECEIVED 0 ≡ b → buffer_of a (item_at devices cells xs RECEIVED) ≡ buffer_of b (item_at devices cells ys RECEIVED) → ((i ≡ RECEIVED) ⊎ ((0 < a) × InItem devices cells xs RECEIVED i)) → get_or xs i 0 ≡ get_or ys i 0
  buffer_words i zero zero p q r w = ⊎_elim (λ k. rw k (p ∙ sym q)) (λ u. absurd (omega (arith, u.0))) w
  buffer_words i zero (suc b) p q r w = let z : ◌≡◌ {A = ℕ} 0 1 = cc in absurd (omega arith)
  buffer_words i (suc a) zero p q r w = let z : ◌≡◌ {A = ℕ} 0 1 = cc in absurd (omega arith)
  buffer_words i (suc a) (suc b) p q r w =
      let one : item_at devices cells xs RECEIVED ≡ item_at devices cells ys RECEIVED = cc in
      let words = item_words devices cells xs ys RECEIVED (X.received (omega arith)) (Y.received (omega arith)) one in
      ⊎_elim (λ k. rw k (words RECEIVED InItem.kind)) (λ u. words i u.1) w

  pub record_words : (i : ℕ) → InUse devices cells xs i → get_or xs i 0 ≡ get_or ys i 0
  unfolding device_of
  record_words i (InUse.single h) = single_words i h
  record_words i (InUse.known l h) = places_words cell_place cell_one Blank cells xs ys KNOWN X.known Y.known (ap (λ (x : Device sheet). x.known) e) i l h
  record_words i (InUse.transaction l h) = places_words change_place change_one Nothing cells xs ys TRANSACTION X.transaction Y.transaction (ap (λ (x : Device sheet). x.transaction) e) i l h
  record_words i (InUse.buffered l h) = places_words change_place change_one Nothing cells xs ys BUFFERED X.buffered Y.buffered (ap (λ (x : Device sheet). x.buffered) e) i l h
  record_words i InUse.buffer_kind = buffer_words RECEIVED _ _ refl refl (same_received devices cells xs ys same) (◌⊎◌.inl refl)
  record_words i (InUse.received k u) = buffer_words i _ _ refl refl (same_received devices cells xs ys same) (◌⊎◌.inr (k, u))
  record_words i (InUse.pending j k l h) =
      let n = single_words PENDING_LENGTH (omega arith) in
      round_words cells xs ys (PENDING + ROUND * j) (X.pending j k) (Y.pending j (omega arith)) (same_entries _ _ _ _ (same_pending devices cells xs ys same) j k) i l h
  record_words i (InUse.waiting j k l h) =
      let n = single_words WAITING_LENGTH (omega arith) in
      round_words cells xs ys (WAITING + ROUND * j) (X.waiting j k) (Y.waiting j (omega arith)) (same_entries _ _ _ _ (same_waiting devices cells xs ys same) j k) i l h
  record_words i (InUse.items j k u) =
      let n = single_words ITEMS_LENGTH (omega arith) in
      item_words devices cells xs ys (ITEMS + ITEM * j) (X.items j k) (Y.items j (omega arith)) (same_entries _ _ _ _ (same_items devices cells xs ys same) j k) i u
