-- What single words, items and queues of rounds mean for the conditions on a device. Assumes nothing.
use mathlib.Core.Path.{◌≡◌, refl, sym, ap, ◌∙◌}
use mathlib.Core.Bool.{true, false}
use mathlib.Core.List.{List, []}
use mathlib.Core.Option.{some}
use Prim.Native.Nat.{ℕ, zero, suc, ◌+◌, ◌*◌, ◌-◌, ◌≤◌, ◌<◌}
use native.Mathlib.Omega.{arith}
use lib.ListN.{length, get_or}
use borrow.Author.Tests.{lt-ltb}
use Rattle.protocol.specs.Machine.{given, gives, off, asked, established, live, stale, is_established, is_stale}
use Rattle.protocol.specs.Fits.{numbers, number_at, is_prefix}
use Rattle.sheet.specs.Sheet.{sheet}
use Rattle.words.specs.Layout.{ROUND, ITEM_NUMBERS, PREFIX, ASKED, ESTABLISHED, LIVE, STALE}
use Rattle.words.proofs.Tests.{true_false}
use Rattle.record.specs.Reading.{queue, round_at, numbers_at, given_at, given_by, item_of, item_at, channel_of, connection_of, request_of}
use Rattle.record.specs.Valid.{ValidItem}
use Rattle.record.proofs.Queues.{queue_length, queue_entry, queue_map}

-- The words of a channel, a connection and a request.
pub channel_off : (w : ℕ) → channel_of w ≡ off → w ≡ 0
channel_off zero e = refl
channel_off (suc zero) e = let z : ◌≡◌ {A = ℕ} 0 1 = cc in absurd (omega arith)
channel_off (suc (suc w)) e = let z : ◌≡◌ {A = ℕ} 0 1 = cc in absurd (omega arith)

pub channel_asked : (w : ℕ) → channel_of w ≡ asked → w ≡ ASKED
channel_asked zero e = let z : ◌≡◌ {A = ℕ} 0 1 = cc in absurd (omega arith)
channel_asked (suc zero) e = refl
channel_asked (suc (suc w)) e = let z : ◌≡◌ {A = ℕ} 0 1 = cc in absurd (omega arith)

pub not_established : (w : ℕ) → is_established (channel_of w) ≡ false → w ≡ ESTABLISHED → ⊥
not_established zero e q = omega arith
not_established (suc zero) e q = omega arith
not_established (suc (suc w)) e q = true_false e

pub is_not_established : (w : ℕ) → w ≤ ESTABLISHED → (w ≡ ESTABLISHED → ⊥) → is_established (channel_of w) ≡ false
is_not_established zero h n = refl
is_not_established (suc zero) h n = refl
is_not_established (suc (suc w)) h n = absurd (n (omega arith))

pub channel_established : (w : ℕ) → w ≤ ESTABLISHED → channel_of w ≡ established → w ≡ ESTABLISHED
channel_established zero h e = let z : ◌≡◌ {A = ℕ} 0 1 = cc in absurd (omega arith)
channel_established (suc zero) h e = let z : ◌≡◌ {A = ℕ} 0 1 = cc in absurd (omega arith)
channel_established (suc (suc w)) h e = omega arith

pub connection_live : (w : ℕ) → connection_of w ≡ live → w ≡ LIVE
connection_live zero e = let z : ◌≡◌ {A = ℕ} 0 1 = cc in absurd (omega arith)
connection_live (suc zero) e = refl
connection_live (suc (suc w)) e = let z : ◌≡◌ {A = ℕ} 0 1 = cc in absurd (omega arith)

pub connection_stale : (w : ℕ) → w ≤ STALE → connection_of w ≡ stale → w ≡ STALE
connection_stale zero h e = let z : ◌≡◌ {A = ℕ} 0 1 = cc in absurd (omega arith)
connection_stale (suc zero) h e = let z : ◌≡◌ {A = ℕ} 0 1 = cc in absurd (omega arith)
connection_stale (suc (suc w)) h e = omega arith

pub not_stale : (w : ℕ) → is_stale (connection_of w) ≡ false → w ≡ STALE → ⊥
not_stale zero e q = omega arith
not_stale (suc zero) e q = omega arith
not_stale (suc (suc w)) e q = true_false e

pub is_not_stale : (w : ℕ) → w ≤ STALE → (w ≡ STALE → ⊥) → is_stale (connection_of w) ≡ false
is_not_stale zero h n = refl
is_not_stale (suc zero) h n = refl
is_not_stale (suc (suc w)) h n = absurd (n (omega arith))

pub request_there : (w : ℕ) → request_of w ≡ true → 0 < w
request_there zero e = true_false (sym e)
request_there (suc w) e = omega arith

pub is_request : (w : ℕ) → 0 < w → request_of w ≡ true
is_request zero h = absurd (omega arith)
is_request (suc w) h = refl

-- A queue is empty when its length is 0.
pub empty_queue : {A : Type 0} (n : ℕ) (f : ℕ → A) → n ≡ 0 → queue n f ≡ []
unfolding queue
empty_queue n f e = rw e refl

pub queue_empty : {A : Type 0} (n : ℕ) (f : ℕ → A) → queue n f ≡ [] → n ≡ 0
queue_empty n f e = sym (queue_length n f) ∙ ap length e

-- An item is a prefix when its kind says so, and gives numbers in range when its words are.
module _ (devices cells : ℕ) (xs : List ℕ) (o : ℕ) (ok : ValidItem devices cells xs o) where
  pub prefix_kind : is_prefix sheet (some (item_at devices cells xs o)) ≡ true → get_or xs o 0 ≡ PREFIX
  unfolding item_at
  prefix_kind e = go (get_or xs o 0) ok.kind_from_1 e
    where
      go : (k : ℕ) → 1 ≤ k → is_prefix sheet (some (item_of devices cells k xs o)) ≡ true → k ≡ PREFIX
      go zero h e = absurd (omega arith)
      go (suc zero) h e = refl
      go (suc (suc k)) h e = true_false (sym e)

  pub kind_prefix : get_or xs o 0 ≡ PREFIX → is_prefix sheet (some (item_at devices cells xs o)) ≡ true
  unfolding item_at
  kind_prefix e = ap (λ (k : ℕ). is_prefix sheet (some (item_of devices cells k xs o))) e

  -- the number that the item gives a device
  pub gives_is : (d : ℕ) → d < devices → given (gives sheet d (some (item_at devices cells xs o))) 0 ≡ get_or xs (o + ITEM_NUMBERS + d) 0 - 1
  unfolding item_at numbers_at given_at
  gives_is d h = go (get_or xs o 0)
    where
      by : (w : ℕ) → given (given_by w) 0 ≡ w - 1
      by zero = refl
      by (suc w) = omega arith

      go : (k : ℕ) → given (gives sheet d (some (item_of devices cells k xs o))) 0 ≡ get_or xs (o + ITEM_NUMBERS + d) 0 - 1
      go zero = rw (lt-ltb d devices h) (by (get_or xs (o + ITEM_NUMBERS + d) 0))
      go (suc zero) = rw (lt-ltb d devices h) refl
      go (suc (suc k)) = rw (lt-ltb d devices h) (by (get_or xs (o + ITEM_NUMBERS + d) 0))

-- The numbers of a queue of rounds.
module _ (cells : ℕ) (xs : List ℕ) (o n : ℕ) where
  pub numbers_are : numbers sheet (queue n (λ j. round_at cells xs (o + ROUND * j))) ≡ queue n (λ j. get_or xs (o + ROUND * j) 0)
  unfolding round_at
  numbers_are = queue_map (λ r. r.number) n (λ j. round_at cells xs (o + ROUND * j))

  pub number_is : (i : ℕ) → i < n → number_at sheet (queue n (λ j. round_at cells xs (o + ROUND * j))) i ≡ get_or xs (o + ROUND * i) 0
  number_is i h = ap (λ (l : List ℕ). get_or l i 0) numbers_are ∙ queue_entry n (λ j. get_or xs (o + ROUND * j) 0) i 0 h
