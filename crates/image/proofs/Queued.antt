-- Codes of a queue's entries, written one after the other and as an array. Assumes nothing.
use mathlib.Core.List.{List, ◌++◌}
use mathlib.Core.Path.{◌∙◌, ◌≡◌, ap, sym}
use Prim.Native.Nat.{◌+◌, ◌<◌, ◌≤◌, suc, zero, ℕ}
use native.Mathlib.Decide.{dec_lt}
use native.Mathlib.Numerals.{add-one}
use native.Mathlib.Omega.{arith}
use lib.ListN.{length, length-append}
use Rattle.cbor.specs.Bytes.{Wrote}
use Rattle.cbor.specs.Code.{All, array_of, each}
use Rattle.cbor.specs.Head.{head_of}
use Rattle.cbor.proofs.Codes.{all_snoc, each_snoc}
use Rattle.cbor.proofs.Writing.{wrote_as, wrote_none, wrote_then}
use Rattle.record.specs.Reading.{queue}
use Rattle.record.proofs.Queues.{queue_length}

-- The first values of g, written one by one.
module _ {A : Type 0} (f : A → List ℕ) (g : ℕ → A) where
  pub each_queue : (i : ℕ) → each f (queue (i + 1) g) ≡ each f (queue i g) ++ f (g i)
  unfolding queue
  each_queue i = rw add-one (each_snoc f (queue i g) (g i))

  -- what stands below n takes no more room than all of it
  one_more_room : (i n : ℕ) → Dec (i < suc n) → i ≤ suc n → (i ≤ n → length (each f (queue i g)) ≤ length (each f (queue n g))) → length (each f (queue i g)) ≤ length (each f (queue (suc n) g))
  unfolding queue
  one_more_room i n (yes l) h k = omega (arith, k (omega arith), ap length (each_snoc f (queue n g) (g n)), length-append (each f (queue n g)) (f (g n)))
  one_more_room i n (no l) h k = let e : i ≡ suc n = omega arith in rw e (omega arith)

  each_room : (i n : ℕ) → i ≤ n → length (each f (queue i g)) ≤ length (each f (queue n g))
  each_room i zero h = let e : i ≡ 0 = omega arith in rw e (omega arith)
  each_room i (suc n) h = one_more_room i n (dec_lt i (suc n)) h (each_room i n)

  module _ {o o' : List ℕ} {p q i n : ℕ} (below : i < n) (room : p + length (each f (queue n g)) ≤ length o) (v : Wrote o p (each f (queue i g)) o' q) where
    next_room : p + length (each f (queue i g)) + length (f (g i)) ≤ length o
    next_room = omega (arith, each_room (i + 1) n (omega arith), ap length (each_queue i), length-append (each f (queue i g)) (f (g i)))

    pub room_more : length o' ≡ length o → q + length (f (g i)) ≤ length o'
    room_more k = omega (arith, next_room, v.next)

    pub wrote_more : {o'' : List ℕ} {r : ℕ} → Wrote o' q (f (g i)) o'' r → Wrote o p (each f (queue (i + 1) g)) o'' r
    wrote_more w = rw (each_queue i) (wrote_then (omega (arith, next_room)) v w)

  pub wrote_zero : (o : List ℕ) (p : ℕ) → Wrote o p (each f (queue 0 g)) o p
  unfolding each queue
  wrote_zero o p = wrote_none o p

pub all_queue : {A : Type 0} (Ok : A → Type 0) (n : ℕ) (g : ℕ → A) → ((i : ℕ) → i < n → Ok (g i)) → All Ok (queue n g)
unfolding queue All
all_queue Ok zero g h = tt
all_queue Ok (suc n) g h = all_snoc Ok (queue n g) (g n) (all_queue Ok n g (λ i l. h i (omega arith))) (h n (omega arith))

-- An array of the first n values of g, written after its head.
module _ {A : Type 0} (f : A → List ℕ) (n : ℕ) (g : ℕ → A) where
  pub length_array : length (array_of f (queue n g)) ≡ length (head_of 4 n) + length (each f (queue n g))
  unfolding array_of
  length_array = length-append (head_of 4 (length (queue n g))) (each f (queue n g)) ∙ ap (λ (k : ℕ). length (head_of 4 k) + length (each f (queue n g))) (queue_length n g)

  pub array_written : {o o' o'' : List ℕ} {p q r : ℕ} → p + length (array_of f (queue n g)) ≤ length o → Wrote o p (head_of 4 n) o' q → Wrote o' q (each f (queue n g)) o'' r → Wrote o p (array_of f (queue n g)) o'' r
  unfolding array_of
  array_written room a b =
      wrote_as (ap (λ (k : ℕ). head_of 4 k ++ each f (queue n g)) (sym (queue_length n g))) (wrote_then (omega (arith, length_array)) a b)
