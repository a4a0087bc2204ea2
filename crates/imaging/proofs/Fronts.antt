-- Numbers at the front of a buffer, one word after the other. Assumes nothing.
use mathlib.Core.List.{List}
use mathlib.Core.Path.{◌≡◌, ap, subst}
use Prim.Native.Nat.{◌*◌, ◌+◌, ◌<◌, ℕ}
use native.Mathlib.Omega.{arith}
use lib.ListN.{get_or}
use Rattle.cbor.proofs.Codes.{all_at}
use Rattle.record.specs.Reading.{queue}
use Rattle.record.proofs.Queues.{queue_entry, queue_length}
use Rattle.record.proofs.Same.{queue_same}
use Rattle.coding.specs.Image.{Allowed, NumberAllowed}
use Rattle.image.specs.Words.{cells_of, number_in, numbers_of}

pub in_front : (k : ℕ) → 0 + 1 * k ≡ k
in_front k = omega arith

pub numbers_front : (numbers : List ℕ) (d : ℕ) → queue d (number_in numbers 0 1) ≡ numbers_of numbers d
numbers_front numbers d = queue_same d (number_in numbers 0 1) (λ k. get_or numbers k 0) (λ k h. ap (λ (i : ℕ). get_or numbers i 0) (in_front k))

pub number_allowed : (words numbers : List ℕ) (n d : ℕ) → Allowed (cells_of words n) (numbers_of numbers d) → (k : ℕ) → k < d → NumberAllowed (get_or numbers k 0)
number_allowed words numbers n d ok k h =
    subst NumberAllowed (queue_entry d (λ i. get_or numbers i 0) k 0 h)
    (all_at NumberAllowed (numbers_of numbers d) k 0 ok.devices.every (omega (arith, queue_length d (λ i. get_or numbers i 0))))
