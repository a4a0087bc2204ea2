-- "Longest: 620 bytes": no image is longer, and one has as many. Assumes nothing.
use mathlib.Core.List.{List}
use mathlib.Core.Path.{◌∙◌, ◌≡◌, ap, refl}
use Prim.Native.Nat.{◌*◌, ◌<◌, ◌≤◌, suc, zero, ℕ}
use native.Mathlib.Omega.{arith}
use lib.Ieee.{binary64, of_bits}
use lib.ListN.{length, length-append}
use Rattle.cbor.proofs.Codes.{each_bound, each_snoc}
use Rattle.cbor.proofs.Heads.{info_cases, info_self, length_head, width_le, width_zero}
use Rattle.cbor.proofs.Numbers.{length_high_first}
use Rattle.cbor.proofs.Tokens.{info, token_form}
use Rattle.cbor.specs.Bytes.{high_first}
use Rattle.cbor.specs.Code.{All, array_of, each}
use Rattle.cbor.specs.Head.{head_of, info_of, width_of}
use Rattle.cbor.specs.Token.{argument_of, token_of}
use Rattle.cells.specs.Finite.{finite_word}
use Rattle.cells.specs.declared.Cell.{Cell}
use Rattle.cells.specs.declared.Cell.TheVariants.{Measure}
use Rattle.record.specs.Reading.{queue}
use Rattle.record.proofs.Queues.{queue_length}
use Rattle.coding.specs.Image.{Allowed, NumberAllowed, image_of}
use Rattle.coding.specs.Item.{CellAllowed, cell_bytes, cell_token}
use Rattle.coding.proofs.Meaning.{measure_allowed}
use Rattle.image.specs.Claims.{Longest, LongestReached}
use Rattle.image.specs.Words.{Stored, image_at}
use Rattle.image.specs.declared.writing.Places.{Places}
use Rattle.image.proofs.Queued.{all_queue, length_array}
use Rattle.image.proofs.Parts.{image_length, stored_allowed}

-- how long a head is, by the bound of its argument
length_number : (m a : ℕ) → a ≤ 1000000 → length (head_of m a) ≤ 5
unfolding width_of
length_number m a h =
    omega (arith, length_head m a, info_cases (λ (v : ℕ). width_of v ≤ 4) a (λ l. omega (arith, width_zero a l)) (λ _ _. omega arith) (λ _ _. omega arith) (λ _ _. omega arith) (λ l. absurd (omega arith)))

length_count : (m a : ℕ) → a ≤ 64 → length (head_of m a) ≤ 2
unfolding width_of
length_count m a h =
    omega (arith, length_head m a, info_cases (λ (v : ℕ). width_of v ≤ 1) a (λ l. omega (arith, width_zero a l)) (λ _ _. omega arith) (λ l _. absurd (omega arith)) (λ l _. absurd (omega arith)) (λ l. absurd (omega arith)))

length_few : (m a : ℕ) → a < 24 → length (head_of m a) ≤ 1
length_few m a h = omega (arith, length_head m a, width_zero (info_of a) (omega (arith, info_self a h)))

length_cell : (c : Cell) → length (cell_bytes c) ≤ 9
length_cell c = omega (arith, ap length (token_form (cell_token c)), length_high_first (width_of (info (cell_token c))) (argument_of (cell_token c)), width_le (info (cell_token c)))

pub longest : Longest
unfolding image_of array_of
longest cs ns al =
    simp length-append
    (omega (
      arith,
      length_few 4 2 (omega arith),
      length_count 4 (length cs) al.sheet.count.1,
      length_few 4 (length ns) (omega (arith, al.devices.count.1)),
      each_bound cell_bytes CellAllowed 9 (λ c _. length_cell c) cs al.sheet.every,
      each_bound (head_of 0) NumberAllowed 5 (λ a w. length_number 0 a w.1) ns al.devices.every,
      al.sheet.count.1,
      al.devices.count.1,
    ))

pub stored_longest : (words numbers : List ℕ) (p : Places) → Stored words numbers p → length (image_at words numbers p) ≤ 620
stored_longest words numbers p v = longest _ _ (stored_allowed words numbers p v)

-- which 64 measured numbers and 8 numbers whose heads have five bytes reach
length_same : {A : Type 0} (f : A → List ℕ) (a : A) (n : ℕ) → length (each f (queue n (λ _. a))) ≡ n * length (f a)
unfolding queue each
length_same f a zero = omega arith
length_same f a (suc n) =
    ap length (each_snoc f (queue n (λ _. a)) a) ∙ length-append (each f (queue n (λ _. a))) (f a) ∙ omega (arith, length_same f a n)

all_same : {A : Type 0} (Ok : A → Type 0) (a : A) (n : ℕ) → Ok a → All Ok (queue n (λ _. a))
all_same Ok a n h = all_queue Ok n (λ _. a) (λ _ _. h)

abbrev one_and_ahalf : Cell
one_and_ahalf = Measure (of_bits binary64 0x3ff8_0000_0000_0000)

one_and_a_half_allowed : CellAllowed one_and_ahalf
unfolding finite_word
one_and_a_half_allowed = measure_allowed 0x3ff8_0000_0000_0000 refl

all_one_and_ahalf : ℕ → Cell
all_one_and_ahalf _ = one_and_ahalf

millions : ℕ → ℕ
millions _ = 1000000

one_and_a_half_length : length (cell_bytes one_and_ahalf) ≡ 9
unfolding token_of cell_token high_first
one_and_a_half_length = refl

million_length : length (head_of 0 1000000) ≡ 5
unfolding head_of info_of width_of high_first
million_length = refl

heads_length : (length (head_of 4 2) ≡ 1) × (length (head_of 4 64) ≡ 2) × (length (head_of 4 8) ≡ 1)
unfolding head_of info_of width_of high_first
heads_length = (refl, refl, refl)

all_one_and_a_half_length : length (each cell_bytes (queue 64 all_one_and_ahalf)) ≡ 576
unfolding all_one_and_ahalf
all_one_and_a_half_length = omega (arith, length_same cell_bytes one_and_ahalf 64, one_and_a_half_length)

millions_length : length (each (head_of 0) (queue 8 millions)) ≡ 40
unfolding millions
millions_length = omega (arith, length_same (head_of 0) 1000000 8, million_length)

most_allowed : Allowed (queue 64 all_one_and_ahalf) (queue 8 millions)
unfolding all_one_and_ahalf millions
most_allowed =
    record {
      sheet = record { count = rw (queue_length 64 all_one_and_ahalf) (omega arith, omega arith, omega arith); every = all_same CellAllowed one_and_ahalf 64 one_and_a_half_allowed };
      devices = record { count = rw (queue_length 8 millions) (omega arith, omega arith, omega arith); every = all_same NumberAllowed 1000000 8 (omega arith, omega arith, omega arith) };
    }

pub longest_reached : LongestReached
longest_reached = (
  queue 64 all_one_and_ahalf,
  queue 8 millions,
  most_allowed,
  omega (
    arith,
    image_length (queue 64 all_one_and_ahalf) (queue 8 millions),
    length_array cell_bytes 64 all_one_and_ahalf,
    length_array (head_of 0) 8 millions,
    all_one_and_a_half_length,
    millions_length,
    heads_length.0,
    heads_length.1,
    heads_length.2,
  ),
)
