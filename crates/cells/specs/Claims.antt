-- What document 01, "Cells, updates and joining", says of every change and of every measured number. Assumes nothing.
use Rattle.std.specs.Prelude.{◌≡◌, ℕ, ◌^◌, ◌<◌, true, List, T, Float, from_bits, to_bits}
use Rattle.std.specs.Float.{binary64}
use Rattle.std.specs.Float.Ieee.{fits}
use Rattle.cells.specs.Cells.{updated, applied, joined, updated_all, joined_all}
use Rattle.cells.specs.Finite.{finite, finite_word}
use Rattle.cells.specs.Stored.{update_finite, cell_kind, cell_payload, cell_words_ok, cell_of}
use Rattle.cells.specs.declared.Cell.{Cell}
use Rattle.cells.specs.declared.Cell.TheVariants.{Measure}
use Rattle.cells.specs.declared.Update.{Update}
use Rattle.cells.specs.declared.Change.{Change}
use Rattle.cells.specs.declared.Change.TheVariants.{Nothing}

-- "Applying a joined change equals applying its updates one at a time": updates joined from nothing on, and to what a change holds already.
abbrev pub JoinedAsSingly : Type 0
JoinedAsSingly = (c : Cell) (us : List Update) → applied c (joined_all Nothing us) ≡ updated_all c us

abbrev pub JoinedOnAsSingly : Type 0
JoinedOnAsSingly = (c : Cell) (d : Change) (us : List Update) → applied c (joined_all d us) ≡ updated_all (applied c d) us

-- "joining must not depend on grouping"
abbrev pub AnyGrouping : Type 0
AnyGrouping = (a b c : Change) → joined (joined a b) c ≡ joined a (joined b c)

-- The measured number of some bits.
abbrev pub measured : ℕ → Cell
measured bits = Measure (from_bits binary64 bits)

-- "A measured number is any finite binary64 value, kept with its bits": it has these bits, an update may set it, and set or stored in its two words it
-- is the same and has them still.
pub record KeepsBits (bits : ℕ) : Type 0 where
  pub has : to_bits binary64 (from_bits binary64 bits) ≡ bits
  pub allowed : update_finite (Update.Set (measured bits)) ≡ true
  pub set : (c : Cell) → updated c (Update.Set (measured bits)) ≡ measured bits
  pub words : (cell_payload (measured bits) ≡ bits) × (cell_words_ok (cell_kind (measured bits)) bits ≡ true)
  pub back : cell_of (cell_kind (measured bits)) bits ≡ measured bits

abbrev pub BitsKept : Type 0
BitsKept = (bits : ℕ) → bits < 2 ^ 64 → finite_word bits ≡ true → KeepsBits bits

-- "any finite binary64 value": each is the number of such bits, its own.
abbrev pub AnyFiniteValue : Type 0
AnyFiniteValue = (x : Float) → T (fits binary64 x) → finite x ≡ true
    → (to_bits binary64 x < 2 ^ 64) × (finite_word (to_bits binary64 x) ≡ true) × (Measure x ≡ measured (to_bits binary64 x))
