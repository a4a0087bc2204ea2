-- What document 01, "Cells, updates and joining", says of every measured number, of its item in an image. Assumes nothing.
use Rattle.std.specs.Prelude.{true, List, ◌∷◌, ◌≡◌, ℕ, ◌^◌, ◌<◌, Option, Some}
use Rattle.cbor.specs.Bytes.{high_first, Got}
use Rattle.cells.specs.Claims.{measured}
use Rattle.cells.specs.Finite.{finite_word}
use Rattle.coding.specs.Item.{cell_bytes, CellAllowed, CellReadIs}
use Rattle.cells.specs.declared.Cell.{Cell}

-- "A measured number is any finite binary64 value, kept with its bits": its item is "FB and 8 bytes, high first", those of its bits, and where these
-- bytes stand that number is read.
pub record ItemKeepsBits (bits : ℕ) : Type 0 where
  pub allowed : CellAllowed (measured bits)
  pub item : cell_bytes (measured bits) ≡ 0xFB ∷ high_first 8 bits
  pub back : (s : List ℕ) (p n : ℕ) (r : Option (Cell × ℕ)) → Got s p (0xFB ∷ high_first 8 bits) n → CellReadIs s p r → r ≡ Some (measured bits, n)

abbrev pub ItemsKeepBits : Type 0
ItemsKeepBits = (bits : ℕ) → bits < 2 ^ 64 → finite_word bits ≡ true → ItemKeepsBits bits
