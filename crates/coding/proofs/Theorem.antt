-- The claim of specs/Claims.antt, proved. Assumes nothing.
use Rattle.std.specs.Prelude.{Some}
use mathlib.Core.Bool.{true}
use mathlib.Core.List.{List, ◌∷◌}
use mathlib.Core.Path.{◌≡◌, ap, subst, sym}
use Prim.Native.Nat.{◌<◌, ◌^◌, ℕ}
use Rattle.cbor.specs.Bytes.{Got, high_first}
use Rattle.cbor.specs.Token.{token_of}
use Rattle.cells.proofs.Finite.{word_float_word}
use Rattle.cells.specs.Claims.{measured}
use Rattle.cells.specs.Finite.{finite_word}
use Rattle.coding.specs.Claims.{ItemsKeepBits}
use Rattle.coding.specs.Item.{cell_bytes, cell_token}
use Rattle.coding.proofs.Meaning.{measure_allowed, cell_once}

-- a measured number's item
float_item : (bits : ℕ) → bits < 2 ^ 64 → finite_word bits ≡ true → cell_bytes (measured bits) ≡ 0xFB ∷ high_first 8 bits
unfolding cell_token token_of
float_item bits h e = ap (λ (w : ℕ). 0xFB ∷ high_first 8 w) (word_float_word bits h e)

pub items_keep_bits : ItemsKeepBits
items_keep_bits bits h e = record {
  allowed = measure_allowed bits e;
  item = float_item bits h e;
  back = λ s p n r g v. cell_once s p r (Some (measured bits, n)) v (measure_allowed bits e, subst (λ (l : List ℕ). Got s p l n) (sym (float_item bits h e)) g);
}
