-- The texts of cells and of numbers have no CR, and are short. Assumes nothing.
use mathlib.Core.List.{List, [], ◌∷◌}
use mathlib.Core.Path.{◌≡◌}
use Prim.Native.Nat.{◌+◌, suc, ℕ}
use native.Mathlib.Omega.{arith}
use lib.Ieee.{binary64, to_bits}
use lib.ListN.{length, length-append}
use Rattle.cells.specs.declared.Cell.{Cell}
use Rattle.cells.specs.declared.Cell.TheVariants.{Blank, Count, Measure}
use Rattle.text.specs.Field.{record_of}
use Rattle.text.specs.Text.{Without, decimal_text, hex_text, signed_text}
use Rattle.text.proofs.DecimalText.{decimal_length}
use Rattle.text.proofs.HexText.{hex_length}
use Rattle.text.proofs.Sign.{signed_length}
use Rattle.text.proofs.Without.{decimal_without, hex_without, signed_without, without, without_append}
use Rattle.answers.specs.Answer.{cell_text}
use Rattle.wording.specs.Names.{blank_text, count_text, measure_text}
use Rattle.coding.specs.Image.{NumberAllowed}
use Rattle.coding.specs.Item.{CellAllowed}
use Rattle.listing.specs.Shown.{number_record, number_text}
use Rattle.listing.specs.Texts.{LineText}

-- a word, a comma and a field
record_plain : (w f : List ℕ) → Without 13 w → Without 13 f → Without 13 (record_of w (f ∷ []))
unfolding record_of
record_plain w f p q = without_append 13 w (44 ∷ f) p ((λ e. omega arith), q)

record_length : (w f : List ℕ) → length (record_of w (f ∷ [])) ≡ length w + suc (length f)
unfolding record_of
record_length w f = length-append w (44 ∷ f)

pub cell_line_text : (c : Cell) → CellAllowed c → LineText (cell_text c)
unfolding cell_text
cell_line_text Blank ok = record { plain = without 13 blank_text tt; short = omega arith }
cell_line_text (Count z) ok = record {
  plain = record_plain count_text (signed_text z) (without 13 count_text tt) (signed_without 13 (omega arith) z);
  short = omega (arith, record_length count_text (signed_text z), signed_length z ok.fits);
}
cell_line_text (Measure x) ok = record {
  plain = record_plain measure_text (hex_text 16 (to_bits binary64 x)) (without 13 measure_text tt) (hex_without 13 (omega arith) 16 (to_bits binary64 x));
  short = omega (arith, record_length measure_text (hex_text 16 (to_bits binary64 x)), hex_length 16 (to_bits binary64 x));
}

pub number_line_text : (k : ℕ) → NumberAllowed k → LineText (number_record k)
unfolding number_record
number_line_text k ok = record {
  plain = record_plain number_text (decimal_text k) (without 13 number_text tt) (decimal_without 13 (omega arith) k);
  short = omega (arith, record_length number_text (decimal_text k), decimal_length k ok.2);
}
