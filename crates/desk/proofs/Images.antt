-- The starred lines on images hold. Assumes nothing.
use mathlib.Core.List.{[], ◌∷◌}
use mathlib.Core.Logic.{inl, inr}
use mathlib.Core.Path.{◌≡◌, refl}
use native.Mathlib.Omega.{arith}
use lib.Dec.{lit<}
use lib.Ieee.{of_bits, to_bits}
use lib.IntN.{negsuc}
use Rattle.cbor.proofs.Arrays.{array_broken, none_here}
use Rattle.cbor.proofs.Codes.{broken}
use Rattle.cbor.proofs.Heads.{no_argument}
use Rattle.cbor.proofs.Tokens.{no_head}
use Rattle.cbor.specs.Bytes.{HighFirstAt, high_first}
use Rattle.cbor.specs.Code.{All, Here, HereEach, Within, array_of, each}
use Rattle.cbor.specs.Head.{head_of, info_of, width_of}
use Rattle.cbor.specs.Token.{Initial, token_of}
use Rattle.cbor.specs.declared.major.Major.{Major}
use Rattle.cells.specs.Finite.{finite_word}
use Rattle.cells.specs.declared.Cell.TheVariants.{Blank, Count}
use Rattle.desk.specs.Desk.{one_and_half, shortest, longer}
use Rattle.coding.specs.Image.{Allowed, NotImage, image_of}
use Rattle.coding.specs.Item.{CellAllowed, cell_bytes, cell_token}
use Rattle.coding.proofs.Meaning.{cell_fits, cell_free, measure_allowed}
use Rattle.image.proofs.Whole.{no_image_sheet}

-- the cells are allowed, and their image computes
pub first_allowed : Allowed (Blank ∷ Count (negsuc 0) ∷ one_and_half ∷ []) (0 ∷ [])
unfolding All finite_word
first_allowed =
    record {
      sheet = record {
        count = (omega arith, omega arith, omega arith);
        every = (
          record { fits = tt; finite = refl },
          (record { fits = record { sfits = lit< tt }; finite = refl }, (measure_allowed 0x3ff8_0000_0000_0000 refl, tt)),
        );
      };
      devices = record { count = (omega arith, omega arith, omega arith); every = ((omega arith, omega arith, omega arith), tt) };
    }

pub first_bytes : image_of (Blank ∷ Count (negsuc 0) ∷ one_and_half ∷ []) (0 ∷ []) ≡ shortest
unfolding image_of array_of each head_of info_of width_of high_first token_of cell_token to_bits of_bits
first_bytes = refl

-- what stands in the bytes with the longer head
longer_two : Here (head_of 4) (Within 2 2) longer 0 2 1
unfolding head_of info_of width_of high_first
longer_two = ((omega arith, omega arith, omega arith), record { here = refl; next = refl; within = omega arith })

longer_three : Here (head_of 4) (Within 1 64) longer 1 3 2
unfolding head_of info_of width_of high_first
longer_three = ((omega arith, omega arith, omega arith), record { here = refl; next = refl; within = omega arith })

longer_blank : HereEach cell_bytes CellAllowed 1 longer 2 (Blank ∷ []) 3
unfolding each All token_of cell_token
longer_blank = (refl, (record { fits = tt; finite = refl }, tt), record { here = refl; next = refl; within = omega arith })

longer_byte : HighFirstAt longer 4 (width_of 24) 0
unfolding width_of high_first
longer_byte = record { fits = omega arith; written = refl }

longer_least : info_of 0 ≡ 24 → ⊥
unfolding info_of
longer_least e = omega arith

longer_initial : Initial longer 3 Major.Negative 24
longer_initial = record { within = omega arith; byte = refl; leads = inr (inl refl); low = omega arith }

pub longer_refused : NotImage longer
longer_refused =
    no_image_sheet longer 2 1 longer_two
    (array_broken cell_bytes CellAllowed 1 64 longer 1 2 3 longer_three
    (broken cell_bytes CellAllowed cell_free longer 2 3 1 3 (Blank ∷ []) longer_blank (omega arith)
    (none_here cell_bytes CellAllowed cell_token (λ _. refl) cell_fits longer 3
    (no_head longer 3 Major.Negative 24 longer_initial (λ a r. no_argument longer 4 24 0 a r (omega arith) longer_byte longer_least)))))
