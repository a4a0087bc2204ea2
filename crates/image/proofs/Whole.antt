-- The image as a whole: no image begins another, and what each part's reader answers says of the whole. Assumes nothing.
use mathlib.Core.List.{List, [], ◌++◌, append_assoc, append-nil}
use mathlib.Core.Path.{◌∙◌, ◌≡◌, ap, sym}
use Prim.Native.Nat.{ℕ}
use native.Mathlib.Omega.{arith}
use lib.ListN.{drop, length, length-drop}
use lib.Seq.{drop-length}
use Rattle.cbor.proofs.Apart.{array_head_free}
use Rattle.cbor.proofs.Arrays.{array_free}
use Rattle.cbor.specs.Code.{array_of, Free, Here, Listed, Nowhere, Within}
use Rattle.cbor.specs.Head.{head_of}
use Rattle.cells.specs.declared.Cell.{Cell}
use Rattle.coding.specs.Image.{Allowed, NotImage, NumberAllowed, image_of}
use Rattle.coding.specs.Item.{CellAllowed, cell_bytes}
use Rattle.coding.proofs.Meaning.{cell_free, number_free}
use Rattle.image.specs.Claims.{OneEncoding}

abbrev numbers_code : List ℕ → List ℕ
numbers_code = array_of (head_of 0)

sheet_free : Free (array_of cell_bytes) (Listed 1 64 CellAllowed)
sheet_free = array_free cell_bytes CellAllowed 1 64 cell_free

devices_free : Free (array_of (head_of 0)) (Listed 1 8 NumberAllowed)
devices_free = array_free (head_of 0) NumberAllowed 1 8 number_free

two : Within 2 2 2
two = (omega arith, omega arith, omega arith)

image_split : (cs : List Cell) (ns r : List ℕ) → image_of cs ns ++ r ≡ head_of 4 2 ++ (array_of cell_bytes cs ++ (numbers_code ns ++ r))
unfolding image_of
image_split cs ns r =
    append_assoc (head_of 4 2) (array_of cell_bytes cs ++ numbers_code ns) r
    ∙ ap (λ (l : List ℕ). head_of 4 2 ++ l) (append_assoc (array_of cell_bytes cs) (numbers_code ns) r)

-- no image begins another
image_free : (cs ds : List Cell) (ns ms r q : List ℕ) → Allowed cs ns → Allowed ds ms → image_of cs ns ++ r ≡ image_of ds ms ++ q → (cs ≡ ds) × (ns ≡ ms) × (r ≡ q)
image_free cs ds ns ms r q a b e =
    let h = array_head_free 2 2 (array_of cell_bytes cs ++ (numbers_code ns ++ r)) (array_of cell_bytes ds ++ (numbers_code ms ++ q)) two.2 two.2 (sym (image_split cs ns r) ∙ e ∙ image_split ds ms q) in
    let c = sheet_free cs ds (numbers_code ns ++ r) (numbers_code ms ++ q) a.sheet b.sheet h.1 in
    let n = devices_free ns ms r q a.devices b.devices c.1 in
    (c.0, n.0, n.1)

-- two sheets never have one image
pub image_inj : OneEncoding
image_inj cs ds ns ms a b e =
    let f = image_free cs ds ns ms [] [] a b (ap (λ (l : List ℕ). l ++ []) e) in
    (f.0, f.1)

plain_split : (s : List ℕ) (cs : List Cell) (ns : List ℕ) → s ≡ image_of cs ns → s ≡ head_of 4 2 ++ (array_of cell_bytes cs ++ numbers_code ns)
unfolding image_of
plain_split s cs ns e = e

-- no array of two
pub no_image_head : (s : List ℕ) → Nowhere (head_of 4) (Within 2 2) s 0 → NotImage s
no_image_head s n cs ns al e = n 2 (array_of cell_bytes cs ++ numbers_code ns) two (plain_split s cs ns e)

module _ (s : List ℕ) (a q : ℕ) (h : Here (head_of 4) (Within 2 2) s 0 a q) where
  after_head : (cs : List Cell) (ns : List ℕ) → s ≡ image_of cs ns → array_of cell_bytes cs ++ numbers_code ns ≡ drop q s
  after_head cs ns e =
      (array_head_free 2 a (array_of cell_bytes cs ++ numbers_code ns) (drop q s) two.2 h.0.2 (sym (plain_split s cs ns e) ∙ h.1.here)).1

  -- no array of cells
  pub no_image_sheet : Nowhere (array_of cell_bytes) (Listed 1 64 CellAllowed) s q → NotImage s
  no_image_sheet n cs ns al e = n cs (numbers_code ns) al.sheet (sym (after_head cs ns e))

  module _ (l : List Cell) (n : ℕ) (hl : Here (array_of cell_bytes) (Listed 1 64 CellAllowed) s q l n) where
    after_sheet : (cs : List Cell) (ns : List ℕ) → Allowed cs ns → s ≡ image_of cs ns → numbers_code ns ≡ drop n s
    after_sheet cs ns al e = (sheet_free cs l (numbers_code ns) (drop n s) al.sheet hl.0 (after_head cs ns e ∙ hl.1.here)).1

    -- no array of numbers
    pub no_image_devices : Nowhere (array_of (head_of 0)) (Listed 1 8 NumberAllowed) s n → NotImage s
    no_image_devices absent cs ns al e = absent ns [] al.devices (sym (after_sheet cs ns al e) ∙ sym (append-nil (numbers_code ns)))

    module _ (m : List ℕ) (z : ℕ) (hm : Here (array_of (head_of 0)) (Listed 1 8 NumberAllowed) s n m z) where
      -- trailing bytes
      pub no_image_end : (z ≡ length s → ⊥) → NotImage s
      no_image_end ne cs ns al e =
          let d = (devices_free ns m [] (drop z s) al.devices hm.0 (append-nil (numbers_code ns) ∙ after_sheet cs ns al e ∙ hm.1.here)).1 in
          ne (omega (arith, hm.1.within, simp length-drop at (ap length d)))

      pub is_image : z ≡ length s → s ≡ image_of l m
      unfolding image_of
      is_image e =
          let two_is : a ≡ 2 = omega (arith, h.0.0, h.0.1) in
          let end : drop z s ≡ [] = ap (λ (k : ℕ). drop k s) e ∙ drop-length s in
          h.1.here
          ∙ ap (λ (k : ℕ). head_of 4 k ++ drop q s) two_is
          ∙ ap (λ (x : List ℕ). head_of 4 2 ++ x) (hl.1.here ∙ ap (λ (x : List ℕ). array_of cell_bytes l ++ x) (hm.1.here ∙ ap (λ (x : List ℕ). numbers_code m ++ x) end ∙ append-nil _))

      pub are_allowed : Allowed l m
      are_allowed = record { sheet = hl.0; devices = hm.0 }
