-- Every start and every opening that is done begins a table: what is allowed can be told, so bytes that were opened are an image. Assumes nothing.
use mathlib.Core.Path.{◌≡◌, refl, sym, ap, ◌∙◌, subst}
use mathlib.Core.Bool.{Bool, true, false, false≢true}
use mathlib.Core.Logic.{⊎_elim}
use mathlib.Core.List.{List, [], ◌∷◌, List-discrete}
use Prim.Native.Nat.{ℕ, ◌≤◌, ◌^◌}
use native.Mathlib.Decide.{ℕ_discrete}
use native.Mathlib.Omega.{arith}
use lib.Dec.{T}
use lib.Ieee.{binary64, fits}
use lib.ListN.{length}
use Rattle.cbor.specs.Code.{All, Within, Listed}
use Rattle.cells.specs.Finite.{finite}
use Rattle.cells.specs.declared.Cell.{Cell}
use Rattle.cells.specs.declared.Cell.TheVariants.{Blank, Count, Measure}
use Rattle.protocol.specs.declared.Refusal.TheVariants.{NoImage}
use Rattle.protocol.specs.Machine.{Start, Table, fresh, Answer, done}
use Rattle.sheet.specs.Sheet.{sheet, started}
use Rattle.sheet.proofs.OneAnswer.{done_refused}
use Rattle.words.proofs.Places.{lt_or_ge}
use Rattle.record.specs.Reading.{queue}
use Rattle.table.specs.Table.{reading}
use Rattle.table.specs.Promise.{Became}
use Rattle.record.proofs.Once.{stable}
use Rattle.coding.specs.Image.{Allowed, NumberAllowed, image_of}
use Rattle.coding.specs.Item.{CellAllowed}
use Rattle.image.specs.Promise.{Opened, start_of}
use Rattle.image.proofs.Opens.{queue_is}
use Rattle.image.proofs.Theorems.{opening_answers}
use Rattle.desk.specs.Calls.{Call, Called, Begun, at_start, at_opening, anew, start, update, block, read, confirmed, push, send, ask, give_up, receive, pull, accept, serverdrop, batch, crash, cut, write_image, open_image}
use Rattle.desk.specs.Demand3.{AlwaysBegins}

-- What is not false holds, where it can be told.
abbrev Told : Type 0 → Type 0
Told P = ((P → ⊥) → ⊥) → P

told_le : (a b : ℕ) → Told (a ≤ b)
told_le a b n = ⊎_elim (λ l. absurd (n (λ h. omega arith))) (λ g. g) (lt_or_ge b a)

told_t : (b : Bool) → Told (T b)
told_t true n = tt
told_t false n = absurd (n (λ h. h))

told_true : (b : Bool) → Told (b ≡ true)
told_true true n = refl
told_true false n = absurd (n false≢true)

told_within : (lo hi a : ℕ) → Told (Within lo hi a)
told_within lo hi a n = (told_le lo a (λ k. n (λ w. k w.0)), told_le a hi (λ k. n (λ w. k w.1)), told_le _ (2 ^ 64) (λ k. n (λ w. k w.2)))

told_cell : (c : Cell) → Told (CellAllowed c)
told_cell Blank n = record { fits = tt; finite = refl }
told_cell (Count z) n = record { fits = record { sfits = told_le _ (2 ^ 63) (λ k. n (λ A. k A.fits.sfits)) }; finite = refl }
told_cell (Measure x) n = record { fits = told_t (fits binary64 x) (λ k. n (λ A. k A.fits)); finite = told_true (finite x) (λ k. n (λ A. k A.finite)) }

told_all : {A : Type 0} (P : A → Type 0) → ((a : A) → Told (P a)) → (l : List A) → Told (All P l)
unfolding All
told_all P t [] n = tt
told_all P t (a ∷ l) n = (t a (λ k. n (λ h. k h.0)), told_all P t l (λ k. n (λ h. k h.1)))

told_listed : {A : Type 0} (lo hi : ℕ) (P : A → Type 0) → ((a : A) → Told (P a)) → (l : List A) → Told (Listed lo hi P l)
told_listed lo hi P t l n = record { count = told_within lo hi (length l) (λ k. n (λ L. k L.count)); every = told_all P t l (λ k. n (λ L. k L.every)) }

told_allowed : (cells : List Cell) (numbers : List ℕ) → Told (Allowed cells numbers)
told_allowed cells numbers n =
    record {
      sheet = told_listed 1 64 CellAllowed told_cell cells (λ k. n (λ A. k A.sheet));
      devices = told_listed 1 8 NumberAllowed (told_within 0 1000000) numbers (λ k. n (λ A. k A.devices));
    }

module _ (bytes xs ys : List ℕ) (O : Opened bytes xs done ys) where
  abbrev Image : Type 0
  Image = (cells : List Cell) × (numbers : List ℕ) × Allowed cells numbers × (bytes ≡ image_of cells numbers)

  not_none : (Image → ⊥) → ⊥
  not_none k = done_refused done NoImage refl (O.no_image (λ cells numbers ok e. k (cells, numbers, ok, e))).number

  -- the cells and numbers that the words then say are the image's
  abbrev cells : List Cell
  cells = queue (reading ys).cells (reading ys).sheet

  abbrev numbers : List ℕ
  numbers = queue (reading ys).devices (reading ys).taken

  made : (p : Image) → Became xs ys (fresh sheet (start_of p.0 p.1))
  made p = (O.makes p.0 p.1 p.2 p.3).after (((opening_answers bytes xs ys done O).open_done p.0 p.1 p.2 p.3).0 refl)

  cells_are : (p : Image) → cells ≡ p.0
  cells_are p = ap (λ (t : Table sheet). queue t.cells t.sheet) (made p).says ∙ queue_is Blank p.0

  numbers_are : (p : Image) → numbers ≡ p.1
  numbers_are p = ap (λ (t : Table sheet). queue t.devices t.taken) (made p).says ∙ queue_is 0 p.1

  allowed : Allowed cells numbers
  allowed = told_allowed cells numbers (λ k. not_none (λ p. k (subst (λ (ns : List ℕ). Allowed cells ns) (sym (numbers_are p)) (subst (λ (cs : List Cell). Allowed cs p.1) (sym (cells_are p)) p.2))))

  bytes_are : bytes ≡ image_of cells numbers
  bytes_are = stable (List-discrete ℕ_discrete bytes (image_of cells numbers)) (λ k. not_none (λ p. k (p.3 ∙ sym (λ i. image_of (cells_are p i) (numbers_are p i)))))

  opened_begins : (b : Start sheet) × Begun b ys
  opened_begins = (start_of cells numbers, at_opening cells numbers xs ys allowed (subst (λ (s : List ℕ). Opened s xs done ys) bytes_are O))

never : {X : Type 0} → (false ≡ true) × X → {Y : Type 0} → Y
never p = absurd (false≢true p.0)

begins : (c : Call) (xs ys : List ℕ) (a : Answer sheet) → Called c xs a ys → (anew c ≡ true) × (a ≡ done) → (b : Start sheet) × Begun b ys
begins (start devices cells) xs ys a C R = (started devices cells, at_start devices cells xs ys (subst (λ (z : Answer sheet). Called (start devices cells) xs z ys) R.1 C))
begins (update d cell u) xs ys a C R = never R
begins (block d entries) xs ys a C R = never R
begins (read d cell) xs ys a C R = never R
begins (confirmed d) xs ys a C R = never R
begins (push d) xs ys a C R = never R
begins (send d) xs ys a C R = never R
begins (ask d) xs ys a C R = never R
begins (give_up d) xs ys a C R = never R
begins (receive d) xs ys a C R = never R
begins (pull d) xs ys a C R = never R
begins (accept d) xs ys a C R = never R
begins (serverdrop d) xs ys a C R = never R
begins (batch counts) xs ys a C R = never R
begins crash xs ys a C R = never R
begins (cut counts reach) xs ys a C R = never R
begins (write_image buffer buffer') xs ys a C R = never R
begins (open_image bytes) xs ys a C R = opened_begins bytes xs ys (subst (λ (z : Answer sheet). Opened bytes xs z ys) R.1 C)

pub always_begins : AlwaysBegins
always_begins m xs ys C R = begins m.call xs ys m.answer C R
