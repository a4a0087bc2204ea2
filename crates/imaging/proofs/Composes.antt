-- What making an image of a text comes to, once the text is read. Assumes nothing.
use mathlib.Core.List.{List}
use mathlib.Core.Path.{◌∙◌, ap, refl, subst, sym}
use Prim.Native.Nat.{◌*◌, ◌≤◌, ℕ}
use native.Mathlib.Omega.{arith}
use lib.ListN.{get_or, length}
use Rattle.cbor.specs.Code.{Within}
use Rattle.protocol.specs.declared.Refusal.TheVariants.{NoImage}
use Rattle.protocol.specs.Machine.{Answer, refused}
use Rattle.sheet.specs.Sheet.{sheet}
use Rattle.words.specs.Layout.{CELL}
use Rattle.record.proofs.Queues.{queue_length}
use Rattle.coding.specs.Image.{image_of}
use Rattle.image.specs.Promise.{Stores}
use Rattle.image.specs.Words.{Stored, cell_in, cells_of, image_at, numbers_of}
use Rattle.image.specs.declared.writing.Places.{Places}
use Rattle.imaging.specs.Composed.{Composed, NotText, TextOf}
use Rattle.imaging.proofs.Fronts.{in_front, number_allowed, numbers_front}
use Rattle.imaging.proofs.WholeText.{text_inj}

-- n cells and d numbers at the fronts of two buffers
abbrev fronts : ℕ → ℕ → Places
fronts n d = record { cells = n; sheet = 0; devices = d; first = 0; stride = 1 }

module _ (t words numbers : List ℕ) (n d : ℕ) (T : TextOf t words numbers n d) where
  some_cells : Within 1 64 n
  some_cells = subst (Within 1 64) (queue_length n (cell_in words 0)) T.allowed.sheet.count

  some_devices : Within 1 8 d
  some_devices = subst (Within 1 8) (queue_length d (λ k. get_or numbers k 0)) T.allowed.devices.count

  pub text_stored : CELL * 64 ≤ length words → 8 ≤ length numbers → Stored words numbers (fronts n d)
  text_stored w v = record {
    some_cells = some_cells;
    some_devices = some_devices;
    sheet = record { room = omega (arith, some_cells.1); valid = T.valid };
    placed = λ k h. omega (arith, some_devices.1);
    allowed = λ k h. rw (in_front k) (number_allowed words numbers n d T.allowed k h);
  }

  pub composed_text : (old new : List ℕ) (a : Answer sheet) → Stores (image_at words numbers (fronts n d)) old a new → Composed t old a new
  composed_text old new a S = record {
    no_text = λ m. absurd (m (cells_of words n) (numbers_of numbers d) T.allowed T.is);
    stores = λ cs ns ok e.
        let q = text_inj (cells_of words n) cs (numbers_of numbers d) ns T.allowed ok (sym T.is ∙ e) in
        subst (λ (v : List ℕ). Stores v old a new) (ap (image_of (cells_of words n)) (numbers_front numbers d) ∙ (λ i. image_of (q.0 i) (q.1 i))) S;
  }

pub composed_none : (t old : List ℕ) → NotText t → Composed t old (refused NoImage) old
composed_none t old n = record { no_text = λ m. record { number = refl; untouched = refl }; stores = λ cs ns ok e. absurd (n cs ns ok e) }
