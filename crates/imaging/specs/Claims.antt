-- Beyond document 01: an image as text (docs/DECISIONS.md, "The stored image"). What the promises of showing an image and of composing one come to. Assumes nothing.
use Rattle.std.specs.Prelude.{List, Ok, ◌++◌, ◌↔◌, ◌≡◌, ℕ, ◌≤◌, ◌<◌, length, take, drop}
use Rattle.cells.specs.declared.Cell.{Cell}
use Rattle.protocol.specs.declared.Refusal.TheVariants.{BufferShort, NoImage}
use Rattle.protocol.specs.Machine.{refused, length_is, Answer}
use Rattle.sheet.specs.Sheet.{sheet}
use Rattle.sheet.specs.Answer.{Given, meaning}
use Rattle.sheet.specs.declared.Answer.TheVariants.{Length}
use Rattle.coding.specs.Image.{image_of, Allowed, NotImage}
use Rattle.listing.specs.Shown.{image_text, Shown}
use Rattle.imaging.specs.Composed.{NotText, Composed}

-- One text of one sheet with its numbers.
abbrev pub OneText : Type 0
OneText = (cells others : List Cell) (numbers more : List ℕ) → Allowed cells numbers → Allowed others more → image_text cells numbers ≡ image_text others more → (cells ≡ others) × (numbers ≡ more)

-- Which answer composing gives, and when: 12 exactly when the text is that of no image.
pub record ComposingAnswers (t old : List ℕ) (a : Answer sheet) : Type 0 where
  pub compose_12 : (a ≡ refused NoImage) ↔ (NotText t)
  pub compose_11 : (cells : List Cell) (numbers : List ℕ) → Allowed cells numbers → t ≡ image_text cells numbers → ((a ≡ refused BufferShort) ↔ (length old < length (image_of cells numbers)))
  pub compose_length : (cells : List Cell) (numbers : List ℕ) → Allowed cells numbers → t ≡ image_text cells numbers → ((a ≡ length_is (length (image_of cells numbers))) ↔ (length (image_of cells numbers) ≤ length old))

abbrev pub ComposingAlwaysAnswers : Type 0
ComposingAlwaysAnswers = (t old new : List ℕ) (a : Answer sheet) → Composed t old a new → ComposingAnswers t old a

-- Composing what was shown of an image gives the image back, byte for byte.
abbrev pub ShownComposed : Type 0
ShownComposed = (cells : List Cell) (numbers before after old new : List ℕ) (r : ℕ) (a : Answer sheet) → Allowed cells numbers → Shown (image_of cells numbers) before after r → Composed (take r after) old a new → length (image_of cells numbers) ≤ length old → (a ≡ length_is (length (image_of cells numbers))) × (new ≡ image_of cells numbers ++ drop (length (image_of cells numbers)) old)

-- Showing what was composed of a text gives the text back.
abbrev pub ComposedShown : Type 0
ComposedShown = (t old new : List ℕ) (a : Answer sheet) (n : ℕ) (before after : List ℕ) (r : ℕ) → Composed t old a new → a ≡ length_is n → Shown (take n new) before after r → take r after ≡ t

-- What is shown of bytes that are no image is the text of none.
abbrev pub RefusedShown : Type 0
RefusedShown = (bytes before after : List ℕ) (r : ℕ) → NotImage bytes → Shown bytes before after r → NotText (take r after)

-- No second outcome fits: the answer, and every byte of the buffer.
abbrev pub OneShowing : Type 0
OneShowing = (bytes before after other : List ℕ) (r q : ℕ) → Shown bytes before after r → Shown bytes before other q → (after ≡ other) × (r ≡ q)

abbrev pub OneComposing : Type 0
OneComposing = (t old new other : List ℕ) (a b : Answer sheet) → Composed t old a new → Composed t old b other → (a ≡ b) × (new ≡ other)

-- The same of what composing gives.
abbrev pub ShownComposedGiven : Type 0
ShownComposedGiven = (cells : List Cell) (numbers before after old new : List ℕ) (n : ℕ) (r : Given) → Allowed cells numbers
    → Shown (image_of cells numbers) before after n → Composed (take n after) old (meaning r) new → length (image_of cells numbers) ≤ length old
    → (r ≡ Ok (Length (length (image_of cells numbers)))) × (new ≡ image_of cells numbers ++ drop (length (image_of cells numbers)) old)

abbrev pub OneComposingGiven : Type 0
OneComposingGiven = (t old new other : List ℕ) (r q : Given) → Composed t old (meaning r) new → Composed t old (meaning q) other
    → (r ≡ q) × (new ≡ other)
