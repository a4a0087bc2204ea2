-- What the readers of an image (document 01, "Stored image") answer, and leave in their buffers. Assumes nothing.
use Rattle.std.specs.Prelude.{List, ◌≡◌, ℕ, Option, Some, None}
use Rattle.cbor.specs.Code.{Here, Nowhere, HereEach, NowhereEach, array_of, Listed}
use Rattle.words.specs.Place.{cell_place, Valid}
use Rattle.coding.specs.Image.{image_of, Allowed, NotImage}
use Rattle.image.specs.Words.{cells_of, numbers_of}
use Rattle.words.specs.declared.extent.Extent.{Extent}

-- The n values that the buffer holds stand in s from p on, and its words are sound; or no n values stand there.
abbrev pub PassedIs : {A : Type 0} → (A → List ℕ) → (A → Type 0) → List A → Type 0 → ℕ → List ℕ → ℕ → Option ℕ → Type 0
PassedIs f Ok held Sound n s p (Some q) = HereEach f Ok n s p held q × Sound
PassedIs f Ok held Sound n s p None = NowhereEach f Ok n s p

-- The array of the first n values that the buffer holds stands in s at p; or no array stands there.
abbrev pub ArrayReadIs : {A : Type 0} → (A → List ℕ) → (A → Type 0) → (ℕ → List A) → (ℕ → Type 0) → ℕ → ℕ → List ℕ → ℕ → Option (ℕ × ℕ) → Type 0
ArrayReadIs f Ok held Sound least most s p (Some (n, q)) = Here (array_of f) (Listed least most Ok) s p (held n) q × Sound n
ArrayReadIs f Ok held Sound least most s p None = Nowhere (array_of f) (Listed least most Ok) s p

-- The bytes are the image of the n cells and d numbers at the fronts of the two buffers.
pub record ImageOf (s words numbers : List ℕ) (n d : ℕ) : Type 0 where
  pub allowed : Allowed (cells_of words n) (numbers_of numbers d)
  pub is : s ≡ image_of (cells_of words n) (numbers_of numbers d)
  pub valid : Valid cell_place words 0 n

-- Where the bytes are no image, nothing is said of the two buffers.
abbrev pub DecodedIs : List ℕ → List ℕ → List ℕ → Option Extent → Type 0
DecodedIs s words numbers (Some e) = ImageOf s words numbers e.cells e.devices
DecodedIs s words numbers None = NotImage s
