-- Beyond document 01: an image as text (docs/DECISIONS.md, "The stored image"). The lines of one kind that stand one after the other in an image's text. Assumes nothing.
use Rattle.std.specs.Prelude.{List, ℕ, ◌≤◌, ◌<◌}
use Rattle.cbor.specs.Code.{Nowhere, HereEach}
use Rattle.imaging.specs.declared.compose.Run.{Run}

-- The lines from p on that are codes f of values, as many as stand there up to `most`; the buffer holds their values, and its words are sound.
pub record RunIs {A : Type 0} (f : A → List ℕ) (Ok : A → Type 0) (held : ℕ → List A) (Sound : ℕ → Type 0) (most : ℕ) (s : List ℕ) (p : ℕ) (r : Run) : Type 0 where
  pub within : r.count ≤ most
  pub here : HereEach f Ok r.count s p (held r.count) r.next
  pub sound : Sound r.count
  pub stops : r.count < most → Nowhere f Ok s r.next
