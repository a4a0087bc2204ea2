-- What is promised of a record that the server turns, and of a segment that it gathers, leaves one outcome. Assumes nothing.
use mathlib.Core.Path.{◌≡◌, sym, ◌∙◌}
use mathlib.Core.Logic.{◌⊎◌}
use mathlib.Core.List.{List}
use Prim.Native.Nat.{ℕ, ◌+◌, ◌*◌, ◌≤◌, ◌<◌}
use lib.ListN.{length, get_or}
use Rattle.cells.specs.declared.Change.TheVariants.{Nothing}
use Rattle.protocol.specs.Machine.{Device}
use Rattle.sheet.specs.Sheet.{sheet}
use Rattle.words.specs.Layout.{CHANGE, ITEM_NUMBERS, ITEM_PLACES}
use Rattle.words.specs.Place.{change_place}
use Rattle.record.proofs.One.{change_one, places_words, given_one}
use Rattle.record.proofs.Once.{words_once, record_once}
use Rattle.link.specs.Turn.{Turned}
use Rattle.link.specs.Gather.{GatheredOne}

pub turned_once : (devices cells : ℕ) (x : Device sheet) (n : ℕ) (xs ys zs : List ℕ) → length ys ≡ length zs → Turned devices cells x n xs ys → Turned devices cells x n xs zs → ys ≡ zs
turned_once devices cells x n xs ys zs l A B =
    record_once devices cells xs ys zs l A.valid B.valid (A.taken ∙ sym B.taken) (A.says ∙ sym B.says) A.kept B.kept

module _ (cells count d : ℕ) (ss rs : List ℕ) where
  -- the words that gathering may change: the device's number, and the changes
  abbrev Gives : ℕ → Type 0
  Gives i = (i ≡ ITEM_NUMBERS + d) ⊎ ((ITEM_PLACES ≤ i) × (i < ITEM_PLACES + CHANGE * cells))

  same : (r q : ℕ) (ys zs : List ℕ) → GatheredOne cells count d ss rs r ys → GatheredOne cells count d ss rs q zs → (i : ℕ) → Gives i → get_or ys i 0 ≡ get_or zs i 0
  same r q ys zs A B i (◌⊎◌.inl e) = rw e (given_one _ _ (A.number ∙ sym B.number))
  same r q ys zs A B i (◌⊎◌.inr s) = places_words change_place change_one Nothing cells ys zs ITEM_PLACES A.valid B.valid (A.is ∙ sym B.is) i s.0 s.1

  pub gathered_once : (r q : ℕ) (ys zs : List ℕ) → length ys ≡ length zs → GatheredOne cells count d ss rs r ys → GatheredOne cells count d ss rs q zs → (r ≡ q) × (ys ≡ zs)
  gathered_once r q ys zs l A B = (
    A.many ∙ sym B.many,
    words_once ss ys zs Gives Gives l
        (same r q ys zs A B)
        (same q r zs ys B A)
        (λ i n. A.others i (λ e. n (◌⊎◌.inl e)) (λ g h. n (◌⊎◌.inr (g, h))))
        (λ i n. B.others i (λ e. n (◌⊎◌.inl e)) (λ g h. n (◌⊎◌.inr (g, h)))),
  )
