-- A look over a block, one update after the other. Assumes nothing.
use mathlib.Core.Path.{◌≡◌, sym, ap, ◌∙◌}
use mathlib.Core.List.{List, [], ◌∷◌}
use Prim.Native.Nat.{ℕ, ◌+◌, ◌≤◌, ◌<◌}
use native.Mathlib.Numerals.{add-one}
use lib.ListN.{length, get_or, drop, drop_of_length-le}
use lib.Seq.{drop-cons}
use Rattle.cells.specs.declared.Cell.TheVariants.{Blank}
use Rattle.cells.specs.declared.Update.{Update}
use Rattle.protocol.specs.Machine.{done}
use Rattle.block.specs.Block.{refusal_of, by_refusal, first_bad}
use Rattle.block.specs.declared.Entry.{Entry}

-- What stands past the end of a block: no statement depends on it.
abbrev pub past_end : Entry
past_end = record { cell = 0; update = Update.Set Blank }

module _ (us : List Entry) where
  pub split : (i : ℕ) → i < length us → drop i us ≡ get_or us i past_end ∷ drop (i + 1) us
  split i l = drop-cons us i past_end l ∙ ap (λ (k : ℕ). get_or us i past_end ∷ drop k us) (sym (add-one i))

  pub none_left : (i : ℕ) → length us ≤ i → drop i us ≡ []
  none_left i g = drop_of_length-le us g

  -- what a block comes to from the place i on, by the update there
  pub by_first : (cells i : ℕ) → i < length us → first_bad cells i (drop i us) ≡ by_refusal (refusal_of cells (get_or us i past_end)) i (first_bad cells (i + 1) (drop (i + 1) us))
  by_first cells i l =
      ap (first_bad cells i) (split i l)
      ∙ ap (λ (k : ℕ). by_refusal (refusal_of cells (get_or us i past_end)) i (first_bad cells k (drop (i + 1) us))) (sym (add-one i))

  pub all_good : (cells i : ℕ) → length us ≤ i → first_bad cells i (drop i us) ≡ done
  all_good cells i g = ap (first_bad cells i) (none_left i g)
