-- What `confirmed` answers of a record. Assumes nothing.
use mathlib.Core.Path.{◌≡◌, refl, sym, ap, ◌∙◌}
use mathlib.Core.Bool.{Bool, true, false, ◌&&◌}
use mathlib.Core.List.{List}
use Prim.Native.Nat.{ℕ, zero, suc, ◌+◌, ◌*◌, ◌≤◌, ◌<◌}
use native.Mathlib.Omega.{arith}
use lib.Dec.{eqb}
use lib.ListN.{get_or}
use borrow.Author.Tests.{eq-eqb, ne_eqb}
use Rattle.cells.specs.declared.Change.{Change}
use Rattle.cells.specs.declared.Change.TheVariants.{Nothing}
use Rattle.protocol.specs.Machine.{choose, tell, says_yes, says_no, confirmed_at}
use Rattle.sheet.specs.Changes.{is_nothing, idle_below}
use Rattle.sheet.proofs.Laws.{idle_at}
use Rattle.sheet.specs.Sheet.{sheet}
use Rattle.words.specs.Layout.{CHANGE, ROUND, COVERED, PENDING_LENGTH, TRANSACTION, PENDING}
use Rattle.words.specs.Place.{change_at, change_place, Decides}
use Rattle.words.proofs.Tests.{true_false}
use Rattle.record.specs.Reading.{changes_at, round_at, device_of}
use Rattle.record.proofs.Queues.{queue_length}
use Rattle.record.proofs.Same.{place_in}
use Rattle.record.specs.Did.{Tells}

-- A joined change that holds no update is nothing at every cell, and the other way round.
idle_is : (n : ℕ) (b : ℕ → Change) → ((c : ℕ) → c < n → b c ≡ Nothing) → idle_below n b ≡ true
idle_is zero b h = refl
idle_is (suc n) b h = (λ i. idle_is n b (λ c l. h c (omega arith)) i && is_nothing (h n (omega arith) i))

nothing_is : (d : Change) → is_nothing d ≡ true → d ≡ Nothing
nothing_is Nothing e = refl
nothing_is (Change.Set v) e = true_false (sym e)
nothing_is (Change.Add n) e = true_false (sym e)

module _ (devices cells : ℕ) (xs : List ℕ) where
  answer_is : (a b i : Bool) → eqb (get_or xs PENDING_LENGTH 0) 0 ≡ a → eqb (get_or xs COVERED 0) 0 ≡ b → idle_below cells (changes_at cells xs TRANSACTION) ≡ i → confirmed_at sheet cells (device_of devices cells xs) ≡ tell (choose (a && b && i) says_yes says_no)
  unfolding confirmed_at device_of
  answer_is a b i p q r = (λ k. tell (choose (eqb (queue_length (get_or xs PENDING_LENGTH 0) (λ j. round_at cells xs (PENDING + ROUND * j)) k) 0 && q k && r k) says_yes says_no)) ∙ ap (λ (t : Bool). tell (choose (t && b && i) says_yes says_no)) p

  -- a count above 0
  not_none : (n : ℕ) → 0 < n → eqb n 0 ≡ false
  not_none n h = ne_eqb n 0 (λ e. omega arith)

  none : (n : ℕ) → n ≤ 0 → eqb n 0 ≡ true
  none n h = eq-eqb n 0 (omega arith)

  pub some_pending : 0 < get_or xs PENDING_LENGTH 0 → Tells devices cells (confirmed_at sheet cells) xs says_no
  some_pending h = answer_is false (eqb (get_or xs COVERED 0) 0) (idle_below cells (changes_at cells xs TRANSACTION)) (not_none _ h) refl refl

  module _ (p : get_or xs PENDING_LENGTH 0 ≤ 0) where
    pub some_covered : 0 < get_or xs COVERED 0 → Tells devices cells (confirmed_at sheet cells) xs says_no
    some_covered h = answer_is true false (idle_below cells (changes_at cells xs TRANSACTION)) (none _ p) (not_none _ h) refl

    module _ (q : get_or xs COVERED 0 ≤ 0) (r : Bool) (D : Decides r ((k : ℕ) → k < cells → change_at xs (TRANSACTION + CHANGE * k) ≡ Nothing)) where
      pub all_confirmed : r ≡ true → Tells devices cells (confirmed_at sheet cells) xs says_yes
      all_confirmed e = answer_is true true true (none _ p) (none _ q) (idle_is cells _ (λ c l. place_in change_place Nothing cells xs TRANSACTION c l ∙ D.sure e c l))

      pub some_open : r ≡ false → Tells devices cells (confirmed_at sheet cells) xs says_no
      some_open e = answer_is true true false (none _ p) (none _ q) (go (idle_below cells (changes_at cells xs TRANSACTION)) refl)
        where
          go : (t : Bool) → idle_below cells (changes_at cells xs TRANSACTION) ≡ t → t ≡ false
          go false f = refl
          go true f = absurd (D.never e (λ k l. sym (place_in change_place Nothing cells xs TRANSACTION k l) ∙ nothing_is _ (idle_at cells (changes_at cells xs TRANSACTION) f k l)))
