-- Laws of items: what one of a kind is, the number that it gives a device, and the queue without its first. Assumes nothing.
use mathlib.Core.Path.{◌≡◌, refl, ap, ◌∙◌, subst}
use mathlib.Core.List.{List}
use mathlib.Core.Option.{none, some}
use Prim.Native.Nat.{ℕ, zero, suc, ◌+◌, ◌*◌, ◌-◌, ◌≤◌, ◌<◌}
use native.Mathlib.Omega.{arith}
use lib.ListN.{length, get_or, set, drop}
use borrow.Author.Tests.{lt-ltb}
use Rattle.protocol.specs.Machine.{prefix, segment, gives}
use Rattle.sheet.specs.Sheet.{sheet}
use Rattle.words.specs.Layout.{ITEM, ITEM_NUMBERS, ITEM_PLACES, PREFIX, SEGMENT, ITEMS_LENGTH, ITEMS, RECORD}
use Rattle.record.specs.Reading.{queue, sheet_at, changes_at, numbers_at, given_by, given_at, item_of, item_at, buffer_of, received_at}
use Rattle.record.specs.Valid.{ValidItem}
use Rattle.record.proofs.Queues.{queue_drop}
use Rattle.record.proofs.Same.{queue_same}
use Rattle.queues.specs.Items.{items_behind, HasItems}
use Rattle.queues.specs.Parts.{item_entry, Movable, Moved, Requeued}
use Rattle.queues.proofs.Entries.{item_local, queue_moved}

module _ (devices cells : ℕ) (xs : List ℕ) (o : ℕ) where
  pub prefix_is : get_or xs o 0 ≡ PREFIX → item_at devices cells xs o ≡ prefix (sheet_at cells xs (o + ITEM_PLACES)) (numbers_at devices xs (o + ITEM_NUMBERS))
  unfolding item_at
  prefix_is e = ap (λ (k : ℕ). item_of devices cells k xs o) e

  pub is_segment : get_or xs o 0 ≡ SEGMENT → item_at devices cells xs o ≡ segment (changes_at cells xs (o + ITEM_PLACES)) (given_at devices xs (o + ITEM_NUMBERS))
  unfolding item_at
  is_segment e = ap (λ (k : ℕ). item_of devices cells k xs o) e

  module _ (ok : ValidItem devices cells xs o) where
    pub no_prefix : (get_or xs o 0 ≡ PREFIX → ⊥) → get_or xs o 0 ≡ SEGMENT
    no_prefix n = let a = ok.kind_from_1 in let b = ok.kind_to_2 in let c : get_or xs o 0 ≡ 1 → ⊥ = n in omega arith

    -- the word of a device gives its number
    pub gives_word : (d : ℕ) → d < devices → gives sheet d (some (item_at devices cells xs o)) ≡ given_by (get_or xs (o + ITEM_NUMBERS + d) 0)
    unfolding item_at numbers_at given_at
    gives_word d h = go (get_or xs o 0) refl
      where
        some_less : (w : ℕ) → 1 ≤ w → some (w - 1) ≡ given_by w
        some_less zero l = absurd (omega arith)
        some_less (suc w) l = let e : suc w - 1 ≡ w = omega arith in ap some e

        go : (k : ℕ) → get_or xs o 0 ≡ k → gives sheet d (some (item_of devices cells k xs o)) ≡ given_by (get_or xs (o + ITEM_NUMBERS + d) 0)
        go zero e = rw (lt-ltb d devices h) refl
        go (suc zero) e = rw (lt-ltb d devices h) (some_less _ (ok.prefix_numbers e d h))
        go (suc (suc k)) e = rw (lt-ltb d devices h) refl

-- The receive buffer, empty and filled.
pub is_empty : (devices cells : ℕ) (xs : List ℕ) (o : ℕ) → get_or xs o 0 ≡ 0 → received_at devices cells xs o ≡ none
unfolding received_at
is_empty devices cells xs o e = ap (λ (k : ℕ). buffer_of k (item_at devices cells xs o)) e

pub is_filled : (devices cells : ℕ) (xs : List ℕ) (o : ℕ) → 0 < get_or xs o 0 → received_at devices cells xs o ≡ some (item_at devices cells xs o)
unfolding received_at
is_filled devices cells xs o h = go (get_or xs o 0) h
  where
    go : (k : ℕ) → 0 < k → buffer_of k (item_at devices cells xs o) ≡ some (item_at devices cells xs o)
    go zero l = absurd (omega arith)
    go (suc k) l = refl

-- The first item is taken out: those behind it move down by one.
module _ (devices cells : ℕ) (xs : List ℕ) (H : HasItems devices cells xs) where
  pub items_movable : Movable (item_entry devices cells) xs ITEMS (ITEMS + ITEM) (get_or xs ITEMS_LENGTH 0 - 1)
  items_movable =
      let f = H.few in
      let z = H.size in
      let o = H.one in
      record {
        to_fits = omega arith;
        from_fits = omega arith;
        from_valid = λ j h. let e : ITEMS + ITEM * (1 + j) ≡ ITEMS + ITEM + ITEM * j = omega arith in subst (λ (a : ℕ). ValidItem devices cells xs a) e (H.items (1 + j) (omega arith));
        ahead = λ i j l h k p q u v. omega arith;
      }

  behind_are : items_behind devices cells xs ≡ queue (get_or xs ITEMS_LENGTH 0 - 1) (λ j. item_at devices cells xs (ITEMS + ITEM + ITEM * j))
  behind_are =
      let o = H.one in
      let e : get_or xs ITEMS_LENGTH 0 ≡ 1 + (get_or xs ITEMS_LENGTH 0 - 1) = omega arith in
      ap (λ (n : ℕ). drop 1 (queue n (λ j. item_at devices cells xs (ITEMS + ITEM * j)))) e
      ∙ queue_drop 1 (get_or xs ITEMS_LENGTH 0 - 1) (λ j. item_at devices cells xs (ITEMS + ITEM * j))
      ∙ queue_same _ _ _ (λ j h. let z : ITEMS + ITEM * (1 + j) ≡ ITEMS + ITEM + ITEM * j = omega arith in ap (item_at devices cells xs) z)

  pub item_popped : (ys : List ℕ) → length ys ≡ RECORD → Moved (item_entry devices cells) xs ys ITEMS (get_or xs ITEMS_LENGTH 0 - 1) (λ j. item_at devices cells xs (ITEMS + ITEM + ITEM * j)) → Requeued (item_entry devices cells) xs (set ys ITEMS_LENGTH (get_or xs ITEMS_LENGTH 0 - 1)) ITEMS_LENGTH ITEMS (items_behind devices cells xs)
  item_popped ys len M =
      rw behind_are
      (queue_moved (item_entry devices cells) (item_local devices cells H.few_devices H.few_cells) xs ys ITEMS_LENGTH ITEMS (get_or xs ITEMS_LENGTH 0 - 1) _ (omega arith) (omega (arith, len)) (omega (arith, H.few)) M)
