-- Where words stay, what they say stays, and they stay valid. Assumes nothing.
use mathlib.Core.Path.{◌≡◌, refl, sym, ap, ◌∙◌, fun_ext}
use mathlib.Core.Logic.{⊎_elim}
use mathlib.Core.List.{List, [], ◌∷◌, ◌++◌}
use mathlib.Core.Option.{some}
use Prim.Native.Nat.{ℕ, zero, suc, ◌+◌, ◌*◌, ◌-◌, ◌≤◌, ◌<◌}
use native.Mathlib.Omega.{arith}
use lib.ListN.{get_or}
use borrow.Author.Tests.{lt-ltb, le-ltb}
use Rattle.cells.specs.declared.Cell.TheVariants.{Blank}
use Rattle.cells.specs.declared.Change.TheVariants.{Nothing}
use Rattle.protocol.specs.Machine.{Item}
use Rattle.words.specs.Layout.{CHANGE, ROUND, ROUND_CHANGES, ITEM, ITEM_NUMBERS, ITEM_PLACES, SEGMENT, RECEIVED, ITEMS, RECORD}
use Rattle.words.specs.Place.{Place, cell_place, change_place, Valid, Filled}
use Rattle.words.proofs.Places.{Local, Same, lt_or_ge, place_below, cell_local, change_local}
use Rattle.record.specs.Reading.{below, places_at, queue, round_at, numbers_at, given_at, given_by, item_of, item_at, buffer_of, received_at}
use Rattle.record.specs.Valid.{InItem, InUse, ValidItem, ValidRecord}

-- Two readings that are cut at the same number agree where they agree below it.
pub below_same : {A : Type 0} (n : ℕ) (f g : ℕ → A) (past : A) → ((c : ℕ) → c < n → f c ≡ g c) → below n f past ≡ below n g past
below_same n f g past h = fun_ext (λ c. ⊎_elim (λ l. rw (lt-ltb c n l) (h c l)) (λ k. rw (le-ltb c n k) refl) (lt_or_ge c n))

-- A reading that is past the cut what it is cut to.
pub below_all : {A : Type 0} (n : ℕ) (f : ℕ → A) (past : A) → ((c : ℕ) → n ≤ c → f c ≡ past) → (c : ℕ) → below n f past c ≡ f c
below_all n f past h c = ⊎_elim (λ l. rw (lt-ltb c n l) refl) (λ g. rw (le-ltb c n g) (sym (h c g))) (lt_or_ge c n)

-- One of the places, below the cut.
pub place_in : (P : Place) (past : P.Holds) (cells : ℕ) (xs : List ℕ) (o c : ℕ) → c < cells → places_at P past cells xs o c ≡ P.value_at xs (o + P.width * c)
unfolding places_at
place_in P past cells xs o c h = rw (lt-ltb c cells h) refl

-- Part of a run of words that stay.
pub same_part : (xs ys : List ℕ) (o n p m : ℕ) → Same xs ys o n → o ≤ p → p + m ≤ o + n → Same xs ys p m
same_part xs ys o n p m S a b i l h = S i (omega arith) (omega arith)

module _ (P : Place) (L : Local P) (cells : ℕ) (xs ys : List ℕ) (o : ℕ) (S : Same xs ys o (P.width * cells)) where
  place_same : (c : ℕ) → c < cells → Same xs ys (o + P.width * c) P.width
  place_same c h i l b = S i (omega (arith, l)) (omega (arith, b, place_below P.width c cells h))

  pub places_same : (past : P.Holds) → places_at P past cells ys o ≡ places_at P past cells xs o
  unfolding places_at
  places_same past = below_same cells _ _ past (λ c h. L.value_same xs ys (o + P.width * c) (place_same c h))

  pub places_valid : Valid P xs o cells → Valid P ys o cells
  places_valid ok c h = L.valid_same xs ys (o + P.width * c) (place_same c h) ∙ ok c h

-- What a loop filled is read so.
pub places_filled : (P : Place) (past : P.Holds) (cells : ℕ) (xs ys : List ℕ) (o : ℕ) (f : ℕ → P.Holds) → Filled P xs ys o cells f → places_at P past cells ys o ≡ below cells f past
unfolding places_at
places_filled P past cells xs ys o f F = below_same cells _ _ past (λ c h. F.is c h)

-- A queue whose entries agree.
pub queue_same : {A : Type 0} (n : ℕ) (f g : ℕ → A) → ((j : ℕ) → j < n → f j ≡ g j) → queue n f ≡ queue n g
unfolding queue
queue_same zero f g h = refl
queue_same (suc n) f g h = (λ i. queue_same n f g (λ j l. h j (omega arith)) i ++ (h n (omega arith) i ∷ []))

-- A round, and a queue of n of them from o on: the words in use of each stay.
module _ (cells : ℕ) (xs ys : List ℕ) where
  pub round_same : (o : ℕ) → Same xs ys o (ROUND_CHANGES + CHANGE * cells) → round_at cells ys o ≡ round_at cells xs o
  unfolding round_at
  round_same o S = (λ i. record {
    number = S o (omega arith) (omega arith) i;
    delta = places_same change_place change_local cells xs ys (o + ROUND_CHANGES) (same_part xs ys o _ (o + ROUND_CHANGES) (CHANGE * cells) S (omega arith) (omega arith)) Nothing i;
  })

  pub round_valid : (o : ℕ) → Same xs ys o (ROUND_CHANGES + CHANGE * cells) → Valid change_place xs (o + ROUND_CHANGES) cells → Valid change_place ys (o + ROUND_CHANGES) cells
  round_valid o S ok =
      places_valid change_place change_local cells xs ys (o + ROUND_CHANGES) (same_part xs ys o _ (o + ROUND_CHANGES) (CHANGE * cells) S (omega arith) (omega arith)) ok

  module _ (o n : ℕ) (S : (j : ℕ) → j < n → Same xs ys (o + ROUND * j) (ROUND_CHANGES + CHANGE * cells)) where
    pub rounds_same : queue n (λ j. round_at cells ys (o + ROUND * j)) ≡ queue n (λ j. round_at cells xs (o + ROUND * j))
    rounds_same = queue_same n _ _ (λ j h. round_same (o + ROUND * j) (S j h))

    pub rounds_valid : ((j : ℕ) → j < n → Valid change_place xs (o + ROUND * j + ROUND_CHANGES) cells) → (j : ℕ) → j < n → Valid change_place ys (o + ROUND * j + ROUND_CHANGES) cells
    rounds_valid ok j h = round_valid (o + ROUND * j) (S j h) (ok j h)

-- An item, and a queue of n of them.
module _ (devices cells : ℕ) (xs ys : List ℕ) where
  module _ (o : ℕ) (S : (i : ℕ) → InItem devices cells xs o i → get_or ys i 0 ≡ get_or xs i 0) where
    kind_same : get_or ys o 0 ≡ get_or xs o 0
    kind_same = S o InItem.kind

    number_same : (d : ℕ) → d < devices → get_or ys (o + ITEM_NUMBERS + d) 0 ≡ get_or xs (o + ITEM_NUMBERS + d) 0
    number_same d h = S (o + ITEM_NUMBERS + d) (InItem.number (omega arith) (omega arith))

    numbers_same : numbers_at devices ys (o + ITEM_NUMBERS) ≡ numbers_at devices xs (o + ITEM_NUMBERS)
    unfolding numbers_at
    numbers_same = below_same devices _ _ 0 (λ d h. ap (λ (w : ℕ). w - 1) (number_same d h))

    given_same : given_at devices ys (o + ITEM_NUMBERS) ≡ given_at devices xs (o + ITEM_NUMBERS)
    unfolding given_at
    given_same = below_same devices _ _ (given_by 0) (λ d h. ap given_by (number_same d h))

    of_kind : (k : ℕ) → get_or xs o 0 ≡ k → k ≤ SEGMENT → 1 ≤ k → item_of devices cells k ys o ≡ item_of devices cells k xs o
    of_kind zero e h l = absurd (omega arith)
    of_kind (suc zero) e h l = (λ i. Item.prefix (places_same cell_place cell_local cells xs ys (o + ITEM_PLACES) (λ j p q. S j (InItem.cell e p q)) Blank i) (numbers_same i))
    of_kind (suc (suc zero)) e h l = (λ i. Item.segment (places_same change_place change_local cells xs ys (o + ITEM_PLACES) (λ j p q. S j (InItem.change e p q)) Nothing i) (given_same i))
    of_kind (suc (suc (suc k))) e h l = absurd (omega arith)

    module _ (ok : ValidItem devices cells xs o) where
      pub item_same : item_at devices cells ys o ≡ item_at devices cells xs o
      unfolding item_at
      item_same = ap (λ (k : ℕ). item_of devices cells k ys o) kind_same ∙ of_kind (get_or xs o 0) refl ok.kind_to_2 ok.kind_from_1

      pub item_valid : ValidItem devices cells ys o
      item_valid =
          let k = kind_same in
          record {
            kind_from_1 = rw k ok.kind_from_1;
            kind_to_2 = rw k ok.kind_to_2;
            prefix_numbers = λ e d h. rw (number_same d h) (ok.prefix_numbers (sym k ∙ e) d h);
            prefix_places = λ e. places_valid cell_place cell_local cells xs ys (o + ITEM_PLACES) (λ j p q. S j (InItem.cell (sym k ∙ e) p q)) (ok.prefix_places (sym k ∙ e));
            segment_places = λ e. places_valid change_place change_local cells xs ys (o + ITEM_PLACES) (λ j p q. S j (InItem.change (sym k ∙ e) p q)) (ok.segment_places (sym k ∙ e));
          }

  module _ (o n : ℕ) (S : (j : ℕ) → j < n → (i : ℕ) → InItem devices cells xs (o + ITEM * j) i → get_or ys i 0 ≡ get_or xs i 0) (ok : (j : ℕ) → j < n → ValidItem devices cells xs (o + ITEM * j)) where
    pub items_same : queue n (λ j. item_at devices cells ys (o + ITEM * j)) ≡ queue n (λ j. item_at devices cells xs (o + ITEM * j))
    items_same = queue_same n _ _ (λ j h. item_same (o + ITEM * j) (S j h) (ok j h))

    pub items_valid : (j : ℕ) → j < n → ValidItem devices cells ys (o + ITEM * j)
    items_valid j h = item_valid (o + ITEM * j) (S j h) (ok j h)

  -- the receive buffer, empty or not
  module _ (o : ℕ) (k : get_or ys o 0 ≡ get_or xs o 0) (S : 0 < get_or xs o 0 → (i : ℕ) → InItem devices cells xs o i → get_or ys i 0 ≡ get_or xs i 0) (ok : 0 < get_or xs o 0 → ValidItem devices cells xs o) where
    pub received_same : received_at devices cells ys o ≡ received_at devices cells xs o
    unfolding received_at
    received_same = ap (λ (a : ℕ). buffer_of a (item_at devices cells ys o)) k ∙ go (get_or xs o 0) refl
      where
        go : (a : ℕ) → get_or xs o 0 ≡ a → buffer_of a (item_at devices cells ys o) ≡ buffer_of a (item_at devices cells xs o)
        go zero e = refl
        go (suc a) e = let p : 0 < get_or xs o 0 = omega arith in ap some (item_same o (S p) (ok p))

    pub received_valid : 0 < get_or ys o 0 → ValidItem devices cells ys o
    received_valid h = let p : 0 < get_or xs o 0 = omega arith in item_valid o (S p) (ok p)

-- The words of an item in use are those of its kind.
pub in_item_same : (devices cells : ℕ) (xs ys : List ℕ) (o : ℕ) → get_or ys o 0 ≡ get_or xs o 0 → (i : ℕ) → InItem devices cells xs o i → InItem devices cells ys o i
in_item_same devices cells xs ys o e i InItem.kind = InItem.kind
in_item_same devices cells xs ys o e i (InItem.number l h) = InItem.number l h
in_item_same devices cells xs ys o e i (InItem.cell k l h) = InItem.cell (e ∙ k) l h
in_item_same devices cells xs ys o e i (InItem.change k l h) = InItem.change (e ∙ k) l h

-- The words in use of an item lie in its room.
pub in_item : (devices cells : ℕ) (xs : List ℕ) (o i : ℕ) → devices ≤ 8 → cells ≤ 64 → InItem devices cells xs o i → (o ≤ i) × (i < o + ITEM)
in_item devices cells xs o i a b InItem.kind = (omega arith, omega arith)
in_item devices cells xs o i a b (InItem.number l h) = (omega arith, omega arith)
in_item devices cells xs o i a b (InItem.cell p l h) = (omega arith, omega arith)
in_item devices cells xs o i a b (InItem.change p l h) = (omega arith, omega arith)

-- The words in use of a valid record lie in it.
pub in_record : (devices cells : ℕ) (xs : List ℕ) (i : ℕ) → devices ≤ 8 → cells ≤ 64 → ValidRecord devices cells xs → InUse devices cells xs i → i < RECORD
in_record devices cells xs i a b X (InUse.single h) = omega arith
in_record devices cells xs i a b X (InUse.known l h) = omega arith
in_record devices cells xs i a b X (InUse.transaction l h) = omega arith
in_record devices cells xs i a b X (InUse.buffered l h) = omega arith
in_record devices cells xs i a b X InUse.buffer_kind = omega arith
in_record devices cells xs i a b X (InUse.received k u) = omega (arith, in_item devices cells xs RECEIVED i a b u)
in_record devices cells xs i a b X (InUse.pending j k l h) = omega (arith, X.few_pending)
in_record devices cells xs i a b X (InUse.waiting j k l h) = omega (arith, X.few_waiting)
in_record devices cells xs i a b X (InUse.items j k u) = omega (arith, X.few_items, in_item devices cells xs (ITEMS + ITEM * j) i a b u)
