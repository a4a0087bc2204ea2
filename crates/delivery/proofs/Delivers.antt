-- Laws of an item that another slice holds: stored as an entry, joined to one, put behind the last. Assumes nothing.
use mathlib.Core.Path.{◌≡◌, refl, ap, ◌∙◌, fun_ext}
use mathlib.Core.Logic.{⊎_elim}
use mathlib.Core.List.{List, [], ◌∷◌, ◌++◌}
use mathlib.Core.Option.{none}
use Prim.Native.Nat.{ℕ, suc, ◌+◌, ◌*◌, ◌-◌, ◌≤◌, ◌<◌}
use native.Mathlib.Omega.{arith}
use lib.ListN.{length, get_or, set}
use borrow.Author.Tests.{lt-ltb, le-ltb}
use Rattle.cells.specs.Cells.{applied, joined}
use Rattle.cells.specs.declared.Cell.TheVariants.{Blank}
use Rattle.cells.specs.declared.Change.TheVariants.{Nothing}
use Rattle.protocol.specs.Machine.{Item, join_item, join_last, enqueue}
use Rattle.sheet.specs.Sheet.{sheet}
use Rattle.words.specs.Layout.{CELL, CHANGE, QUEUE, ITEM, ITEM_KIND, ITEM_NUMBERS, ITEM_PLACES, PREFIX, ITEMS, ITEMS_LENGTH}
use Rattle.words.specs.Place.{Place, cell_place, change_place, cell_at, change_at, Across, Filled, Numbers, Out, Valid, later_number}
use Rattle.words.proofs.Places.{Same, lt_or_ge, below_suc, set_kept, set_new, place_below, cell_local, change_local}
use Rattle.record.specs.Reading.{queue, places_at, changes_at, numbers_at, given_by, given_at, item_at}
use Rattle.record.proofs.Loops.{applied_across, joined_across}
use Rattle.record.proofs.Queues.{queue_length}
use Rattle.record.proofs.Same.{below_same, places_same, places_valid, places_filled, queue_same}
use Rattle.queues.specs.Items.{items_of}
use Rattle.queues.specs.Parts.{Entry, item_entry, PutEntry, QueueIs, Requeued}
use Rattle.queues.proofs.Entries.{LocalEntry, item_local, queue_added}
use Rattle.queues.proofs.Items.{prefix_is, is_segment, no_prefix}
use Rattle.queues.proofs.Joins.{prefix_made, segment_made, given_word, later_word, later_positive}
use Rattle.delivery.specs.Deliver.{Storable, Stackable, JoinableTo, Deliverable}

-- Numbers are stored, and then places: y2 has both, and the other words of x0.
module _ (devices cells : ℕ) (x0 y1 y2 : List ℕ) (to : ℕ) (few : devices ≤ 8) (f : ℕ → ℕ) (N : Numbers x0 y1 (to + ITEM_NUMBERS) devices f) (P : Place) (g : ℕ → P.Holds) (F : Filled P y1 y2 (to + ITEM_PLACES) cells g) where
  number_is : (k : ℕ) → k < devices → get_or y2 (to + ITEM_NUMBERS + k) 0 ≡ f k
  number_is k h = F.kept (to + ITEM_NUMBERS + k) (λ p q. omega arith) ∙ N.is k h

  kind_is : get_or y2 to 0 ≡ get_or x0 to 0
  kind_is = F.kept to (λ p q. omega arith) ∙ N.kept to (λ p q. omega arith)

  keep : (i : ℕ) → Out (to + ITEM_NUMBERS) devices i → Out (to + ITEM_PLACES) (P.width * cells) i → get_or y2 i 0 ≡ get_or x0 i 0
  keep i b c = F.kept i c ∙ N.kept i b

-- Places of two words, in an item and in the words of another.
item_across : (P Q : Place) (devices cells : ℕ) (xs ys ss : List ℕ) (to : ℕ) → P.width ≡ 2 → Q.width ≡ 2 → Storable devices cells xs ss to → length ys ≡ length xs → Valid Q ss ITEM_PLACES cells → Across P Q ys ss (to + ITEM_PLACES) ITEM_PLACES cells
item_across P Q devices cells xs ys ss to w v S len ok =
    let a : P.width * cells ≡ 2 * cells = ap (λ (k : ℕ). k * cells) w in
    let b : Q.width * cells ≡ 2 * cells = ap (λ (k : ℕ). k * cells) v in
    let t = S.fits in
    let l = S.ready.item in
    let c = S.ready.few_cells in
    record { to_fits = omega arith; from_fits = omega arith; from_valid = ok }

-- The numbers of both are in their slices.
pub numbers_fit : (devices cells : ℕ) (xs ss : List ℕ) (to : ℕ) → Storable devices cells xs ss to → (to + ITEM_NUMBERS + devices ≤ length xs) × (ITEM_NUMBERS + devices ≤ length ss)
numbers_fit devices cells xs ss to S =
    let t = S.fits in
    let l = S.ready.item in
    let d = S.ready.few_devices in
    (omega arith, omega arith)

-- An item is stored: y1 has its kind and its numbers.
module _ (devices cells : ℕ) (xs ss : List ℕ) (to : ℕ) (S : Storable devices cells xs ss to) (y1 : List ℕ) (len : length y1 ≡ length xs) (N : Numbers (set xs to (get_or ss ITEM_KIND 0)) y1 (to + ITEM_NUMBERS) devices (λ k. get_or ss (ITEM_NUMBERS + k) 0)) where
  pub cells_across : get_or ss ITEM_KIND 0 ≡ PREFIX → Across cell_place cell_place y1 ss (to + ITEM_PLACES) ITEM_PLACES cells
  cells_across e = item_across cell_place cell_place devices cells xs y1 ss to refl refl S len (S.ready.valid.prefix_places e)

  pub changes_across : (get_or ss ITEM_KIND 0 ≡ PREFIX → ⊥) → Across change_place change_place y1 ss (to + ITEM_PLACES) ITEM_PLACES cells
  changes_across n = item_across change_place change_place devices cells xs y1 ss to refl refl S len (S.ready.valid.segment_places (no_prefix devices cells ss ITEM_KIND S.ready.valid n))

  kind_stored : get_or (set xs to (get_or ss ITEM_KIND 0)) to 0 ≡ get_or ss ITEM_KIND 0
  kind_stored = set_new xs to (get_or ss ITEM_KIND 0) (omega (arith, S.fits))

  pub prefix_stored : (y2 : List ℕ) → get_or ss ITEM_KIND 0 ≡ PREFIX → Filled cell_place y1 y2 (to + ITEM_PLACES) cells (λ k. cell_at ss (ITEM_PLACES + CELL * k)) → PutEntry (item_entry devices cells) xs y2 to (item_at devices cells ss ITEM_KIND)
  unfolding numbers_at places_at
  prefix_stored y2 e F =
      let few = S.ready.few_devices in
      let n = number_is devices cells _ y1 y2 to few _ N cell_place _ F in
      rw (prefix_is devices cells ss ITEM_KIND e)
      (prefix_made devices cells xs y2 to _ _ (kind_is devices cells _ y1 y2 to few _ N cell_place _ F ∙ kind_stored ∙ e) (λ k h. rw (n k h) (S.ready.valid.prefix_numbers e k h)) (below_same devices _ _ 0 (λ k h. ap (λ (a : ℕ). a - 1) (n k h))) F.valid (places_filled cell_place Blank cells y1 y2 (to + ITEM_PLACES) _ F)
      (λ i a b c. keep devices cells _ y1 y2 to few _ N cell_place _ F i b c ∙ set_kept xs to (get_or ss ITEM_KIND 0) i a))

  pub segment_stored : (y2 : List ℕ) → (get_or ss ITEM_KIND 0 ≡ PREFIX → ⊥) → Filled change_place y1 y2 (to + ITEM_PLACES) cells (λ k. change_at ss (ITEM_PLACES + CHANGE * k)) → PutEntry (item_entry devices cells) xs y2 to (item_at devices cells ss ITEM_KIND)
  unfolding given_at places_at
  segment_stored y2 m F =
      let few = S.ready.few_devices in
      let e = no_prefix devices cells ss ITEM_KIND S.ready.valid m in
      let n = number_is devices cells _ y1 y2 to few _ N change_place _ F in
      rw (is_segment devices cells ss ITEM_KIND e)
      (segment_made devices cells xs y2 to _ _ (kind_is devices cells _ y1 y2 to few _ N change_place _ F ∙ kind_stored ∙ e) (below_same devices _ _ none (λ k h. ap given_by (n k h))) F.valid (places_filled change_place Nothing cells y1 y2 (to + ITEM_PLACES) _ F)
      (λ i a b c. keep devices cells _ y1 y2 to few _ N change_place _ F i b c ∙ set_kept xs to (get_or ss ITEM_KIND 0) i a))

-- A segment is joined: y1 has the numbers taken over.
module _ (devices cells : ℕ) (xs ss : List ℕ) (to : ℕ) (J : JoinableTo devices cells xs ss to) (y1 : List ℕ) (len : length y1 ≡ length xs) (N : Numbers xs y1 (to + ITEM_NUMBERS) devices (λ k. later_number (get_or xs (to + ITEM_NUMBERS + k) 0) (get_or ss (ITEM_NUMBERS + k) 0))) where
  few : devices ≤ 8
  few = J.storable.ready.few_devices

  to_same : Same xs y1 (to + ITEM_PLACES) (2 * cells)
  to_same i p q = N.kept i (λ u v. omega (arith, few))

  segment_valid : Valid change_place ss ITEM_PLACES cells
  segment_valid = J.storable.ready.valid.segment_places J.is_segment

  pub apply_across : get_or xs to 0 ≡ PREFIX → Across cell_place change_place y1 ss (to + ITEM_PLACES) ITEM_PLACES cells × Valid cell_place y1 (to + ITEM_PLACES) cells
  apply_across e = (item_across cell_place change_place devices cells xs y1 ss to refl refl J.storable len segment_valid, places_valid cell_place cell_local cells xs y1 (to + ITEM_PLACES) to_same (J.to_valid.prefix_places e))

  pub join_across : (get_or xs to 0 ≡ PREFIX → ⊥) → Across change_place change_place y1 ss (to + ITEM_PLACES) ITEM_PLACES cells × Valid change_place y1 (to + ITEM_PLACES) cells
  join_across n = (item_across change_place change_place devices cells xs y1 ss to refl refl J.storable len segment_valid, places_valid change_place change_local cells xs y1 (to + ITEM_PLACES) to_same (J.to_valid.segment_places (no_prefix devices cells xs to J.to_valid n)))

  pub prefix_joined_to : (y2 : List ℕ) → get_or xs to 0 ≡ PREFIX → Filled cell_place y1 y2 (to + ITEM_PLACES) cells (λ k. applied (cell_at y1 (to + ITEM_PLACES + CELL * k)) (change_at ss (ITEM_PLACES + CHANGE * k))) → PutEntry (item_entry devices cells) xs y2 to (join_item sheet (item_at devices cells xs to) (item_at devices cells ss ITEM_KIND))
  unfolding numbers_at given_at
  prefix_joined_to y2 e F =
      let n = number_is devices cells xs y1 y2 to few _ N cell_place _ F in
      rw (prefix_is devices cells xs to e, is_segment devices cells ss ITEM_KIND J.is_segment)
      (prefix_made devices cells xs y2 to _ _ (kind_is devices cells xs y1 y2 to few _ N cell_place _ F ∙ e) (λ k h. rw (n k h) (later_positive (get_or xs (to + ITEM_NUMBERS + k) 0) (get_or ss (ITEM_NUMBERS + k) 0) (J.to_valid.prefix_numbers e k h)))
      (fun_ext (λ k. ⊎_elim (λ l. rw (lt-ltb k devices l) (ap (λ (a : ℕ). a - 1) (n k l) ∙ given_word (get_or xs (to + ITEM_NUMBERS + k) 0) (get_or ss (ITEM_NUMBERS + k) 0))) (λ g. rw (le-ltb k devices g) refl) (lt_or_ge k devices)))
      F.valid
      (applied_across cells y1 y2 ss (to + ITEM_PLACES) ITEM_PLACES F ∙ (λ i c. applied (places_same cell_place cell_local cells xs y1 (to + ITEM_PLACES) to_same Blank i c) (changes_at cells ss ITEM_PLACES c)))
      (λ i a b c. keep devices cells xs y1 y2 to few _ N cell_place _ F i b c))

  pub segment_joined_to : (y2 : List ℕ) → (get_or xs to 0 ≡ PREFIX → ⊥) → Filled change_place y1 y2 (to + ITEM_PLACES) cells (λ k. joined (change_at y1 (to + ITEM_PLACES + CHANGE * k)) (change_at ss (ITEM_PLACES + CHANGE * k))) → PutEntry (item_entry devices cells) xs y2 to (join_item sheet (item_at devices cells xs to) (item_at devices cells ss ITEM_KIND))
  unfolding given_at
  segment_joined_to y2 m F =
      let e = no_prefix devices cells xs to J.to_valid m in
      let n = number_is devices cells xs y1 y2 to few _ N change_place _ F in
      rw (is_segment devices cells xs to e, is_segment devices cells ss ITEM_KIND J.is_segment)
      (segment_made devices cells xs y2 to _ _ (kind_is devices cells xs y1 y2 to few _ N change_place _ F ∙ e)
      (fun_ext (λ k. ⊎_elim (λ l. rw (lt-ltb k devices l) (ap given_by (n k l) ∙ later_word (get_or xs (to + ITEM_NUMBERS + k) 0) (get_or ss (ITEM_NUMBERS + k) 0))) (λ g. rw (le-ltb k devices g) refl) (lt_or_ge k devices)))
      F.valid
      (joined_across cells y1 y2 ss (to + ITEM_PLACES) ITEM_PLACES F ∙ (λ i c. joined (places_same change_place change_local cells xs y1 (to + ITEM_PLACES) to_same Nothing i c) (changes_at cells ss ITEM_PLACES c)))
      (λ i a b c. keep devices cells xs y1 y2 to few _ N change_place _ F i b c))

-- An item joins a queue: behind the last, or joined to it.
module _ {A : Type 0} (j : A → A → A) where
  join_behind : (q : List A) (a x : A) → join_last j (q ++ (a ∷ [])) x ≡ q ++ (j a x ∷ [])
  join_behind [] a x = refl
  join_behind (b ∷ []) a x = refl
  join_behind (b ∷ c ∷ q) a x = ap (λ (l : List A). b ∷ l) (join_behind (c ∷ q) a x)

  enqueued_behind : (n : ℕ) (f : ℕ → A) (x : A) → n < QUEUE → enqueue j (queue n f) x ≡ queue n f ++ (x ∷ [])
  enqueued_behind n f x h = rw (lt-ltb (length (queue n f)) 8 (omega (arith, queue_length n f))) refl

  enqueued_joined : (n : ℕ) (f : ℕ → A) (x : A) → QUEUE ≤ suc n → enqueue j (queue (suc n) f) x ≡ queue n f ++ (j (f n) x ∷ [])
  enqueued_joined n f x h = rw (le-ltb (length (queue (suc n) f)) 8 (omega (arith, queue_length (suc n) f))) (unfold queue in (join_behind (queue n f) (f n) x))

-- The last entry of a queue is stored anew.
module _ (E : Entry) (L : LocalEntry E) (xs ys : List ℕ) (l o n : ℕ) (v : E.Holds) (ok : (j : ℕ) → j < n → E.ValidAt xs (o + E.room * j)) (W : PutEntry E xs ys (o + E.room * n) v) where
  before_same : (j : ℕ) → j < n → (k : ℕ) → E.Uses xs (o + E.room * j) k → get_or ys k 0 ≡ get_or xs k 0
  before_same j h k u = W.kept k (λ w.
      let a = L.within xs (o + E.room * j) k u in
      let b = L.within ys (o + E.room * n) k w in
      omega (arith, place_below E.room j n h))

  new_last : queue (suc n) (λ j. E.value_at ys (o + E.room * j)) ≡ queue n (λ j. E.value_at xs (o + E.room * j)) ++ (v ∷ [])
  unfolding queue
  new_last = (λ i. queue_same n (λ j. E.value_at ys (o + E.room * j)) (λ j. E.value_at xs (o + E.room * j)) (λ j h. L.value_same xs ys (o + E.room * j) (ok j h) (before_same j h)) i ++ (W.is i ∷ []))

  last_renewed : l < o → get_or xs l 0 ≡ suc n → suc n ≤ QUEUE → Requeued E xs ys l o (queue n (λ j. E.value_at xs (o + E.room * j)) ++ (v ∷ []))
  last_renewed a e few =
      let s : get_or ys l 0 ≡ suc n = W.kept l (λ w. let b = L.within ys (o + E.room * n) l w in omega arith) ∙ e in
      record {
        now_is = record {
          is = ap (λ (m : ℕ). queue m (λ j. E.value_at ys (o + E.room * j))) s ∙ new_last;
          few = rw s few;
          valid = λ j h. below_suc {P = λ k. E.ValidAt ys (o + E.room * k)} n (λ k b. L.valid_same xs ys (o + E.room * k) (ok k b) (before_same k b)) W.valid j (omega (arith, s));
        };
        kept = λ i p q. W.kept i (q n (omega (arith, s)));
      }

-- An item is put behind those that wait.
pub put_behind_last : (devices cells : ℕ) (xs ss ys : List ℕ) → Stackable devices cells xs ss → length ys ≡ length xs → PutEntry (item_entry devices cells) xs ys (ITEMS + ITEM * get_or xs ITEMS_LENGTH 0) (item_at devices cells ss ITEM_KIND) → Requeued (item_entry devices cells) xs (set ys ITEMS_LENGTH (get_or xs ITEMS_LENGTH 0 + 1)) ITEMS_LENGTH ITEMS (items_of devices cells xs ++ (item_at devices cells ss ITEM_KIND ∷ []))
put_behind_last devices cells xs ss ys S len W =
    let Q : QueueIs (item_entry devices cells) xs ITEMS_LENGTH ITEMS (items_of devices cells xs) = record { is = refl; few = S.there.few; valid = S.there.items } in
    queue_added (item_entry devices cells) (item_local devices cells S.ready.few_devices S.ready.few_cells) xs ys ITEMS_LENGTH ITEMS (item_at devices cells ss ITEM_KIND) (items_of devices cells xs) Q W (omega arith) (omega (arith, len, S.there.size)) S.room

-- A segment is put on a connection.
module _ (devices cells : ℕ) (xs ss : List ℕ) (D : Deliverable devices cells xs ss) where
  entries : LocalEntry (item_entry devices cells)
  entries = item_local devices cells D.ready.few_devices D.ready.few_cells

  pub stackable : get_or xs ITEMS_LENGTH 0 < QUEUE → Stackable devices cells xs ss
  stackable h = record { ready = D.ready; there = D.there; room = h }

  pub last_behind : (ys : List ℕ) → get_or xs ITEMS_LENGTH 0 < QUEUE → Requeued (item_entry devices cells) xs ys ITEMS_LENGTH ITEMS (items_of devices cells xs ++ (item_at devices cells ss ITEM_KIND ∷ [])) → Requeued (item_entry devices cells) xs ys ITEMS_LENGTH ITEMS (enqueue (join_item sheet) (items_of devices cells xs) (item_at devices cells ss ITEM_KIND))
  last_behind ys h Q = rw (enqueued_behind (join_item sheet) (get_or xs ITEMS_LENGTH 0) (λ j. item_at devices cells xs (ITEMS + ITEM * j)) (item_at devices cells ss ITEM_KIND) h) Q

  module _ (h : QUEUE ≤ get_or xs ITEMS_LENGTH 0) where
    all_full : get_or xs ITEMS_LENGTH 0 ≡ 8
    all_full = omega (arith, D.there.few)

    pub last_joinable : JoinableTo devices cells xs ss (ITEMS + ITEM * 7)
    last_joinable = record {
      storable = record { ready = D.ready; fits = omega (arith, D.there.size) };
      to_valid = D.there.items 7 (omega (arith, all_full));
      is_segment = D.is_segment;
    }

    pub last_joined : (ys : List ℕ) → PutEntry (item_entry devices cells) xs ys (ITEMS + ITEM * 7) (join_item sheet (item_at devices cells xs (ITEMS + ITEM * 7)) (item_at devices cells ss ITEM_KIND)) → Requeued (item_entry devices cells) xs ys ITEMS_LENGTH ITEMS (enqueue (join_item sheet) (items_of devices cells xs) (item_at devices cells ss ITEM_KIND))
    last_joined ys W =
        let f : ℕ → Item sheet = λ j. item_at devices cells xs (ITEMS + ITEM * j) in
        let e = ap (λ (n : ℕ). enqueue (join_item sheet) (queue n f) (item_at devices cells ss ITEM_KIND)) all_full ∙ enqueued_joined (join_item sheet) 7 f (item_at devices cells ss ITEM_KIND) (omega arith) in
        rw e
        (last_renewed (item_entry devices cells) entries xs ys ITEMS_LENGTH ITEMS 7 _ (λ j b. D.there.items j (omega (arith, all_full))) W (omega arith) all_full (omega arith))
