-- Rounds that go from a record, and a segment that goes to it. Assumes nothing.
use mathlib.Core.Path.{◌≡◌, refl, sym, ap, ◌∙◌, subst}
use mathlib.Core.Bool.{Bool, true, false, ◌&&◌}
use mathlib.Core.Logic.{⊎_elim}
use mathlib.Core.List.{List, []}
use Prim.Native.Nat.{ℕ, zero, suc, ◌+◌, ◌*◌, ◌-◌, ◌≤◌, min}
use native.Mathlib.Omega.{arith}
use lib.ListN.{length, get_or, set, drop, length-set, drop_of_length-le}
use lib.Seq.{drop-length}
use Rattle.protocol.specs.Machine.{Round, choose, is_held, is_live, is_stale, join_item, enqueue}
use Rattle.sheet.specs.Sheet.{sheet}
use Rattle.words.specs.Layout.{ROUND, ROUND_CHANGES, ITEM_KIND, STALE, LIVE, TAKEN, REQUEST, CONNECTION, WAITING_LENGTH, WAITING, ITEMS_LENGTH, ITEMS, RECORD}
use Rattle.words.specs.Place.{change_place, Valid}
use Rattle.words.proofs.Places.{lt_or_ge, set_kept, set_new}
use Rattle.record.specs.Reading.{queue, round_at, connection_of, item_at}
use Rattle.record.proofs.Queues.{queue_drop}
use Rattle.record.proofs.Same.{queue_same}
use Rattle.queues.specs.Items.{items_of}
use Rattle.queues.specs.Parts.{Movable, Moved, Requeued, round_entry, item_entry}
use Rattle.queues.proofs.Entries.{round_local, queue_moved}
use Rattle.delivery.specs.Deliver.{Deliverable}
use Rattle.link.specs.Gather.{first_waiting}
use Rattle.link.specs.Settle.{NumberTaken, HungUp}
use Rattle.link.specs.Waiting.{gone, HasWaiting}
use Rattle.link.proofs.Links.{requeued_same}

-- How many rounds go.
pub all_go : (count connection waiting : ℕ) (crash : Bool) → crash ≡ true → connection ≡ STALE → waiting ≡ gone count connection waiting crash
all_go count connection waiting crash b e = rw (b, e) refl

pub none_crashes : (count connection waiting : ℕ) (crash : Bool) (r : ℕ) → crash ≡ false → r ≡ min (choose (is_held (connection_of connection)) count 0) waiting → r ≡ gone count connection waiting crash
none_crashes count connection waiting crash r b e = rw b e

pub not_stale : (count connection waiting : ℕ) (crash : Bool) (r : ℕ) → connection ≤ STALE → (connection ≡ STALE → ⊥) → r ≡ min (choose (is_held (connection_of connection)) count 0) waiting → r ≡ gone count connection waiting crash
not_stale count zero waiting true r h n e = e
not_stale count (suc zero) waiting true r h n e = e
not_stale count (suc (suc k)) waiting true r h n e = absurd (n (omega arith))
not_stale count connection waiting false r h n e = e

pub gone_few : (count connection waiting : ℕ) (crash : Bool) → gone count connection waiting crash ≤ waiting
gone_few count connection waiting crash = go (crash && is_stale (connection_of connection))
  where
    go : (b : Bool) → choose b waiting (min (choose (is_held (connection_of connection)) count 0) waiting) ≤ waiting
    go true = omega arith
    go false = omega arith

-- The waiting rounds that are left.
drop_few : {A : Type 0} (c : ℕ) (l : List A) → drop (min c (length l)) l ≡ drop c l
drop_few c l = ⊎_elim (λ h. let e : min c (length l) ≡ c = omega arith in ap (λ (k : ℕ). drop k l) e) (λ g. let e : min c (length l) ≡ length l = omega arith in ap (λ (k : ℕ). drop k l) e ∙ drop-length l ∙ sym (drop_of_length-le l g)) (lt_or_ge c (length l))

pub left_is : (b : Bool) (k count : ℕ) (w : List (Round sheet)) → drop (gone count k (length w) b) w ≡ choose b (choose (is_stale (connection_of k)) [] (drop (choose (is_held (connection_of k)) count 0) w)) (drop (choose (is_held (connection_of k)) count 0) w)
left_is true zero count w = drop_few 0 w
left_is true (suc zero) count w = drop_few count w
left_is true (suc (suc k)) count w = drop-length w
left_is false k count w = drop_few (choose (is_held (connection_of k)) count 0) w

-- The first k waiting rounds go.
module _ (cells k : ℕ) (xs : List ℕ) (H : HasWaiting cells k xs) where
  pub waiting_movable : (k ≡ 0 → ⊥) → Movable (round_entry cells) xs WAITING (WAITING + ROUND * k) (get_or xs WAITING_LENGTH 0 - k)
  waiting_movable n =
      let f = H.few in
      let z = H.size in
      let m = H.some_left in
      record {
        to_fits = omega arith;
        from_fits = omega arith;
        from_valid = λ j h. let e : WAITING + ROUND * (k + j) ≡ WAITING + ROUND * k + ROUND * j = omega arith in subst (λ (o : ℕ). Valid change_place xs (o + ROUND_CHANGES) cells) e (H.rounds (k + j) (omega arith));
        ahead = λ i j l h m p q u v. n (omega arith);
      }

  dropped_are : drop k (first_waiting cells (get_or xs WAITING_LENGTH 0) xs) ≡ queue (get_or xs WAITING_LENGTH 0 - k) (λ j. round_at cells xs (WAITING + ROUND * k + ROUND * j))
  dropped_are =
      let m = H.some_left in
      let e : get_or xs WAITING_LENGTH 0 ≡ k + (get_or xs WAITING_LENGTH 0 - k) = omega arith in
      ap (λ (n : ℕ). drop k (queue n (λ j. round_at cells xs (WAITING + ROUND * j)))) e
      ∙ queue_drop k (get_or xs WAITING_LENGTH 0 - k) (λ j. round_at cells xs (WAITING + ROUND * j))
      ∙ queue_same _ _ _ (λ j h. let z : WAITING + ROUND * (k + j) ≡ WAITING + ROUND * k + ROUND * j = omega arith in ap (round_at cells xs) z)

  pub waiting_dropped : (ys : List ℕ) → length ys ≡ RECORD → Moved (round_entry cells) xs ys WAITING (get_or xs WAITING_LENGTH 0 - k) (λ j. round_at cells xs (WAITING + ROUND * k + ROUND * j)) → Requeued (round_entry cells) xs (set ys WAITING_LENGTH (get_or xs WAITING_LENGTH 0 - k)) WAITING_LENGTH WAITING (drop k (first_waiting cells (get_or xs WAITING_LENGTH 0) xs))
  waiting_dropped ys len M = rw dropped_are (queue_moved (round_entry cells) (round_local cells H.few_cells) xs ys WAITING_LENGTH WAITING (get_or xs WAITING_LENGTH 0 - k) _ (omega arith) (omega arith) (omega (arith, H.few)) M)

  pub none_dropped : k ≡ 0 → Requeued (round_entry cells) xs xs WAITING_LENGTH WAITING (drop k (first_waiting cells (get_or xs WAITING_LENGTH 0) xs))
  none_dropped e = rw e (requeued_same (round_entry cells) xs WAITING_LENGTH WAITING _ record { is = refl; few = H.few; valid = H.rounds })

-- A segment that does not go out, and one that does.
module _ (devices cells : ℕ) (xs ss : List ℕ) (reaches : Bool) (D : Deliverable devices cells xs ss) where
  unsent : Requeued (item_entry devices cells) xs xs ITEMS_LENGTH ITEMS (items_of devices cells xs)
  unsent = requeued_same (item_entry devices cells) xs ITEMS_LENGTH ITEMS _ record { is = refl; few = D.there.few; valid = D.there.items }

  pub not_live : (get_or xs CONNECTION 0 ≡ LIVE → ⊥) → Requeued (item_entry devices cells) xs xs ITEMS_LENGTH ITEMS (choose (is_live (connection_of (get_or xs CONNECTION 0)) && reaches) (enqueue (join_item sheet) (items_of devices cells xs) (item_at devices cells ss ITEM_KIND)) (items_of devices cells xs))
  not_live n = rw (go (get_or xs CONNECTION 0) n) unsent
    where
      go : (k : ℕ) → (k ≡ LIVE → ⊥) → is_live (connection_of k) ≡ false
      go zero m = refl
      go (suc zero) m = absurd (m refl)
      go (suc (suc k)) m = refl

  pub not_reached : get_or xs CONNECTION 0 ≡ LIVE → reaches ≡ false → Requeued (item_entry devices cells) xs xs ITEMS_LENGTH ITEMS (choose (is_live (connection_of (get_or xs CONNECTION 0)) && reaches) (enqueue (join_item sheet) (items_of devices cells xs) (item_at devices cells ss ITEM_KIND)) (items_of devices cells xs))
  not_reached e b = rw (e, b) unsent

  pub segment_sent : (ys : List ℕ) → get_or xs CONNECTION 0 ≡ LIVE → reaches ≡ true → Requeued (item_entry devices cells) xs ys ITEMS_LENGTH ITEMS (enqueue (join_item sheet) (items_of devices cells xs) (item_at devices cells ss ITEM_KIND)) → Requeued (item_entry devices cells) xs ys ITEMS_LENGTH ITEMS (choose (is_live (connection_of (get_or xs CONNECTION 0)) && reaches) (enqueue (join_item sheet) (items_of devices cells xs) (item_at devices cells ss ITEM_KIND)) (items_of devices cells xs))
  segment_sent ys e b Q = rw (e, b) Q

-- The number of the last round taken, where the segment gives one.
pub no_number : (word : ℕ) (xs : List ℕ) → word ≡ 0 → NumberTaken word xs xs
no_number word xs e = rw e (record { taken = refl; others = λ i n. refl })

pub number_taken : (word : ℕ) (xs : List ℕ) → (word ≡ 0 → ⊥) → length xs ≡ RECORD → NumberTaken word xs (set xs TAKEN (word - 1))
number_taken zero xs n l = absurd (n refl)
number_taken (suc k) xs n l = record { taken = set_new xs TAKEN (suc k - 1) (omega arith) ∙ back; others = λ i m. set_kept xs TAKEN (suc k - 1) i m }
  where
    back : suc k - 1 ≡ k
    back = omega arith

-- The end of connection and request.
pub no_crash : (crash : Bool) (xs : List ℕ) → crash ≡ false → HungUp crash xs xs
no_crash crash xs e = rw e (record { request = refl; connection = refl; others = λ i a b. refl })

pub hung_up : (crash : Bool) (xs : List ℕ) → crash ≡ true → length xs ≡ RECORD → HungUp crash xs (set (set xs REQUEST 0) CONNECTION 0)
hung_up crash xs e l =
    rw e (record {
      request = set_kept (set xs REQUEST 0) CONNECTION 0 REQUEST (λ q. omega arith) ∙ set_new xs REQUEST 0 (omega arith);
      connection = set_new (set xs REQUEST 0) CONNECTION 0 (simp length-set (omega arith));
      others = λ i a b. set_kept (set xs REQUEST 0) CONNECTION 0 i b ∙ set_kept xs REQUEST 0 i a;
    })
