-- What joining waiting rounds makes of a segment. Assumes nothing.
use mathlib.Core.Path.{◌≡◌, refl, sym, ap, ◌∙◌}
use mathlib.Core.Logic.{⊎_elim}
use mathlib.Core.Option.{none, some}
use mathlib.Core.List.{List, [], ◌∷◌, ◌++◌}
use Prim.Native.Nat.{ℕ, zero, suc, ◌+◌, ◌*◌, ◌-◌, ◌≤◌, ◌<◌, min}
use native.Mathlib.Numerals.{add-one}
use native.Mathlib.Omega.{arith}
use lib.ListN.{length, get_or, set, take, length-append}
use lib.Seq.{take-append-le, take_all}
use Rattle.cells.specs.Cells.{joined}
use Rattle.cells.specs.declared.Change.{Change}
use Rattle.cells.specs.declared.Change.TheVariants.{Nothing}
use Rattle.protocol.specs.Machine.{choose, is_held, later, Round, join_rounds, last_number}
use Rattle.sheet.specs.Sheet.{sheet}
use Rattle.words.specs.Layout.{CHANGE, ROUND, ROUND_CHANGES, ITEM, ITEM_NUMBERS, ITEM_PLACES, WAITING, STALE, CONNECTION, WAITING_LENGTH}
use Rattle.words.specs.Place.{change_place, change_at, Valid, Filled}
use Rattle.record.specs.Reading.{changes_at, queue, round_at, given_by, connection_of}
use Rattle.words.proofs.Places.{Same, lt_or_ge, set_new, set_kept, change_local}
use Rattle.record.proofs.Queues.{queue_length}
use Rattle.record.proofs.Same.{places_same, places_valid}
use Rattle.record.proofs.Loops.{joined_across}
use Rattle.link.specs.Gather.{first_waiting, rounds_of, JoinedRounds, GatheredOne}

-- Rounds joined one after the other can be joined in two parts.
pub join_rounds_append : (b : ℕ → Change) (rs qs : List (Round sheet)) → join_rounds sheet b (rs ++ qs) ≡ join_rounds sheet (join_rounds sheet b rs) qs
join_rounds_append b [] qs = refl
join_rounds_append b (r ∷ rs) qs = join_rounds_append (λ c. joined (b c) (r.delta c)) rs qs

module _ (cells : ℕ) (ss rs : List ℕ) where
  pub rounds_none : Valid change_place ss ITEM_PLACES cells → JoinedRounds cells 0 ss rs ss
  unfolding queue
  rounds_none ok = record { is = refl; valid = ok; kept = λ i out. refl }

  pub rounds_more : (k : ℕ) (ts us : List ℕ) → JoinedRounds cells k ss rs ts → Filled change_place ts us ITEM_PLACES cells (λ c. joined (change_at ts (ITEM_PLACES + CHANGE * c)) (change_at rs (WAITING + ROUND * k + ROUND_CHANGES + CHANGE * c))) → JoinedRounds cells (k + 1) ss rs us
  unfolding queue round_at
  rounds_more k ts us B F = record {
    is = joined_across cells ts us rs ITEM_PLACES (WAITING + ROUND * k + ROUND_CHANGES) F
        ∙ (λ i c. joined (B.is i c) (changes_at cells rs (WAITING + ROUND * k + ROUND_CHANGES) c))
        ∙ sym (rw (add-one k) (join_rounds_append (changes_at cells ss ITEM_PLACES) (first_waiting cells k rs) (round_at cells rs (WAITING + ROUND * k) ∷ [])));
    valid = F.valid;
    kept = λ i out. F.kept i out ∙ B.kept i out;
  }

-- What a share is: no more than wait, and none without a connection.
pub some_share : (count waiting connection r : ℕ) → connection ≤ STALE → (connection ≡ 0 → ⊥) → r ≡ min count waiting → r ≡ min (choose (is_held (connection_of connection)) count 0) waiting
some_share count waiting zero r h n e = absurd (n refl)
some_share count waiting (suc zero) r h n e = e
some_share count waiting (suc (suc c)) r h n e = e

-- The first rounds of a queue, and its last number.
pub queue_take : {A : Type 0} (n w : ℕ) (f : ℕ → A) → take n (queue w f) ≡ queue (min n w) f
unfolding queue
queue_take n zero f = go n
  where
    go : (n : ℕ) → take n [] ≡ queue (min n 0) f
    go zero = refl
    go (suc n) = let e : min (suc n) 0 ≡ 0 = omega arith in rw e refl
queue_take n (suc w) f = ⊎_elim
    (λ l. let e : min n (suc w) ≡ min n w = omega arith in rw e (take-append-le n (queue w f) (f w ∷ []) (omega (arith, queue_length w f)) ∙ queue_take n w f))
    (λ g. let e : min n (suc w) ≡ suc w = omega arith in rw e (take_all n (queue w f ++ (f w ∷ [])) (simp length-append (omega (arith, queue_length w f)))))
    (lt_or_ge n (suc w))

last_of : (rs : List (Round sheet)) (r : Round sheet) → last_number sheet (rs ++ (r ∷ [])) ≡ some r.number
last_of [] r = refl
last_of (q ∷ []) r = refl
last_of (q ∷ p ∷ rs) r = last_of (p ∷ rs) r

last_waiting : (cells k : ℕ) (rs : List ℕ) → last_number sheet (first_waiting cells (suc k) rs) ≡ some (get_or rs (WAITING + ROUND * k) 0)
unfolding queue round_at
last_waiting cells k rs = last_of (first_waiting cells k rs) (round_at cells rs (WAITING + ROUND * k))

-- What `gather_one` makes of a segment: k rounds are taken, ts has them joined.
module _ (cells count d k : ℕ) (ss rs ts : List ℕ) (few : d < 8) (e : k ≡ min (choose (is_held (connection_of (get_or rs CONNECTION 0))) count 0) (get_or rs WAITING_LENGTH 0)) (J : JoinedRounds cells k ss rs ts) where
  rounds_are : rounds_of cells count rs ≡ first_waiting cells k rs
  rounds_are = queue_take _ (get_or rs WAITING_LENGTH 0) (λ j. round_at cells rs (WAITING + ROUND * j)) ∙ ap (λ (n : ℕ). first_waiting cells n rs) (sym e)

  many_is : k ≡ length (rounds_of cells count rs)
  many_is = sym (ap length rounds_are ∙ queue_length k (λ j. round_at cells rs (WAITING + ROUND * j)))

  pub gathered_none : k ≡ 0 → GatheredOne cells count d ss rs k ts
  gathered_none z = record {
    many = many_is;
    is = J.is ∙ ap (join_rounds sheet (changes_at cells ss ITEM_PLACES)) (sym rounds_are);
    valid = J.valid;
    number = ap given_by (J.kept (ITEM_NUMBERS + d) (λ p q. omega arith)) ∙ sym (ap (later (given_by (get_or ss (ITEM_NUMBERS + d) 0))) (ap (last_number sheet) (rounds_are ∙ ap (λ (n : ℕ). first_waiting cells n rs) z) ∙ none_there));
    others = λ i n out. J.kept i out;
  }
    where
      none_there : last_number sheet (first_waiting cells 0 rs) ≡ none
      none_there = unfold queue in refl

  pub gathered_some : (length ts ≡ ITEM) → 0 < k → cells ≤ 64 → GatheredOne cells count d ss rs k (set ts (ITEM_NUMBERS + d) (get_or rs (WAITING + ROUND * (k - 1)) 0 + 1))
  gathered_some l h c = record {
    many = many_is;
    is = places_same change_place change_local cells ts end ITEM_PLACES behind Nothing ∙ J.is ∙ ap (join_rounds sheet (changes_at cells ss ITEM_PLACES)) (sym rounds_are);
    valid = places_valid change_place change_local cells ts end ITEM_PLACES behind J.valid;
    number = ap given_by (set_new ts (ITEM_NUMBERS + d) number (omega arith) ∙ add-one (get_or rs (WAITING + ROUND * (k - 1)) 0)) ∙ sym (ap (later (given_by (get_or ss (ITEM_NUMBERS + d) 0))) (ap (last_number sheet) (rounds_are ∙ ap (λ (n : ℕ). first_waiting cells n rs) back) ∙ last_waiting cells (k - 1) rs));
    others = λ i n out. set_kept ts (ITEM_NUMBERS + d) number i n ∙ J.kept i out;
  }
    where
      number : ℕ
      number = get_or rs (WAITING + ROUND * (k - 1)) 0 + 1

      end : List ℕ
      end = set ts (ITEM_NUMBERS + d) number

      back : k ≡ suc (k - 1)
      back = omega arith

      behind : Same ts end ITEM_PLACES (CHANGE * cells)
      behind i p q = set_kept ts (ITEM_NUMBERS + d) number i (λ z. omega arith)
