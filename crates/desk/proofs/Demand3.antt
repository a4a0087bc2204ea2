-- Demand 3 over the calls: protocol's theorems, of the words that calls lead to. Assumes nothing.
use mathlib.Core.Path.{◌≡◌, refl, sym, ap, ◌∙◌, subst}
use mathlib.Core.Bool.{true, false, false≢true}
use mathlib.Core.Logic.{◌⊎◌, inl, inr, ⊎_elim}
use mathlib.Core.List.{List, [], ◌∷◌, ◌++◌, map, append_assoc}
use Prim.Native.Nat.{ℕ, ◌+◌, ◌<◌}
use native.Mathlib.Omega.{arith}
use lib.ListN.{length, take}
use Rattle.protocol.specs.Machine.{Start, Step, Table, step, run, fresh, batched_unless0, after_crash, Answer, done, value, says_yes, says_no, moved, length_is, refused, refused_at}
use Rattle.protocol.specs.Machine as machine
use Rattle.protocol.specs.declared.Refusal.{Refusal}
use Rattle.protocol.specs.History.{Every, table_after, history_after, mine}
use Rattle.protocol.specs.Claims.{Explained, Onward, waiting_in}
use Rattle.protocol.specs.Claims as Claims
use Rattle.protocol.proofs.Run.{read_same, confirmed_same}
use Rattle.sheet.specs.Changes.{idle_below}
use Rattle.std.specs.Prelude.{Ok}
use Rattle.sheet.specs.Sheet.{sheet}
use Rattle.sheet.specs.Answer.{meaning, block_meaning}
use Rattle.sheet.specs.declared.Answer.TheVariants.{Done, Value, Yes}
use Rattle.sheet.proofs.OneAnswer.{meaning_one, block_meaning_one}
use Rattle.sheet.proofs.Runs.{run_append}
use Rattle.sheet.proofs.Theorem as Sheet
use Rattle.words.proofs.Places.{lt_or_ge}
use Rattle.table.specs.Promise.{Stepped}
use Rattle.table.specs.Table.{IsTable, reading}
use Rattle.table.proofs.Once.{became_same, either_way}
use Rattle.image.specs.Promise.{Written, image_of_table}
use Rattle.desk.specs.Calls.{Call, Called, Made, Calls, Renews, anew, start, update, block, read, confirmed, push, send, ask, give_up, receive, pull, accept, serverdrop, batch, crash, cut, write_image, open_image}
use Rattle.desk.specs.Demand3.{step_of_call, steps_of, history_of, read_by, refusal_number, RefusalsByNumber, Next, reconnect, Reached, Demand3OverCalls, EachCall, LookingLeaves, ReadsGiven, ReconnectsGiven, RenewsGiven}
use Rattle.desk.proofs.Never1.{step_never_1, length_never_1, short_never_1}
use Rattle.desk.proofs.Reaches.{start_stays, opening_stays, AllowedStart, At, is_table, called_steps, begun_at}

-- An answer with a refusal's number is a refusal of the machine, with a position or without.
refusal_is : (a : Answer sheet) → 0 < refusal_number a → (r : Refusal) × ((a ≡ machine.refused r) ⊎ ((k : ℕ) × (a ≡ machine.refused_at r k)))
refusal_is done h = absurd (omega arith)
refusal_is (value c) h = absurd (omega arith)
refusal_is says_yes h = absurd (omega arith)
refusal_is says_no h = absurd (omega arith)
refusal_is (moved k) h = absurd (omega arith)
refusal_is (length_is k) h = absurd (omega arith)
refusal_is (refused r) h = (r, inl refl)
refusal_is (refused_at r k) h = (r, inr (k, refl))

-- A call of a step answers with the number of the machine's refusal.
pub refusals_by_number : RefusalsByNumber
refusals_by_number s xs ys a S = record {
  no_table = λ n. ap refusal_number ((S.no_table n).number);
  refusal = λ T r e. ap refusal_number (S.answer T ∙ e);
  refusal_at = λ T r k e. ap refusal_number (S.answer T ∙ e);
  no_refusal = λ T f g. go a (S.answer T) f g;
}
  where
    go : (b : Answer sheet) → b ≡ (s (reading xs)).answer → ((r : Refusal) → (s (reading xs)).answer ≡ machine.refused r → ⊥) → ((r : Refusal) (k : ℕ) → (s (reading xs)).answer ≡ machine.refused_at r k → ⊥) → refusal_number b ≡ 0
    go done e f g = refl
    go (value c) e f g = refl
    go says_yes e f g = refl
    go says_no e f g = refl
    go (moved k) e f g = refl
    go (length_is k) e f g = refl
    go (refused r) e f g = absurd (f r (sym e))
    go (refused_at r k) e f g = absurd (g r k (sym e))

-- The next call on words that are a table.
module _ (xs : List ℕ) (T : IsTable xs) (a : Answer sheet) (ys : List ℕ) where
  -- a refused step leaves what the words say, and so every word
  step_stays : (s : Step sheet) → Stepped (step sheet s) xs a ys → 0 < refusal_number a → ys ≡ xs
  step_stays s S h =
      let p = refusal_is a h in
      let N = Sheet.refusal_changes_nothing s (reading xs) p.0 in
      let same = ⊎_elim (λ e. N.0 (sym (S.answer T) ∙ e)) (λ q. N.1 q.0 (sym (S.answer T) ∙ q.1)) p.1 in
      became_same xs ys _ T (S.after T) same

  writing : (buffer buffer' : List ℕ) → Written xs buffer a buffer' → refusal_number a ≡ 1 → ⊥
  writing buffer buffer' W =
      let S = W.stores T in
      ⊎_elim (λ l. short_never_1 a (S.short l).number) (λ g. length_never_1 a _ (S.answer g)) (lt_or_ge (length buffer) (length (image_of_table (reading xs))))

  buffer_stays : (buffer buffer' : List ℕ) → Written xs buffer a buffer' → 0 < refusal_number a → buffer' ≡ buffer
  buffer_stays buffer buffer' W h =
      let S = W.stores T in
      ⊎_elim (λ l. (S.short l).untouched) (λ g. let z = ap refusal_number (S.answer g) in absurd (omega arith)) (lt_or_ge (length buffer) (length (image_of_table (reading xs))))

  not_done : 0 < refusal_number a → a ≡ done → ⊥
  not_done h e = let z = ap refusal_number e in omega arith

  by_step : {c : Call} (s : Step sheet) → step_of_call c ≡ s ∷ [] → Stepped (step sheet s) xs a ys → Next (reading xs) c xs a ys
  by_step {c} s e S =
      record {
        answers = subst (Every (λ s. a ≡ (step sheet s (reading xs)).answer)) (sym e) (S.answer T, tt);
        never_1 = λ _. step_never_1 s (reading xs) a (S.answer T);
        untouched = step_stays s S;
      }

  by_look : {c : Call} (s : Step sheet) → step_of_call c ≡ s ∷ [] → Stepped (step sheet s) xs a xs → ys ≡ xs → Next (reading xs) c xs a ys
  by_look {c} s e S q =
      record {
        answers = subst (Every (λ s. a ≡ (step sheet s (reading xs)).answer)) (sym e) (S.answer T, tt);
        never_1 = λ _. step_never_1 s (reading xs) a (S.answer T);
        untouched = λ _. q;
      }

  next_is : (c : Call) → Called c xs a ys → Next (reading xs) c xs a ys
  next_is (start devices cells) C = record { answers = tt; never_1 = λ e. absurd (false≢true (sym e)); untouched = λ h. start_stays devices cells xs ys a C (not_done h) }
  next_is (update d cell u) C = by_step _ refl C
  next_is (block d entries) C = by_step _ refl C
  next_is (read d cell) C = by_look _ refl C.0 C.1
  next_is (confirmed d) C = by_look _ refl C.0 C.1
  next_is (push d) C = by_step _ refl C
  next_is (send d) C = by_step _ refl C
  next_is (ask d) C = by_step _ refl C
  next_is (give_up d) C = by_step _ refl C
  next_is (receive d) C = by_step _ refl C
  next_is (pull d) C = by_step _ refl C
  next_is (accept d) C = by_step _ refl C
  next_is (serverdrop d) C = by_step _ refl C
  next_is (batch counts) C = by_step _ refl C
  next_is crash C = by_step _ refl C
  next_is (cut counts reach) C = by_step _ refl C
  next_is (write_image buffer buffer') C = record { answers = tt; never_1 = λ _. writing buffer buffer' C.0; untouched = λ _. C.1 }
  next_is (open_image bytes) C = record { answers = tt; never_1 = λ e. absurd (false≢true (sym e)); untouched = λ h. opening_stays bytes xs ys a C (not_done h) }

-- The steps of calls, by the calls alone; of more calls; and calls that make no table anew.
abbrev steps_of_calls : List Call → List (Step sheet)
steps_of_calls [] = []
steps_of_calls (c ∷ cs) = step_of_call c ++ steps_of_calls cs

by_calls : (ms : List Made) → steps_of ms ≡ steps_of_calls (map (λ m. m.call) ms)
by_calls [] = refl
by_calls (m ∷ ms) = ap (λ (l : List (Step sheet)). step_of_call m.call ++ l) (by_calls ms)

steps_append : (ms more : List Made) → steps_of (ms ++ more) ≡ steps_of ms ++ steps_of more
steps_append [] more = refl
steps_append (m ∷ ms) more = ap (λ (l : List (Step sheet)). step_of_call m.call ++ l) (steps_append ms more) ∙ sym (append_assoc (step_of_call m.call) (steps_of ms) (steps_of more))

none_anew : (ms : List Made) → Every (λ c. anew c ≡ false) (map (λ m. m.call) ms) → Every (λ m. Renews m → ⊥) ms
none_anew [] h = tt
none_anew (m ∷ ms) h = (λ r. false≢true (sym h.0 ∙ r.0), none_anew ms h.1)

module _ (b : Start sheet) (ms : List Made) (xs : List ℕ) (k : AllowedStart b) (A : At b (steps_of ms) xs) where
  T : IsTable xs
  T = is_table k A

  explained_at : Explained sheet b (reading xs) (history_of b ms)
  explained_at = subst (λ (t : Table sheet). Explained sheet b t (history_of b ms)) (sym A.says) (Sheet.demand_3 b (steps_of ms))

  reads_at : (d c : ℕ) (a : Answer sheet) (ys : List ℕ) → Called (read d c) xs a ys → d < b.devices → c < b.cells → a ≡ value (read_by b (history_of b ms) d c)
  reads_at d c a ys C l m =
      let cells = explained_at.cells_stay in
      (C.0.answer T ∙ (explained_at.device d l).reads c (omega arith))

  confirms_at : (d : ℕ) (ys : List ℕ) → Called (confirmed d) xs says_yes ys
      → (((history_of b ms).past d).made ≡ mine sheet d (take ((history_of b ms).past d).pulled (history_of b ms).log)) × (((history_of b ms).past d).edits ≡ [])
  confirms_at d ys C =
      let e : (step sheet (machine.confirmed d) (reading xs)).answer ≡ machine.says_yes = sym (C.0.answer T) in
      let m = ((Sheet.refused_exactly_when (reading xs) d).confirmed_yes.0 e).0 in
      let devices = explained_at.devices_stay in
      let l : d < b.devices = omega arith in
      (((explained_at.device d l).confirmed_is e).0, Sheet.confirmed_nothing_open b (steps_of ms) d l (sym (ap (λ (t : Table sheet). (step sheet (machine.confirmed d) t).answer) A.says) ∙ e))

  moves_at : (counts : List ℕ) (n : ℕ) (ys : List ℕ) → Called (batch counts) xs (moved n) ys → waiting_in sheet (reading ys) b.devices + n ≡ waiting_in sheet (reading xs) b.devices
  moves_at counts n ys C =
      subst (λ (k : ℕ). waiting_in sheet (reading ys) k + n ≡ waiting_in sheet (reading xs) k) explained_at.devices_stay
      (subst (λ (t : Table sheet). waiting_in sheet t (reading xs).devices + n ≡ waiting_in sheet (reading xs) (reading xs).devices) (sym (C.after T).says) ((Sheet.moved_is_shrinking (reading xs) counts n).batch_shrinks (sym (C.answer T))))

  cuts_at : (counts : List ℕ) (reach n : ℕ) (ys : List ℕ) → Called (cut counts reach) xs (moved n) ys
      → (reading ys ≡ after_crash sheet (batched_unless0 sheet (reading xs) counts reach)) × (waiting_in sheet (batched_unless0 sheet (reading xs) counts reach) b.devices + n ≡ waiting_in sheet (reading xs) b.devices)
  cuts_at counts reach n ys C =
      let M = Sheet.moved_is_shrinking (reading xs) counts n in (
        (C.after T).says ∙ M.cut_crashes reach,
        subst (λ (k : ℕ). waiting_in sheet (batched_unless0 sheet (reading xs) counts reach) k + n ≡ waiting_in sheet (reading xs) k) explained_at.devices_stay (M.cut_shrinks reach (sym (C.answer T))),
      )

  reconnects_at : (d : ℕ) → d < b.devices → idle_below b.cells ((reading xs).device d).transaction ≡ true
      → (ns : List Made) → map (λ m. m.call) ns ≡ reconnect d → (ys zs : List ℕ) (a : Answer sheet) → Calls xs ns ys → Called (confirmed d) ys a zs → a ≡ says_yes
  reconnects_at d l idle ns e ys zs a C D =
      let B = called_steps b k ns (steps_of ms) xs ys A C (none_anew ns (subst (Every (λ c. anew c ≡ false)) (sym e) (refl, (refl, (refl, (refl, (refl, (refl, (refl, (refl, (refl, (refl, (refl, tt))))))))))))) in
      let steps : steps_of ns ≡ Claims.reconnect sheet d = by_calls ns ∙ ap steps_of_calls e in
      let says : reading ys ≡ run sheet (Claims.reconnect sheet d) (table_after sheet b (steps_of ms)) =
      B.says ∙ run_append (steps_of ms) (steps_of ns) (fresh sheet b) ∙ ap (λ (l : List (Step sheet)). run sheet l (table_after sheet b (steps_of ms))) steps in
      (D.0.answer (is_table k B) ∙ ap (λ (t : Table sheet). (step sheet (machine.confirmed d) t).answer) says
      ∙ Sheet.reconnected b (steps_of ms) d l (sym (ap (λ (t : Table sheet). idle_below b.cells (t.device d).transaction) A.says) ∙ idle))

  reached : Reached b ms xs
  reached =
      record {
        says = A.says;
        is_table = T;
        explained = explained_at;
        next = λ c a ys. next_is xs T a ys c;
        buffer_untouched = λ buffer buffer' a ys C. buffer_stays xs T a ys buffer buffer' C.0;
        reads = reads_at;
        confirms = confirms_at;
        moves = moves_at;
        cuts = cuts_at;
        onward = λ more. subst (λ (l : List (Step sheet)). Onward sheet (history_of b ms) (history_after sheet b l)) (sym (steps_append ms more)) (Sheet.demand_3_onward b (steps_of ms) (steps_of more));
        reconnects = reconnects_at;
      }

pub demand_3_over_calls : Demand3OverCalls
demand_3_over_calls b ms xs R =
    let first = begun_at b R.first R.begun in
    reached b ms xs first.0 (called_steps b first.0 ms [] R.first xs first.1 R.calls R.goes_on)

pub reads_given : ReadsGiven
reads_given b ms xs R d c r ys C h k =
    meaning_one r (Ok (Value (read_by b (history_of b ms) d c))) ((demand_3_over_calls b ms xs R).reads d c (meaning r) ys C h k)

pub reconnects_given : ReconnectsGiven
reconnects_given b ms xs R d h i ns e ys zs r C A = meaning_one r (Ok Yes) ((demand_3_over_calls b ms xs R).reconnects d h i ns e ys zs (meaning r) C A)

pub renews_given : RenewsGiven
renews_given c r = (λ w. (w.0, block_meaning_one r (Ok Done) w.1), λ w. (w.0, ap block_meaning w.1))

split_calls : (ms ns : List Made) (xs zs : List ℕ) → Calls xs (ms ++ ns) zs → (ys : List ℕ) × Calls xs ms ys × Calls ys ns zs
split_calls [] ns xs zs C = (xs, refl, C)
split_calls (m ∷ ms) ns xs zs C =
    let p = split_calls ms ns C.0 zs C.2 in
    (p.0, (C.0, C.1, p.1), p.2)

every_first : (P : Made → Type 0) (ms ns : List Made) → Every P (ms ++ ns) → Every P ms
every_first P [] ns h = tt
every_first P (m ∷ ms) ns h = (h.0, every_first P ms ns h.1)

pub each_call : EachCall
each_call b ms ns m zs R =
    let p = split_calls ms (m ∷ ns) R.first zs R.calls in
    (p.0, p.2.0, record { first = R.first; begun = R.begun; calls = p.1; goes_on = every_first (λ m. Renews m → ⊥) ms (m ∷ ns) R.goes_on }, p.2.1, p.2.2)

-- a step that leaves every table leaves every word
leaves : (s : Step sheet) → ((t : Table sheet) → (step sheet s t).table ≡ t) → (xs ys : List ℕ) (a : Answer sheet) → Stepped (step sheet s) xs a ys → ys ≡ xs
leaves s same xs ys a S = (either_way (IsTable xs) a a ys xs (λ T. (refl, became_same xs ys _ T (S.after T) (same (reading xs)))) (λ n. (refl, (S.no_table n).untouched))).1

pub looking_leaves : LookingLeaves
looking_leaves d c xs ys a = (
  leaves (machine.read d c) (read_same sheet d c) xs ys a,
  leaves (machine.confirmed d) (confirmed_same sheet d) xs ys a,
)
