-- The claims of specs/Claims.antt, each proved. Assumes nothing.
use mathlib.Core.Path.{◌≡◌, refl, sym, ap, ◌∙◌}
use mathlib.Core.Logic.{◌⊎◌, inl, inr, ⊎_elim}
use mathlib.Core.List.{List, [], ◌∷◌, map}
use mathlib.Core.Option.{Option, none, some}
use Prim.Native.Nat.{ℕ, zero, suc, ◌<◌}
use native.Mathlib.Omega.{arith}
use Rattle.cells.specs.declared.Change.{Change}
use Rattle.protocol.specs.declared.Refusal.{Refusal}
use Rattle.protocol.specs.declared.Refusal.TheVariants.{NoTable, NoDevice}
use Rattle.protocol.specs.Machine.{Device, Table, Result, joined, step, run, refused, refused_at, done}
use Rattle.protocol.specs.Machine as machine
use Rattle.protocol.specs.History.{Every}
use Rattle.protocol.specs.Claims.{join_updates}
use Rattle.protocol.specs.Refusals.{FirstBad as FirstBadOn}
use Rattle.sheet.specs.Sheet.{sheet}
use Rattle.std.specs.Prelude.{Ok}
use Rattle.sheet.specs.Answer.{block_meaning}
use Rattle.sheet.specs.declared.Answer.TheVariants.{Done}
use Rattle.sheet.proofs.OneAnswer.{done_refused, block_meaning_one}
use Rattle.sheet.proofs.Theorem.{refused_exactly_when, refusal_changes_nothing}
use Rattle.words.proofs.Places.{lt_or_ge}
use Rattle.table.specs.Table.{reading, IsTable}
use Rattle.table.proofs.Once.{became_same, either_way}
use Rattle.block.specs.Block.{update_in, updates_in, refusal_of, by_refusal, first_bad}
use Rattle.block.specs.Claims.{FirstBad, BlockAlwaysAnswers, BlockAllOrNone, BlockAllOrNoneGiven, EmptyBlock, BlockInOrder}
use Rattle.block.specs.declared.Entry.{Entry}
use Rattle.block.proofs.Joins.{opened, placed, placed_same, joined_on, block_done, block_refused, update_done}

module _ (m : machine.Answer sheet) where
  device_table : m ≡ refused NoDevice → m ≡ refused NoTable → ⊥
  device_table p q = let z : ◌≡◌ {A = ℕ} 0 1 = cc in omega arith

  at_refused : (r q : Refusal) (k : ℕ) → m ≡ refused_at r k → m ≡ refused q → ⊥
  at_refused r q k e f = let z : ◌≡◌ {A = ℕ} 0 1 = cc in omega arith

-- A block is done, or refused with a position.
either : (cells : ℕ) (es : List Entry) (i : ℕ) → (first_bad cells i es ≡ done) ⊎ ((r : Refusal) × (k : ℕ) × (first_bad cells i es ≡ refused_at r k))
either cells [] i = inl refl
either cells (e ∷ es) i = go (refusal_of cells e) (either cells es (suc i))
  where
    go : (o : Option Refusal) → (first_bad cells (suc i) es ≡ done) ⊎ ((r : Refusal) × (k : ℕ) × (first_bad cells (suc i) es ≡ refused_at r k)) → (by_refusal o i (first_bad cells (suc i) es) ≡ done) ⊎ ((r : Refusal) × (k : ℕ) × (by_refusal o i (first_bad cells (suc i) es) ≡ refused_at r k))
    go none ih = ih
    go (some r) ih = inr (r, i, refl)

never_1 : (t : Table sheet) (d : ℕ) (es : List Entry) → (step sheet (machine.block d (updates_in es)) t).answer ≡ refused NoTable → ⊥
never_1 t d es e = ⊎_elim
    (λ l. ⊎_elim
    (λ g. done_refused _ NoTable (ap (λ (x : Result sheet). x.answer) (block_done t d l es g)) e)
    (λ b. at_refused _ b.0 NoTable b.1 (ap (λ (x : Result sheet). x.answer) (block_refused t d l es b.0 b.1 b.2)) e)
    (either t.cells es 0))
    (λ g. device_table _ (((refused_exactly_when t d).no_device (updates_in es) 0).0.1 g) e)
    (lt_or_ge d t.devices)

-- The machine's first bad update is the block's: whether an update is refused does not depend on the device.
module _ (cells d : ℕ) (r : Refusal) where
  first_of : (es : List Entry) (k : ℕ) (x : Device sheet) → FirstBadOn sheet cells d x (updates_in es) k r → FirstBad cells es k r
  first_of [] k x h = h
  first_of (e ∷ es) zero x h = h
  first_of (e ∷ es) (suc k) x h = (h.0, first_of es k (joined sheet (update_in e) x) h.1)

  first_on : (es : List Entry) (k : ℕ) (x : Device sheet) → FirstBad cells es k r → FirstBadOn sheet cells d x (updates_in es) k r
  first_on [] k x h = h
  first_on (e ∷ es) zero x h = h
  first_on (e ∷ es) (suc k) x h = (h.0, first_on es k (joined sheet (update_in e) x) h.1)

all_good : (cells : ℕ) (es : List Entry) → ((k : ℕ) (r : Refusal) → FirstBad cells es k r → ⊥) → Every (λ e. refusal_of cells e ≡ none) es
all_good cells [] f = tt
all_good cells (e ∷ es) f = go (all_good cells es) (refusal_of cells e) refl
  where
    go : (((k : ℕ) (r : Refusal) → FirstBad cells es k r → ⊥) → Every (λ e. refusal_of cells e ≡ none) es) → (o : Option Refusal) → refusal_of cells e ≡ o → (refusal_of cells e ≡ none) × Every (λ e. refusal_of cells e ≡ none) es
    go ih none q = (q, ih (λ k r h. f (suc k) r (q, h)))
    go ih (some r) q = absurd (f 0 r q)

none_bad : (cells : ℕ) (es : List Entry) → Every (λ e. refusal_of cells e ≡ none) es → (k : ℕ) (r : Refusal) → FirstBad cells es k r → ⊥
none_bad cells [] g k r h = h
none_bad cells (e ∷ es) g zero r h = absurd (apart (refusal_of cells e) g.0 h)
  where
    apart : (o : Option Refusal) → o ≡ none → o ≡ some r → ⊥
    apart o p q = let z : ◌≡◌ {A = ℕ} 0 1 = cc in omega arith
none_bad cells (e ∷ es) g (suc k) r h = none_bad cells es g.1 k r h.1

pub block_answers : BlockAlwaysAnswers
block_answers d es xs ys a S =
    let t = reading xs in
    let x = (reading xs).device d in
    let R = refused_exactly_when (reading xs) d in
    record {
      block_1 = (λ e T. never_1 t d es (sym (S.answer T) ∙ e), λ n. (S.no_table n).number);
      block_3 = λ T. (λ e. (R.no_device (updates_in es) 0).0.0 (sym (S.answer T) ∙ e), λ g. S.answer T ∙ (R.no_device (updates_in es) 0).0.1 g);
      block_bad = λ T r k. (
        λ e. let p = (R.block_bad (updates_in es) r k).0 (sym (S.answer T) ∙ e) in (p.0, first_of t.cells d r es k x p.1),
        λ p. S.answer T ∙ (R.block_bad (updates_in es) r k).1 (p.0, first_on t.cells d r es k x p.1),
      );
      block_done = λ T. (
        λ e. let p = (R.block_done (updates_in es)).0 (sym (S.answer T) ∙ e) in (p.0, all_good t.cells es (λ k r h. p.1 k r (first_on t.cells d r es k x h))),
        λ p. S.answer T ∙ (R.block_done (updates_in es)).1 (p.0, λ k r h. none_bad t.cells es p.1 k r (first_of t.cells d r es k x h)),
      );
    }

pub block_all_or_none : BlockAllOrNone
block_all_or_none d es xs ys a S n =
    (either_way (IsTable xs) a a ys xs (λ T. (refl, became_same xs ys _ T (S.after T) (unmoved T))) (λ m. (refl, (S.no_table m).untouched))).1
  where
    unmoved : IsTable xs → (step sheet (machine.block d (updates_in es)) (reading xs)).table ≡ reading xs
    unmoved T = ⊎_elim
        (λ l. ⊎_elim
        (λ g. absurd (n (S.answer T ∙ ap (λ (x : Result sheet). x.answer) (block_done (reading xs) d l es g))))
        (λ b. ap (λ (x : Result sheet). x.table) (block_refused (reading xs) d l es b.0 b.1 b.2))
        (either (reading xs).cells es 0))
        (λ g. (refusal_changes_nothing (machine.block d (updates_in es)) (reading xs) NoDevice).0 (((refused_exactly_when (reading xs) d).no_device (updates_in es) 0).0.1 g))
        (lt_or_ge d (reading xs).devices)

pub empty_block : EmptyBlock
empty_block d xs ys a S =
    (either_way (IsTable xs) a a ys xs (λ T. (refl, became_same xs ys _ T (S.after T) unmoved)) (λ m. (refl, (S.no_table m).untouched))).1
  where
    unmoved : (step sheet (machine.block d []) (reading xs)).table ≡ reading xs
    unmoved = ⊎_elim
        (λ l. ap (λ (x : Result sheet). x.table) (block_done (reading xs) d l [] refl) ∙ placed_same d (reading xs))
        (λ g. (refusal_changes_nothing (machine.block d []) (reading xs) NoDevice).0 (((refused_exactly_when (reading xs) d).no_device [] 0).0.1 g))
        (lt_or_ge d (reading xs).devices)

-- The updates of a block, called one after the other on a table whose device d has the open transaction b.
module _ (d : ℕ) (t : Table sheet) (l : d < t.devices) where
  one_by_one : (es : List Entry) (b : ℕ → Change) → Every (λ e. refusal_of t.cells e ≡ none) es → run sheet (map (λ e. machine.update d (update_in e)) es) (placed d (opened (t.device d) b) t) ≡ placed d (opened (t.device d) (join_updates sheet b (updates_in es))) t
  one_by_one [] b g = refl
  one_by_one (e ∷ es) b g =
      ap (run sheet (map (λ e. machine.update d (update_in e)) es))
      (ap (λ (x : Result sheet). x.table) (update_done (placed d (opened (t.device d) b) t) d l e g.0) ∙ joined_on d (update_in e) (t.device d) b t)
      ∙ one_by_one es (join_updates sheet b (update_in e ∷ [])) g.1

good : (cells : ℕ) (es : List Entry) (i : ℕ) → Every (λ e. refusal_of cells e ≡ none) es → first_bad cells i es ≡ done
good cells [] i g = refl
good cells (e ∷ es) i g = ap (λ (o : Option Refusal). by_refusal o i (first_bad cells (suc i) es)) g.0 ∙ good cells es (suc i) g.1

pub block_in_order : BlockInOrder
block_in_order d es xs ys T S =
    let p = ((block_answers d es xs ys done S).block_done T).0 refl in
    (S.after T).says
    ∙ ap (λ (x : Result sheet). x.table) (block_done (reading xs) d p.0 es (good (reading xs).cells es 0 p.1))
    ∙ sym (one_by_one d (reading xs) p.0 es ((reading xs).device d).transaction p.1)
    ∙ ap (run sheet (map (λ e. machine.update d (update_in e)) es)) (placed_same d (reading xs))

pub block_all_or_none_given : BlockAllOrNoneGiven
block_all_or_none_given d es xs ys r S n = block_all_or_none d es xs ys (block_meaning r) S (λ e. n (block_meaning_one r (Ok Done) e))
