-- A block on the machine: looking at every update first and joining them then is trying them one by one. Assumes nothing.
use mathlib.Core.Path.{◌≡◌, refl, sym, ap, ◌∙◌, subst, fun_ext}
use mathlib.Core.Bool.{Bool, true, false}
use mathlib.Core.List.{List, [], ◌∷◌}
use mathlib.Core.Option.{Option, none, some}
use Prim.Native.Nat.{ℕ, suc, ◌<◌}
use native.Mathlib.Omega.{arith}
use lib.Dec.{eqb}
use borrow.Author.Tests.{lt-ltb, eq-eqb, eqb-true}
use Rattle.cells.specs.declared.Change.{Change}
use Rattle.protocol.specs.declared.Refusal.{Refusal}
use Rattle.protocol.specs.Machine.{choose, put, Device, Table, fine, tell, unless_refused, joined, settle, step, block_at, update_at, Answer, done, refused_at}
use Rattle.protocol.specs.Machine as machine
use Rattle.protocol.specs.Claims.{join_updates}
use Rattle.protocol.specs.Fits.{Fits, FitsDevice}
use Rattle.sheet.specs.Changes.{CellUpdate}
use Rattle.sheet.specs.Sheet.{sheet}
use Rattle.record.proofs.SameQueues.{SameQueues}
use Rattle.table.proofs.Records.{put_same}
use Rattle.block.specs.Block.{update_in, updates_in, refusal_of, by_refusal, first_bad}
use Rattle.block.specs.declared.Entry.{Entry}

-- A device with another open transaction, and a table with another device d.
abbrev pub opened : Device sheet → (ℕ → Change) → Device sheet
opened x b = record { known = x.known; received = x.received; pending = x.pending; buffered = x.buffered; covered = x.covered; transaction = b; last = x.last; link = x.link }

abbrev pub placed : ℕ → Device sheet → Table sheet → Table sheet
placed d y t = record { devices = t.devices; cells = t.cells; sheet = t.sheet; taken = t.taken; device = put d y t.device }

never_done : {A : Type 0} (r : Refusal) (i : ℕ) → ◌≡◌ {A = Answer sheet} (refused_at r i) done → A
never_done r i e = let z : ◌≡◌ {A = ℕ} 0 1 = cc in absurd (omega arith)

module _ (cells d : ℕ) where
  -- every update is good, and all are joined; or one is bad, and nothing is
  pub good_block : (es : List Entry) (i : ℕ) (x : Device sheet) → first_bad cells i es ≡ done → block_at sheet cells d i (updates_in es) x ≡ fine (opened x (join_updates sheet x.transaction (updates_in es)))
  good_block [] i x h = refl
  good_block (e ∷ es) i x h = go (good_block es (suc i) (joined sheet (update_in e) x)) (refusal_of cells e) h
    where
      go : (first_bad cells (suc i) es ≡ done → block_at sheet cells d (suc i) (updates_in es) (joined sheet (update_in e) x) ≡ fine (opened x (join_updates sheet x.transaction (updates_in (e ∷ es)))))
          → (o : Option Refusal) → by_refusal o i (first_bad cells (suc i) es) ≡ done → unless_refused sheet o (λ r. machine.refused_at r i) (block_at sheet cells d (suc i) (updates_in es) (joined sheet (update_in e) x)) ≡ fine (opened x (join_updates sheet x.transaction (updates_in (e ∷ es))))
      go ih none q = ih q
      go ih (some r) q = never_done r i q

  pub bad_block : (es : List Entry) (i : ℕ) (x : Device sheet) (r : Refusal) (k : ℕ) → first_bad cells i es ≡ refused_at r k → block_at sheet cells d i (updates_in es) x ≡ tell (machine.refused_at r k)
  bad_block [] i x r k h = never_done r k (sym h)
  bad_block (e ∷ es) i x r k h = go (bad_block es (suc i) (joined sheet (update_in e) x) r k) (refusal_of cells e) h
    where
      same : (q : Refusal) (a b : ℕ) (r : Refusal) → ◌≡◌ {A = machine.Answer sheet} (refused_at q a) (refused_at r b) → ◌≡◌ {A = machine.Answer sheet} (machine.refused_at q a) (machine.refused_at r b)
      same q a b r e = let z : q ≡ r = cc in let w : a ≡ b = cc in (λ i. machine.refused_at (z i) (w i))

      go : (first_bad cells (suc i) es ≡ refused_at r k → block_at sheet cells d (suc i) (updates_in es) (joined sheet (update_in e) x) ≡ tell (machine.refused_at r k))
          → (o : Option Refusal) → by_refusal o i (first_bad cells (suc i) es) ≡ refused_at r k → unless_refused sheet o (λ r. machine.refused_at r i) (block_at sheet cells d (suc i) (updates_in es) (joined sheet (update_in e) x)) ≡ tell (machine.refused_at r k)
      go ih none q = ih q
      go ih (some p) q = ap tell (same p i k r q)

-- The steps of a device that is there.
module _ (t : Table sheet) (d : ℕ) (h : d < t.devices) where
  block_is : (es : List Entry) → step sheet (machine.block d (updates_in es)) t ≡ settle sheet t d true (block_at sheet t.cells d 0 (updates_in es) (t.device d))
  unfolding step
  block_is es = ap (λ (b : Bool). settle sheet t d b (block_at sheet t.cells d 0 (updates_in es) (t.device d))) (lt-ltb d t.devices h)

  pub block_done : (es : List Entry) → first_bad t.cells 0 es ≡ done → step sheet (machine.block d (updates_in es)) t ≡ record { answer = machine.done; table = placed d (opened (t.device d) (join_updates sheet (t.device d).transaction (updates_in es))) t }
  block_done es e = block_is es ∙ ap (settle sheet t d true) (good_block t.cells d es 0 (t.device d) e)

  pub block_refused : (es : List Entry) (r : Refusal) (k : ℕ) → first_bad t.cells 0 es ≡ refused_at r k → step sheet (machine.block d (updates_in es)) t ≡ record { answer = machine.refused_at r k; table = t }
  block_refused es r k e = block_is es ∙ ap (settle sheet t d true) (bad_block t.cells d es 0 (t.device d) r k e)

  pub update_done : (e : Entry) → refusal_of t.cells e ≡ none → step sheet (machine.update d (update_in e)) t ≡ record { answer = machine.done; table = placed d (joined sheet (update_in e) (t.device d)) t }
  unfolding step update_at
  update_done e g =
      ap (λ (b : Bool). settle sheet t d b (update_at sheet t.cells d (update_in e) (t.device d))) (lt-ltb d t.devices h)
      ∙ ap (λ (o : Option Refusal). settle sheet t d true (unless_refused sheet o machine.refused (fine (joined sheet (update_in e) (t.device d))))) g

-- A device is placed where it was, and in another's place.
pub placed_same : (d : ℕ) (t : Table sheet) → placed d (t.device d) t ≡ t
placed_same d t = (λ i. record { devices = t.devices; cells = t.cells; sheet = t.sheet; taken = t.taken; device = put_same d (t.device d) t.device refl i })

put_here : {A : Type 0} (d : ℕ) (x : A) (f : ℕ → A) → put d x f d ≡ x
put_here d x f = ap (λ (b : Bool). choose b x (f d)) (same d)
  where
    same : (d : ℕ) → eqb d d ≡ true
    same d = rw (eq-eqb d d refl) refl

put_twice : {A : Type 0} (d : ℕ) (x y : A) (f : ℕ → A) → put d y (put d x f) ≡ put d y f
put_twice d x y f = fun_ext (λ c. go c (eqb c d))
  where
    go : (c : ℕ) (b : Bool) → choose b y (choose b x (f c)) ≡ choose b y (f c)
    go c true = refl
    go c false = refl

-- one more update of a device whose transaction was replaced
pub joined_on : (d : ℕ) (u : CellUpdate) (x : Device sheet) (b : ℕ → Change) (t : Table sheet) → placed d (joined sheet u ((placed d (opened x b) t).device d)) (placed d (opened x b) t) ≡ placed d (opened x (join_updates sheet b (u ∷ []))) t
joined_on d u x b t = (λ i. record {
  devices = t.devices;
  cells = t.cells;
  sheet = t.sheet;
  taken = t.taken;
  device = (ap (λ (y : Device sheet). put d (joined sheet u y) (put d (opened x b) t.device)) (put_here d (opened x b) t.device) ∙ put_twice d (opened x b) (opened x (join_updates sheet b (u ∷ []))) t.device) i;
})

-- Another transaction changes nothing of what "contents are a table" asks.
fits_opened : (n taken : ℕ) (x : Device sheet) (b : ℕ → Change) → FitsDevice sheet n taken x → FitsDevice sheet n taken (opened x b)
fits_opened n taken x b F =
    record {
      last_in_range = F.last_in_range;
      covered_in_range = F.covered_in_range;
      items_in_range = F.items_in_range;
      received_in_range = F.received_in_range;
      few_pending = F.few_pending;
      few_waiting = F.few_waiting;
      few_items = F.few_items;
      numbers_positive = F.numbers_positive;
      numbers_rise = F.numbers_rise;
      numbers_to_last = F.numbers_to_last;
      numbers_below_last = F.numbers_below_last;
      taken_to_last = F.taken_to_last;
      waiting_last_pending = F.waiting_last_pending;
      none_before_established = F.none_before_established;
      request_on_asked = F.request_on_asked;
      request_without_items = F.request_without_items;
      live_on_channel = F.live_on_channel;
      items_on_channel = F.items_on_channel;
      prefix_in_first_place = F.prefix_in_first_place;
      prefix_on_asked = F.prefix_on_asked;
      first_is_prefix = F.first_is_prefix;
      prefix_while_held = F.prefix_while_held;
      stale_not_established = F.stale_not_established;
    }

module _ (t : Table sheet) (d : ℕ) where
  pub fits_placed : (b : ℕ → Change) → Fits sheet t → Fits sheet (placed d (opened (t.device d) b) t)
  fits_placed b F = record { sizes = F.sizes; each = λ e l. go e l (eqb e d) refl }
    where
      go : (e : ℕ) → e < t.devices → (y : Bool) → eqb e d ≡ y → FitsDevice sheet t.devices (t.taken e) (choose y (opened (t.device d) b) (t.device e))
      go e l true q = subst (λ (c : ℕ). FitsDevice sheet t.devices (t.taken e) (opened (t.device c) b)) (eqb-true e d q) (fits_opened t.devices (t.taken e) (t.device e) b (F.each e l))
      go e l false q = F.each e l

  pub alike_placed : (a b : ℕ → Change) (e : ℕ) → SameQueues ((placed d (opened (t.device d) a) t).device e) ((placed d (opened (t.device d) b) t).device e)
  alike_placed a b e = go (eqb e d)
    where
      go : (y : Bool) → SameQueues (choose y (opened (t.device d) a) (t.device e)) (choose y (opened (t.device d) b) (t.device e))
      go true = record { received = refl; pending = refl; link = refl }
      go false = record { received = refl; pending = refl; link = refl }
