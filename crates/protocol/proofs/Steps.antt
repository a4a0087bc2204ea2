-- The steps of one device that edit, push and send keep the invariant. Assumes nothing.
use mathlib.Core.Path.{◌≡◌, refl, sym, ap, ◌∙◌, subst}
use mathlib.Core.Bool.{Bool, true, false, not}
use mathlib.Core.List.{List, [], ◌∷◌, ◌++◌, append_assoc, append-nil}
use mathlib.Core.Option.{Option, none, some}
use Prim.Native.Nat.{ℕ, suc, ◌+◌, ◌≤◌, ◌<◌}
use native.Mathlib.Omega.{arith}
use lib.Dec.{T, leb, eqb, nleb→lt}
use lib.ListN.{length, length-append}
use Rattle.protocol.specs.declared.Refusal.{Refusal}
use Rattle.protocol.specs.declared.Refusal.TheVariants.{NotEstablished, NoPush, PendingFull, PushesSpent}
use Rattle.protocol.specs.Model.{Model, Laws}
use Rattle.protocol.specs.Machine.{is_established, Round, Device, Answer, refused, refused_at, Local, fine, tell, unless, unless_refused, above, view, joined, update_at, block_at, push_at, round_of, send_at, sent_from, full}
use Rattle.protocol.specs.History.{Push, Past, after_edits, after_push}
use Rattle.protocol.specs.Claims.{join_updates}
use Rattle.protocol.proofs.Basics.{every_append, twice_not, positive, above_snoc}
use Rattle.protocol.proofs.Holds.{Represents, Holds, represents_join, represents_empty, holds_push, holds_send, holds_length}
use Rattle.protocol.proofs.Invariant.{untaken, Shared, number_there, Own, Line, Edits, DeviceInvariant}
use Rattle.protocol.proofs.Items.{chain_same, got_same}
use Rattle.protocol.proofs.Lines.{line_sent}

module _ (M : Model) where
  open M use {State, Delta, Update, join, empty, one, refuses}

  abbrev pub Kept : (Device M → Type 0) → Local M → Type 0
  Kept P (fine y) = P y
  Kept P (tell a) = Unit {0}

  pub unless_kept : (P : Device M → Type 0) (b : Bool) (k : Refusal) (r : Local M) → (T (not b) → Kept P r) → Kept P (unless M b k r)
  unless_kept P true k r f = tt
  unless_kept P false k r f = f tt

  pub unless_refused_kept : (P : Device M → Type 0) (o : Option Refusal) (f : Refusal → Answer M) (r : Local M) → (o ≡ none → Kept P r) → Kept P (unless_refused M o f r)
  unless_refused_kept P none f r k = k refl
  unless_refused_kept P (some a) f r k = tt

  -- the open edits do what their joined change does
  represents_updates : Laws M → (b : Delta) (us vs : List Update) → Represents M b us → Represents M (join_updates M b vs) (us ++ vs)
  represents_updates L b us [] f = subst (Represents M b) (sym (append-nil us)) f
  represents_updates L b us (u ∷ vs) f =
      subst (Represents M (join_updates M (join b (one u)) vs)) (append_assoc us (u ∷ []) vs) (represents_updates L (join b (one u)) (us ++ (u ∷ [])) vs (represents_join M L b (one u) us (u ∷ []) f (L.apply_one u)))

  pub represents_edits : Laws M → (g : Shared M) (b : Delta) (us : List Update) → Edits M g b us → Represents M b us
  represents_edits L g b us e = subst (λ (c : Delta). Represents M c us) (sym e.0) (represents_updates L empty [] us (represents_empty M L))

  updates_snoc : (b : Delta) (us : List Update) (u : Update) → join_updates M b (us ++ (u ∷ [])) ≡ join (join_updates M b us) (one u)
  updates_snoc b [] u = refl
  updates_snoc b (v ∷ us) u = updates_snoc (join b (one v)) us u

  edits_snoc : (g : Shared M) (b : Delta) (us : List Update) (u : Update) (s : State) → refuses g.cells g.who s u ≡ none → Edits M g b us → Edits M g (join b (one u)) (us ++ (u ∷ []))
  edits_snoc g b us u s n e = (ap (λ (c : Delta). join c (one u)) e.0 ∙ sym (updates_snoc empty us u), every_append _ us (u ∷ []) e.1 ((s, n), tt))

  module _ (g : Shared M) (at : ℕ) where
    joined_keeps : (x : Device M) (h : Past M) → DeviceInvariant M g at x h → (u : Update) (s : State) → refuses g.cells g.who s u ≡ none → DeviceInvariant M g at (joined M u x) (after_edits M (u ∷ []) h)
    joined_keeps x h v u s n =
        record {
          last_is = v.last_is;
          edits_are = edits_snoc g x.transaction h.edits u s n v.edits_are;
          known_is = v.known_is;
          known_stop = v.known_stop;
          known_all = v.known_all;
          got = v.got;
          queue = v.queue;
          top_own = v.top_own;
          live_end = v.live_end;
          line = v.line;
          few = v.few;
        }

    pub update_keeps : (x : Device M) (h : Past M) → DeviceInvariant M g at x h → (u : Update) → Kept (λ y. DeviceInvariant M g at y (after_edits M (u ∷ []) h)) (update_at M g.cells g.who u x)
    unfolding update_at
    update_keeps x h v u = unless_refused_kept _ (refuses g.cells g.who (view M x) u) refused (fine (joined M u x)) (joined_keeps x h v u (view M x))

    kept_edits : (h : Past M) (us vs : List Update) → us ≡ vs → (r : Local M) → Kept (λ y. DeviceInvariant M g at y record { made = h.made; edits = us; pulled = h.pulled; reach = h.reach; sent = h.sent }) r
        → Kept (λ y. DeviceInvariant M g at y record { made = h.made; edits = vs; pulled = h.pulled; reach = h.reach; sent = h.sent }) r
    kept_edits h us vs e r k = subst (λ (l : List Update). Kept (λ y. DeviceInvariant M g at y record { made = h.made; edits = l; pulled = h.pulled; reach = h.reach; sent = h.sent }) r) e k

    pub block_keeps : (k : ℕ) (us : List Update) (x : Device M) (h : Past M) → DeviceInvariant M g at x h → Kept (λ y. DeviceInvariant M g at y (after_edits M us h)) (block_at M g.cells g.who k us x)
    block_keeps k [] x h v = kept_edits h h.edits (h.edits ++ []) (sym (append-nil h.edits)) (fine x) v
    block_keeps k (u ∷ us) x h v =
        unless_refused_kept _ (refuses g.cells g.who (view M x) u) (λ r. refused_at r k) (block_at M g.cells g.who (suc k) us (joined M u x))
        (λ n.
        kept_edits h (h.edits ++ (u ∷ []) ++ us) (h.edits ++ (u ∷ us)) (append_assoc h.edits (u ∷ []) us) (block_at M g.cells g.who (suc k) us (joined M u x))
        (block_keeps (suc k) us (joined M u x) (after_edits M (u ∷ []) h) (joined_keeps x h v u (view M x) n)))

  module _ (g : Shared M) (at : ℕ) (x : Device M) (h : Past M) (v : DeviceInvariant M g at x h) where
    -- a device whose pushes and what it holds of them have changed: each place is carried over
    own_push : Laws M → (q : ℕ) → Own M g x h.made q
        → (ps : List (Push M)) × (h.made ++ (h.edits ∷ []) ≡ g.own q ++ ps) × Holds M (number_there M g q) ps (above M (number_there M g q) x.pending) (join x.buffered x.transaction) (suc x.covered)
    own_push L q o = (
      o.0 ++ (h.edits ∷ []),
      ap (λ (l : List (Push M)). l ++ (h.edits ∷ [])) o.1 ∙ append_assoc (g.own q) o.0 (h.edits ∷ []),
      holds_push M L (number_there M g q) o.0 (above M (number_there M g q) x.pending) x.buffered x.transaction x.covered h.edits o.2 (represents_edits L g x.transaction h.edits v.edits_are),
    )

    pub push_keeps : Laws M → Kept (λ y. DeviceInvariant M g at y (after_push M h)) (push_at M x)
    unfolding push_at
    push_keeps L =
        unless_kept (λ y. DeviceInvariant M g at y (after_push M h)) (leb 1000000 x.last) PushesSpent _
        (λ t.
        record {
          last_is = omega (arith, v.last_is, length-append h.made (h.edits ∷ []));
          edits_are = (refl, tt);
          known_is = v.known_is;
          known_stop = (v.known_stop.0, own_push L h.pulled v.known_stop.1);
          known_all = v.known_all;
          got = got_same M g _ _ (λ q s. (s.0, own_push L q s.1)) h.pulled x.received h.reach v.got;
          queue = chain_same M g _ _ (λ q s. (s.0, own_push L q s.1)) h.reach x.link.items h.sent v.queue;
          top_own = own_push L g.top v.top_own;
          live_end = v.live_end;
          line = v.line;
          few = v.few;
        })

    below_last : (q : ℕ) → 0 < x.covered → (o : Own M g x h.made q) → (number_there M g q < x.last) × (x.last ≡ number_there M g q + length o.0)
    below_last q p o =
        let l : length h.made ≡ length (g.own q) + length o.0 = ap length o.1 ∙ length-append (g.own q) o.0 in
        let c : x.covered ≤ length o.0 = holds_length M (number_there M g q) o.0 (above M (number_there M g q) x.pending) x.buffered x.covered o.2 in
        let e : x.last ≡ g.base + length h.made = v.last_is in
        (omega arith, omega arith)

    above_sent : (q : ℕ) → number_there M g q < x.last → above M (number_there M g q) (x.pending ++ (round_of M x ∷ [])) ≡ above M (number_there M g q) x.pending ++ (round_of M x ∷ [])
    above_sent q l = above_snoc M (number_there M g q) x.pending (round_of M x) l

    own_send : Laws M → 0 < x.covered → (q : ℕ) → Own M g x h.made q
        → (ps : List (Push M)) × (h.made ≡ g.own q ++ ps) × Holds M (number_there M g q) ps (above M (number_there M g q) (x.pending ++ (round_of M x ∷ []))) empty 0
    own_send L p q o = (
      o.0,
      o.1,
      subst (λ (rs : List (Round M)). Holds M (number_there M g q) o.0 rs empty 0) (sym (above_sent q (below_last q p o).0))
          (holds_send M L (number_there M g q) o.0 (above M (number_there M g q) x.pending) x.buffered x.covered x.last o.2 p (below_last q p o).1),
    )

    sending : Laws M → 0 < x.covered → T (is_established x.link.channel) → length x.pending < 8 → DeviceInvariant M g at (sent_from M x) h
    sending L p e q =
        record {
          last_is = v.last_is;
          edits_are = v.edits_are;
          known_is = v.known_is;
          known_stop = (v.known_stop.0, own_send L p h.pulled v.known_stop.1);
          known_all = above_sent h.pulled (below_last h.pulled p v.known_stop.1).0 ∙ ap (λ (rs : List (Round M)). rs ++ (round_of M x ∷ [])) v.known_all;
          got = got_same M g _ _ (λ q s. (s.0, own_send L p q s.1)) h.pulled x.received h.reach v.got;
          queue = chain_same M g _ _ (λ q s. (s.0, own_send L p q s.1)) h.reach x.link.items h.sent v.queue;
          top_own = own_send L p g.top v.top_own;
          live_end = v.live_end;
          line =
              subst (λ (rs : List (Round M)). Line M g rs x.link.channel x.link.request x.link.connection (x.link.waiting ++ (round_of M x ∷ [])) x.link.items)
              (sym (above_sent g.top (below_last g.top p v.top_own).0))
              (line_sent M g (untaken M g x) (round_of M x) x.link.channel x.link.request x.link.connection x.link.waiting x.link.items e v.line);
          few = omega (arith, q, length-append x.pending (round_of M x ∷ []));
        }

    pub send_keeps : Laws M → Kept (λ y. DeviceInvariant M g at y h) (send_at M x)
    unfolding send_at
    send_keeps L =
        unless_kept (λ y. DeviceInvariant M g at y h) (not (is_established x.link.channel)) NotEstablished _
        (λ t.
        unless_kept (λ y. DeviceInvariant M g at y h) (eqb x.covered 0) NoPush _
        (λ u.
        unless_kept (λ y. DeviceInvariant M g at y h) (full M x) PendingFull _
        (λ w. sending L (positive x.covered u) (twice_not (is_established x.link.channel) t) (nleb→lt 8 (length x.pending) w))))
