-- What may wait on a channel and a connection, and how each step of the link keeps it. Assumes nothing.
use mathlib.Core.Path.{◌≡◌, refl, sym, ap, ◌∙◌, subst}
use mathlib.Core.Logic.{◌⊎◌, inl, inr}
use mathlib.Core.Bool.{Bool, false, not}
use mathlib.Core.List.{List, [], ◌∷◌, ◌++◌, cons≢nil}
use mathlib.Core.Option.{Option}
use Prim.Native.Nat.{ℕ}
use lib.Dec.{T, ltb}
use lib.ListN.{length, drop}
use lib.Seq.{drop-nil}
use Rattle.protocol.specs.Model.{Model}
use Rattle.protocol.specs.Machine.{choose, join_last, enqueue, is_established, is_held, is_live, is_stale, Channel, off, asked, established, Connection, unheld, live, stale, Round, Item, prefix, segment, join_item}
use Rattle.protocol.proofs.Basics.{choose_by}
use Rattle.protocol.proofs.Invariant.{Shared, number_there, NoPrefix, PrefixFirst, Quiet, NotStale, Line}

-- the connection, once the device has replaced or given up its channel
abbrev pub aged : Connection → Connection
aged c = choose (is_held c) stale unheld

pub aged_not_live : (c : Connection) → T (is_live (aged c)) → ⊥
aged_not_live unheld t = t
aged_not_live live t = t
aged_not_live stale t = t

module _ (M : Model) where
  open M use {State, Delta}

  -- a connection ends
  quiet_ended : (all : List (Round M)) (c : Connection) (w : List (Round M)) → Quiet M all c w → choose (is_stale c) [] w ≡ []
  quiet_ended all unheld w h = h
  quiet_ended all live w h = absurd h
  quiet_ended all stale w h = refl

  ended_nil : (c : Connection) (w : List (Round M)) → w ≡ [] → choose (is_stale c) [] w ≡ []
  ended_nil unheld w h = h
  ended_nil live w h = h
  ended_nil stale w h = refl

  ended_same : (c : Connection) (w : List (Round M)) → NotStale M c → choose (is_stale c) [] w ≡ w
  ended_same unheld w h = refl
  ended_same live w h = refl
  ended_same stale w h = absurd h

  module _ (g : Shared M) (all : List (Round M)) where
    pub line_ended : (ch : Channel) (r r' : Bool) (c : Connection) (w : List (Round M)) (is : List (Item M))
        → (r ≡ false → r' ≡ false) → Line M g all ch r c w is → Line M g all ch r' unheld (choose (is_stale c) [] w) is
    line_ended off r r' c w is f h = (h.0, f h.1, quiet_ended all c w h.2)
    line_ended asked r r' c w is f (inl h) = inl (h.0, quiet_ended all c w h.1)
    line_ended asked r r' c w is f (inr h) = inr (h.0, ended_nil c w h.1, f h.2, tt)
    line_ended established r r' c w is f h = (h.0, ended_same c w h.3 ∙ h.1, f h.2, tt)

    pub line_sent : (r : Round M) (ch : Channel) (q : Bool) (c : Connection) (w : List (Round M)) (is : List (Item M))
        → T (is_established ch) → Line M g all ch q c w is → Line M g (all ++ (r ∷ [])) ch q c (w ++ (r ∷ [])) is
    line_sent r off q c w is e h = absurd e
    line_sent r asked q c w is e h = absurd e
    line_sent r established q c w is e h = (h.0, ap (λ (l : List (Round M)). l ++ (r ∷ [])) h.1, h.2, h.3)

    -- the channel is replaced or given up
    pub quiet_renewed : (ch : Channel) (r : Bool) (c : Connection) (w : List (Round M)) (is : List (Item M)) → Line M g all ch r c w is → Quiet M all (aged c) (choose (is_held c) w [])
    quiet_renewed ch r unheld w is h = refl
    quiet_renewed off r live w is h = absurd h.2
    quiet_renewed off r stale w is h = h.2
    quiet_renewed asked r live w is (inl h) = absurd h.1
    quiet_renewed asked r live w is (inr h) = inl h.1
    quiet_renewed asked r stale w is (inl h) = h.1
    quiet_renewed asked r stale w is (inr h) = inl h.1
    quiet_renewed established r live w is h = inr h.1
    quiet_renewed established r stale w is h = inr h.1

    -- the first item is taken off
    pub line_prefix : (ch : Channel) (r : Bool) (c : Connection) (w : List (Round M)) (s : State) (ns : ℕ → ℕ) (is : List (Item M)) → Line M g all ch r c w (prefix s ns ∷ is)
        → (ns g.who ≡ number_there M g g.top) × NoPrefix M is × (r ≡ false) × NotStale M c
    line_prefix off r c w s ns is l = absurd (cons≢nil l.0)
    line_prefix asked r c w s ns is (inl l) = absurd (cons≢nil l.0)
    line_prefix asked r c w s ns is (inr l) = (l.0.0, l.0.1, l.2, l.3)
    line_prefix established r c w s ns is l = absurd l.0

    pub line_segment : (ch : Channel) (r : Bool) (c : Connection) (w : List (Round M)) (b : Delta) (ms : ℕ → Option ℕ) (is : List (Item M)) → Line M g all ch r c w (segment b ms ∷ is) → Line M g all ch r c w is
    line_segment off r c w b ms is l = absurd (cons≢nil l.0)
    line_segment asked r c w b ms is (inl l) = absurd (cons≢nil l.0)
    line_segment asked r c w b ms is (inr l) = absurd l.0
    line_segment established r c w b ms is l = (l.0, l.1, l.2, l.3)

    -- a request that no connection keeps from being accepted
    pub requested : (ch : Channel) (r : Bool) (c : Connection) (w : List (Round M)) (is : List (Item M)) → T r → T (not (is_held c)) → Line M g all ch r c w is → (is ≡ []) × (ch ≡ asked) × (w ≡ [])
    requested off r c w is t u l = absurd (subst T l.1 t)
    requested asked r unheld w is t u (inl l) = (l.0, refl, l.1)
    requested asked r live w is t u (inl l) = absurd u
    requested asked r stale w is t u (inl l) = absurd u
    requested asked r c w is t u (inr l) = absurd (subst T l.2 t)
    requested established r c w is t u l = absurd (subst T l.2 t)

    -- either none waits, or all that are not taken
    pub line_waits : (ch : Channel) (r : Bool) (c : Connection) (w : List (Round M)) (is : List (Item M)) → Line M g all ch r c w is → (w ≡ []) ⊎ (w ≡ all)
    line_waits off r unheld w is l = inl l.2
    line_waits off r live w is l = absurd l.2
    line_waits off r stale w is l = l.2
    line_waits asked r unheld w is (inl l) = inl l.1
    line_waits asked r live w is (inl l) = absurd l.1
    line_waits asked r stale w is (inl l) = l.1
    line_waits asked r c w is (inr l) = inl l.1
    line_waits established r c w is l = inr l.1

    pub line_established : (ch : Channel) (r : Bool) (c : Connection) (w : List (Round M)) (is : List (Item M)) → T (is_established ch) → Line M g all ch r c w is → NoPrefix M is × (w ≡ all)
    line_established off r c w is e l = absurd e
    line_established asked r c w is e l = absurd e
    line_established established r c w is e l = (l.0, l.1)

  -- the first m rounds are taken, and the shared list g has become k
  module _ (g k : Shared M) (all rest : List (Round M)) (m : ℕ) (w : List (Round M)) (left : w ≡ all → drop m w ≡ rest) where
    nil_left : w ≡ [] → drop m w ≡ []
    nil_left e = ap (drop m) e ∙ drop-nil m

    quiet_taken : (c : Connection) → Quiet M all c w → Quiet M rest c (drop m w)
    quiet_taken unheld i = nil_left i
    quiet_taken live i = i
    quiet_taken stale (inl i) = inl (nil_left i)
    quiet_taken stale (inr i) = inr (left i)

    prefix_taken : (is : List (Item M)) → g.who ≡ k.who → number_there M k k.top ≡ number_there M g g.top → PrefixFirst M g is → PrefixFirst M k is
    prefix_taken [] u e h = h
    prefix_taken (prefix s ns ∷ is) u e h = (ap ns (sym u) ∙ h.0 ∙ sym e, h.1)
    prefix_taken (segment b ms ∷ is) u e h = h

    pub line_taken : (ch : Channel) (r : Bool) (c : Connection) (is : List (Item M)) → g.who ≡ k.who → (w ≡ [] → number_there M k k.top ≡ number_there M g g.top) → Line M g all ch r c w is → Line M k rest ch r c (drop m w) is
    line_taken off r c is u f l = (l.0, l.1, quiet_taken c l.2)
    line_taken asked r c is u f (inl l) = inl (l.0, quiet_taken c l.1)
    line_taken asked r c is u f (inr l) = inr (prefix_taken is u (f l.1) l.0, nil_left l.1, l.2, l.3)
    line_taken established r c is u f l = (l.0, left l.1, l.2, l.3)

  -- a segment is put on a live connection
  module _ (b : Delta) (ms : ℕ → Option ℕ) where
    no_prefix_snoc : (is : List (Item M)) → NoPrefix M is → NoPrefix M (is ++ (segment b ms ∷ []))
    no_prefix_snoc [] h = tt
    no_prefix_snoc (prefix s ns ∷ is) h = h
    no_prefix_snoc (segment a ls ∷ is) h = no_prefix_snoc is h

    no_prefix_join_last : (is : List (Item M)) → NoPrefix M is → NoPrefix M (join_last (join_item M) is (segment b ms))
    no_prefix_join_last [] h = tt
    no_prefix_join_last (prefix s ns ∷ []) h = absurd h
    no_prefix_join_last (prefix s ns ∷ i ∷ is) h = absurd h
    no_prefix_join_last (segment a ls ∷ []) h = tt
    no_prefix_join_last (segment a ls ∷ i ∷ is) h = no_prefix_join_last (i ∷ is) h

    no_prefix_enqueue : (is : List (Item M)) → NoPrefix M is → NoPrefix M (enqueue (join_item M) is (segment b ms))
    no_prefix_enqueue is h = choose_by (NoPrefix M) (ltb (length is) 8) (is ++ (segment b ms ∷ [])) (join_last (join_item M) is (segment b ms)) (λ t. no_prefix_snoc is h) (λ t. no_prefix_join_last is h)

    -- a prefix is never joined to: where it stands alone, the queue is not full
    prefix_enqueue : (g : Shared M) (is : List (Item M)) → PrefixFirst M g is → PrefixFirst M g (enqueue (join_item M) is (segment b ms))
    prefix_enqueue g [] h = absurd h
    prefix_enqueue g (segment a ls ∷ is) h = absurd h
    prefix_enqueue g (prefix s ns ∷ []) h = (h.0, tt)
    prefix_enqueue g (prefix s ns ∷ i ∷ is) h =
        choose_by (PrefixFirst M g) (ltb (length (prefix s ns ∷ i ∷ is)) 8) (prefix s ns ∷ i ∷ (is ++ (segment b ms ∷ []))) (prefix s ns ∷ join_last (join_item M) (i ∷ is) (segment b ms))
        (λ t. (h.0, no_prefix_snoc (i ∷ is) h.1)) (λ t. (h.0, no_prefix_join_last (i ∷ is) h.1))

    pub line_told : (g : Shared M) (all : List (Round M)) (ch : Channel) (r : Bool) (c : Connection) (w : List (Round M)) (is : List (Item M)) → T (is_live c) → Line M g all ch r c w is
        → Line M g all ch r c w (enqueue (join_item M) is (segment b ms))
    line_told g all ch r unheld w is t l = absurd t
    line_told g all ch r stale w is t l = absurd t
    line_told g all off r live w is t l = absurd l.2
    line_told g all asked r live w is t (inl l) = absurd l.1
    line_told g all asked r live w is t (inr l) = inr (prefix_enqueue g is l.0, l.1, l.2, l.3)
    line_told g all established r live w is t l = (no_prefix_enqueue is l.0, l.1, l.2, l.3)
