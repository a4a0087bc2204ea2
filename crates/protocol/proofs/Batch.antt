-- A batch, for one device: its rounds are taken, the shared list grows, and a segment is put on its connection. Assumes nothing.
use mathlib.Core.Path.{◌≡◌, refl, sym, ap, ◌∙◌, subst}
use mathlib.Core.Logic.{◌⊎◌, inl, inr}
use mathlib.Core.Bool.{Bool, true, false}
use mathlib.Core.List.{List, [], ◌∷◌, ◌++◌, append_assoc}
use mathlib.Core.Option.{Option, none, some}
use Prim.Native.Nat.{ℕ, ◌+◌, ◌≤◌}
use native.Mathlib.Nat.{le_refl, le_trans}
use native.Mathlib.Omega.{arith}
use lib.Dec.{T}
use lib.ListN.{length, take, drop, length-append, take-append-drop}
use lib.Seq.{take-nil, drop-nil}
use Rattle.protocol.specs.Model.{Model, Laws}
use Rattle.protocol.specs.Machine.{choose, given, enqueue, is_live, Round, Item, prefix, segment, Device, above, join_item, last_number, with_link}
use Rattle.protocol.specs.History.{Push, Past, places}
use Rattle.protocol.proofs.Basics.{above_above}
use Rattle.protocol.proofs.Holds.{Holds, Split, holds_split}
use Rattle.protocol.proofs.Invariant.{untaken, end_of, Shared, number_there, Stop, Leads, Chain, Got, Line, DeviceInvariant}
use Rattle.protocol.proofs.Items.{chain_enqueue, end_of_enqueue, got_stop}
use Rattle.protocol.proofs.Lines.{line_waits, line_taken, line_told}

module _ (M : Model) where
  open M use {State, Delta, apply}

  -- the first m waiting rounds are the first ones that are not taken
  rounds_first : (all w : List (Round M)) (m : ℕ) → (w ≡ []) ⊎ (w ≡ all) → (qs : List (Round M)) × (all ≡ take m w ++ qs) × (w ≡ all → drop m w ≡ qs)
  rounds_first all w m (inl e) = (all, ap (λ (l : List (Round M)). l ++ all) (sym (ap (take m) e ∙ take-nil m)), λ f. ap (drop m) e ∙ drop-nil m ∙ sym e ∙ f)
  rounds_first all w m (inr e) = (drop m w, sym e ∙ sym (take-append-drop m w), λ f. refl)

  -- what a batch takes of a device: the first m rounds that wait
  pub record Share (g : Shared M) (x : Device M) (made : List (Push M)) (m : ℕ) : Type 0 where
    pub ps : List (Push M)
    pub made_is : made ≡ g.own g.top ++ ps
    pub qs : List (Round M)
    pub above_is : untaken M g x ≡ take m x.link.waiting ++ qs
    pub left_is : x.link.waiting ≡ untaken M g x → drop m x.link.waiting ≡ qs
    pub split : Split M (number_there M g g.top) ps (take m x.link.waiting) qs x.buffered x.covered

  pub share_of : (g : Shared M) (at : ℕ) (x : Device M) (h : Past M) (m : ℕ) → DeviceInvariant M g at x h → Share g x h.made m
  share_of g at x h m v =
      let f = rounds_first (untaken M g x) x.link.waiting m (line_waits M g (untaken M g x) x.link.channel x.link.request x.link.connection x.link.waiting x.link.items v.line) in
      record {
        ps = v.top_own.0;
        made_is = v.top_own.1;
        qs = f.0;
        above_is = f.1;
        left_is = f.2;
        split =
            holds_split M (number_there M g g.top) v.top_own.0 (take m x.link.waiting) f.0 x.buffered x.covered
            (subst (λ (rs : List (Round M)). Holds M (number_there M g g.top) v.top_own.0 rs x.buffered x.covered) f.1 v.top_own.2);
      }

  -- the shared list grows
  abbrev pub grown : Shared M → (ℕ → State) → (ℕ → List (Push M)) → ℕ → Shared M
  grown g sheets own top = record { who = g.who; base = g.base; cells = g.cells; sheets = sheets; own = own; top = top }

  module _ (g : Shared M) (sheets : ℕ → State) (own : ℕ → List (Push M)) (top : ℕ)
      (longer : g.top ≤ top)
      (sheets-is : (q : ℕ) → q ≤ g.top → sheets q ≡ g.sheets q)
      (own_is : (q : ℕ) → q ≤ g.top → own q ≡ g.own q) where
    number_there_is : (q : ℕ) → q ≤ g.top → number_there M (grown g sheets own top) q ≡ number_there M g q
    number_there_is q l = ap (λ (o : List (Push M)). g.base + length o) (own_is q l)

    stop_grown : (x : Device M) (made : List (Push M)) (q : ℕ) → Stop M g x made q → Stop M (grown g sheets own top) x made q
    stop_grown x made q s = (
      le_trans s.0 longer,
      subst (λ (o : List (Push M)). (ps : List (Push M)) × (made ≡ o ++ ps) × Holds M (g.base + length o) ps (above M (g.base + length o) x.pending) x.buffered x.covered) (sym (own_is q s.0)) s.1,
    )

    leads_grown : (p q : ℕ) → p ≤ g.top → q ≤ g.top → (i : Item M) → Leads M g p q i → Leads M (grown g sheets own top) p q i
    leads_grown p q lp lq (prefix s ns) h = (h.0 ∙ sym (sheets-is q lq), h.1 ∙ sym (number_there_is q lq))
    leads_grown p q lp lq (segment b ms) h =
        (ap (apply b) (sheets-is p lp) ∙ h.0 ∙ sym (sheets-is q lq), ap (given (ms g.who)) (number_there_is p lp) ∙ h.1 ∙ sym (number_there_is q lq))

    got_grown : (x : Device M) (made : List (Push M)) (p : ℕ) → p ≤ g.top → (i : Option (Item M)) (q : ℕ) → Got M g (Stop M g x made) p i q → Got M (grown g sheets own top) (Stop M (grown g sheets own top) x made) p i q
    got_grown x made p l none q h = h
    got_grown x made p l (some i) q h = (h.0, leads_grown p q l h.2.0 i h.1, stop_grown x made q h.2)

    chain_grown : (x : Device M) (made : List (Push M)) (p : ℕ) → p ≤ g.top → (is : List (Item M)) (qs : List ℕ) → Chain M g (Stop M g x made) p is qs → Chain M (grown g sheets own top) (Stop M (grown g sheets own top) x made) p is qs
    chain_grown x made p l [] [] h = tt
    chain_grown x made p l [] (q ∷ qs) h = h
    chain_grown x made p l (i ∷ is) [] h = h
    chain_grown x made p l (i ∷ is) (q ∷ qs) h = (h.0, leads_grown p q l h.2.0 i h.1, stop_grown x made q h.2, chain_grown x made q h.2.0 is qs h.3)

    module _ (at : ℕ) (x : Device M) (h : Past M) (m : ℕ) (v : DeviceInvariant M g at x h) (sh : Share g x h.made m) (own_top : own top ≡ g.own g.top ++ sh.split.front) where
      -- the device's number rises by the pushes taken
      number_there_top : number_there M (grown g sheets own top) top ≡ number_there M g g.top + length sh.split.front
      number_there_top = omega (arith, ap length own_top, length-append (g.own g.top) sh.split.front)

      pub number_there_given : given (last_number M (take m x.link.waiting)) (number_there M g g.top) ≡ number_there M (grown g sheets own top) top
      number_there_given = sh.split.numbered ∙ sym number_there_top

      above_now : above M (number_there M (grown g sheets own top) top) x.pending ≡ sh.qs
      above_now =
          ap (λ (k : ℕ). above M k x.pending) number_there_top
          ∙ sym (above_above M (number_there M g g.top) (number_there M g g.top + length sh.split.front) x.pending (omega arith))
          ∙ ap (above M (number_there M g g.top + length sh.split.front)) sh.above_is
          ∙ sh.split.above_is

      none_taken : x.link.waiting ≡ [] → number_there M (grown g sheets own top) top ≡ number_there M g g.top
      none_taken e = sym number_there_given ∙ ap (λ (rs : List (Round M)). given (last_number M rs) (number_there M g g.top)) (ap (take m) e ∙ take-nil m)

      abbrev pub relieved : Device M
      relieved = with_link M x record { channel = x.link.channel; request = x.link.request; connection = x.link.connection; waiting = drop m x.link.waiting; items = x.link.items }

      pub taken_keeps : DeviceInvariant M (grown g sheets own top) at relieved h
      taken_keeps =
          let lr : h.reach ≤ g.top = (got_stop M g (Stop M g x h.made) h.pulled x.received h.reach v.known_stop v.got).0 in
          record {
            last_is = v.last_is;
            edits_are = v.edits_are;
            known_is = v.known_is ∙ sym (sheets-is h.pulled v.known_stop.0);
            known_stop = stop_grown x h.made h.pulled v.known_stop;
            known_all = ap (λ (k : ℕ). above M k x.pending) (number_there_is h.pulled v.known_stop.0) ∙ v.known_all;
            got = got_grown x h.made h.pulled v.known_stop.0 x.received h.reach v.got;
            queue = chain_grown x h.made h.reach lr x.link.items h.sent v.queue;
            top_own = (
              sh.split.rest,
              sh.made_is
                  ∙ ap (λ (l : List (Push M)). g.own g.top ++ l) sh.split.whole
                  ∙ sym (append_assoc (g.own g.top) sh.split.front sh.split.rest)
                  ∙ ap (λ (l : List (Push M)). l ++ sh.split.rest) (sym own_top),
              subst (λ (rs : List (Round M)). Holds M (number_there M (grown g sheets own top) top) sh.split.rest rs x.buffered x.covered) (sym above_now)
                  (subst (λ (k : ℕ). Holds M k sh.split.rest sh.qs x.buffered x.covered) (sym number_there_top) sh.split.left),
            );
            live_end = v.live_end;
            line =
                subst (λ (rs : List (Round M)). Line M (grown g sheets own top) rs x.link.channel x.link.request x.link.connection (drop m x.link.waiting) x.link.items) (sym above_now)
                (line_taken M g (grown g sheets own top) (untaken M g x) sh.qs m x.link.waiting sh.left_is x.link.channel x.link.request x.link.connection x.link.items refl none_taken v.line);
            few = v.few;
          }

  -- the segment is put on the connection
  module _ (b : Delta) (ms : ℕ → Option ℕ) where
    pub told_keeps : Laws M → (g : Shared M) (at at' : ℕ) (x : Device M) (h : Past M) (y : Bool)
        → at ≤ g.top → Leads M g at g.top (segment b ms)
        → (T y → T (is_live x.link.connection)) → (T (is_live x.link.connection) → at' ≡ choose y g.top at)
        → DeviceInvariant M g at x h
        → DeviceInvariant M g at' (with_link M x record { channel = x.link.channel; request = x.link.request; connection = x.link.connection; waiting = x.link.waiting; items = choose y (enqueue (join_item M) x.link.items (segment b ms)) x.link.items }) (places M h.pulled h.reach (choose y (enqueue (λ l m. m) h.sent g.top) h.sent) h)
    told_keeps L g at at' x h y l k f e v =
        record {
          last_is = v.last_is;
          edits_are = v.edits_are;
          known_is = v.known_is;
          known_stop = v.known_stop;
          known_all = v.known_all;
          got = v.got;
          queue = queued y f;
          top_own = v.top_own;
          live_end = λ t. ends y f t ∙ sym (e t);
          line = lined y f;
          few = v.few;
        }
      where
        queued : (y : Bool) → (T y → T (is_live x.link.connection))
            → Chain M g (Stop M g x h.made) h.reach (choose y (enqueue (join_item M) x.link.items (segment b ms)) x.link.items) (choose y (enqueue (λ l m. m) h.sent g.top) h.sent)
        queued false f = v.queue
        queued true f =
            chain_enqueue M g (Stop M g x h.made) L h.reach x.link.items h.sent (segment b ms) g.top v.queue
            (subst (λ (p : ℕ). p ≤ g.top) (sym (v.live_end (f tt))) l)
            (subst (λ (p : ℕ). Leads M g p g.top (segment b ms)) (sym (v.live_end (f tt))) k)
            (le_refl g.top, v.top_own)

        ends : (y : Bool) → (T y → T (is_live x.link.connection)) → T (is_live x.link.connection) → end_of h.reach (choose y (enqueue (λ l m. m) h.sent g.top) h.sent) ≡ choose y g.top at
        ends false f t = v.live_end t
        ends true f t = end_of_enqueue h.reach h.sent g.top

        lined : (y : Bool) → (T y → T (is_live x.link.connection))
            → Line M g (untaken M g x) x.link.channel x.link.request x.link.connection x.link.waiting (choose y (enqueue (join_item M) x.link.items (segment b ms)) x.link.items)
        lined false f = v.line
        lined true f = line_told M b ms g (untaken M g x) x.link.channel x.link.request x.link.connection x.link.waiting x.link.items (f tt) v.line
