-- The steps of one device that move its link or its known sheet keep the invariant. Assumes nothing.
use mathlib.Core.Path.{◌≡◌, refl, sym, ap, ◌∙◌, subst}
use mathlib.Core.Logic.{inl, inr}
use mathlib.Core.Bool.{Bool, true, false, not}
use mathlib.Core.List.{List, [], ◌∷◌, ◌++◌}
use mathlib.Core.Option.{Option, none, some}
use Prim.Native.Nat.{ℕ, ◌≤◌}
use native.Mathlib.Nat.{le_refl, le_trans}
use native.Mathlib.Omega.{arith}
use lib.Dec.{T}
use lib.ListN.{length, get_or, drop}
use Rattle.protocol.specs.declared.Refusal.TheVariants.{NoChannel, NothingToDrop, NoRequest, NoConnection, Held}
use Rattle.protocol.specs.Model.{Model, Laws}
use Rattle.protocol.specs.Machine.{choose, given, is_off, is_held, is_live, Channel, off, asked, live, Round, Item, prefix, segment, Device, Link, above, beyond, gives, sheet_after, take_first, connection_held, ask_at, drop_at, receive_at, pull_at, accept_at, accept_with, serverdrop_at, with_link, renewed, cut_off}
use Rattle.protocol.specs.History.{Push, Past, places}
use Rattle.protocol.proofs.Basics.{twice_not, above_above, length_above}
use Rattle.protocol.proofs.Holds.{Holds}
use Rattle.protocol.proofs.Invariant.{untaken, end_of, Shared, number_there, Own, Stop, Chain, Got, PrefixFirst, Quiet, Line, LineOf, DeviceInvariant}
use Rattle.protocol.proofs.Items.{chain_from, got_le, got_stop, got_buffer, chain_stop, chain_snoc, end_of_snoc}
use Rattle.protocol.proofs.Steps.{Kept, unless_kept}
use Rattle.protocol.proofs.Lines.{aged, aged_not_live, line_ended, quiet_renewed, line_prefix, line_segment, requested}

module _ (M : Model) where
  open M use {State, apply}

  module _ (g : Shared M) (at : ℕ) (x : Device M) (h : Past M) (v : DeviceInvariant M g at x h) where
    -- a device that differs in its link only
    linked : (at' : ℕ) (l : Link M) (sent : List ℕ) → Chain M g (Stop M g x h.made) h.reach l.items sent → (T (is_live l.connection) → end_of h.reach sent ≡ at') → LineOf M g x.pending l
        → DeviceInvariant M g at' (with_link M x l) (places M h.pulled h.reach sent h)
    linked at' l sent c e f =
        record {
          last_is = v.last_is;
          edits_are = v.edits_are;
          known_is = v.known_is;
          known_stop = v.known_stop;
          known_all = v.known_all;
          got = v.got;
          queue = c;
          top_own = v.top_own;
          live_end = e;
          line = f;
          few = v.few;
        }

    quiet_now : Quiet M (untaken M g x) (aged x.link.connection) (choose (is_held x.link.connection) x.link.waiting [])
    quiet_now = quiet_renewed M g (untaken M g x) x.link.channel x.link.request x.link.connection x.link.waiting x.link.items v.line

    pub ask_keeps : Kept M (λ y. DeviceInvariant M g at y (places M h.pulled h.reach [] h)) (ask_at M x)
    unfolding ask_at
    ask_keeps = linked at (renewed M asked true x.link) [] tt (λ t. absurd (aged_not_live x.link.connection t)) (inl (refl, quiet_now))

    pub drop_keeps : Kept M (λ y. DeviceInvariant M g at y (places M h.pulled h.reach [] h)) (drop_at M x)
    unfolding drop_at
    drop_keeps =
        unless_kept M (λ y. DeviceInvariant M g at y (places M h.pulled h.reach [] h)) (is_off x.link.channel) NothingToDrop _
        (λ u. linked at (renewed M off false x.link) [] tt (λ t. absurd (aged_not_live x.link.connection t)) (refl, refl, quiet_now))

    cut_off_keeps : (at' : ℕ) (r : Bool) → (x.link.request ≡ false → r ≡ false) → DeviceInvariant M g at' (with_link M x (cut_off M r x.link)) h
    cut_off_keeps at' r f =
        linked at' (cut_off M r x.link) h.sent v.queue (λ t. absurd t)
        (line_ended M g (untaken M g x) x.link.channel x.link.request r x.link.connection x.link.waiting x.link.items f v.line)

    pub serverdrop_keeps : Kept M (λ y. DeviceInvariant M g at y h) (serverdrop_at M x)
    unfolding serverdrop_at
    serverdrop_keeps = unless_kept M (λ y. DeviceInvariant M g at y h) (not (is_held x.link.connection)) NoConnection _ (λ t. cut_off_keeps at x.link.request (λ e. e))

    pub crash_keeps : (at' : ℕ) → DeviceInvariant M g at' (with_link M x (cut_off M false x.link)) h
    crash_keeps at' = cut_off_keeps at' false (λ e. refl)

    reach_stop : Stop M g x h.made h.reach
    reach_stop = got_stop M g (Stop M g x h.made) h.pulled x.received h.reach v.known_stop v.got

    pub accept_keeps : (s : State) (ns : ℕ → ℕ) → at ≡ g.top → s ≡ g.sheets g.top → ns g.who ≡ number_there M g g.top
        → Kept M (λ y. DeviceInvariant M g at y (places M h.pulled h.reach (h.sent ++ (g.top ∷ [])) h)) (accept_at M s ns x)
    unfolding accept_at accept_with
    accept_keeps s ns a es en =
        unless_kept M (λ y. DeviceInvariant M g at y (places M h.pulled h.reach (h.sent ++ (g.top ∷ [])) h)) (not x.link.request) NoRequest _
        (λ t.
        unless_kept M (λ y. DeviceInvariant M g at y (places M h.pulled h.reach (h.sent ++ (g.top ∷ [])) h)) (connection_held M x) Held _
        (λ u.
        let f = requested M g (untaken M g x) x.link.channel x.link.request x.link.connection x.link.waiting x.link.items (twice_not x.link.request t) u v.line in
        linked at record { channel = x.link.channel; request = false; connection = live; waiting = x.link.waiting; items = x.link.items ++ (prefix s ns ∷ []) } (h.sent ++ (g.top ∷ []))
        (chain_snoc M g (Stop M g x h.made) h.reach x.link.items h.sent (prefix s ns) g.top v.queue
        (chain_stop M g (Stop M g x h.made) h.reach x.link.items h.sent reach_stop v.queue).0 (es, en) (le_refl g.top, v.top_own))
        (λ w. end_of_snoc h.reach h.sent g.top ∙ sym a)
        (subst (λ (ch : Channel). Line M g (untaken M g x) ch false live x.link.waiting (x.link.items ++ (prefix s ns ∷ []))) (sym f.1)
        (inr (subst (λ (is : List (Item M)). PrefixFirst M g (is ++ (prefix s ns ∷ []))) (sym f.0) (en, tt), f.2, refl, tt)))))

    first_keeps : Laws M → (is : List (Item M)) (qs : List ℕ) → Chain M g (Stop M g x h.made) h.reach is qs → Line M g (untaken M g x) x.link.channel x.link.request x.link.connection x.link.waiting is
        → (T (is_live x.link.connection) → end_of h.reach qs ≡ at)
        → Kept M (λ y. DeviceInvariant M g at y (places M h.pulled (get_or qs 0 h.reach) (drop 1 qs) h)) (take_first M g.who is x)
    first_keeps L [] qs c l e = tt
    first_keeps L (i ∷ is) [] c l e = absurd c
    first_keeps L (prefix s ns ∷ is) (q ∷ qs) c l e =
        record {
          last_is = v.last_is;
          edits_are = v.edits_are;
          known_is = v.known_is;
          known_stop = v.known_stop;
          known_all = v.known_all;
          got = (le_trans (got_le M g _ h.pulled x.received h.reach v.got) c.0, c.1, c.2);
          queue = c.3;
          top_own = v.top_own;
          live_end = e;
          line =
              let f = line_prefix M g (untaken M g x) x.link.channel x.link.request x.link.connection x.link.waiting s ns is l in
              (f.1, ap (λ (k : ℕ). above M k x.pending) f.0, f.2, f.3);
          few = v.few;
        }
    first_keeps L (segment b ms ∷ is) (q ∷ qs) c l e =
        record {
          last_is = v.last_is;
          edits_are = v.edits_are;
          known_is = v.known_is;
          known_stop = v.known_stop;
          known_all = v.known_all;
          got = got_buffer M g (Stop M g x h.made) L h.pulled x.received h.reach q (segment b ms) v.got c.0 c.1 c.2;
          queue = c.3;
          top_own = v.top_own;
          live_end = e;
          line = line_segment M g (untaken M g x) x.link.channel x.link.request x.link.connection x.link.waiting b ms is l;
          few = v.few;
        }

    pub receive_keeps : Laws M → Kept M (λ y. DeviceInvariant M g at y (places M h.pulled (get_or h.sent 0 h.reach) (drop 1 h.sent) h)) (receive_at M g.who x)
    unfolding receive_at
    receive_keeps L =
        unless_kept M (λ y. DeviceInvariant M g at y (places M h.pulled (get_or h.sent 0 h.reach) (drop 1 h.sent) h)) (is_off x.link.channel) NoChannel _
        (λ t. first_keeps L x.link.items h.sent v.queue v.line v.live_end)

    pulled_sheet : (i : Option (Item M)) → Got M g (Stop M g x h.made) h.pulled i h.reach → sheet_after M i x.known ≡ g.sheets h.reach
    pulled_sheet none e = v.known_is ∙ ap g.sheets (sym e)
    pulled_sheet (some (prefix s ns)) e = e.1.0
    pulled_sheet (some (segment b ms)) e = ap (apply b) v.known_is ∙ e.1.0

    pulled_beyond : (o : Option ℕ) → given o (number_there M g h.pulled) ≡ number_there M g h.reach → beyond M o x.pending ≡ above M (number_there M g h.reach) x.pending
    pulled_beyond none e = sym v.known_all ∙ ap (λ (k : ℕ). above M k x.pending) e
    pulled_beyond (some k) e = ap (λ (m : ℕ). above M m x.pending) e

    pulled_pending : (i : Option (Item M)) → Got M g (Stop M g x h.made) h.pulled i h.reach → beyond M (gives M g.who i) x.pending ≡ above M (number_there M g h.reach) x.pending
    pulled_pending none e = pulled_beyond none (ap (number_there M g) (sym e))
    pulled_pending (some (prefix s ns)) e = pulled_beyond (some (ns g.who)) e.1.1
    pulled_pending (some (segment b ms)) e = pulled_beyond (ms g.who) e.1.1

    module _ (mono : (p q : ℕ) → p ≤ q → number_there M g p ≤ number_there M g q) where
      new_above : (q : ℕ) → h.reach ≤ q → above M (number_there M g q) (beyond M (gives M g.who x.received) x.pending) ≡ above M (number_there M g q) x.pending
      new_above q l = ap (above M (number_there M g q)) (pulled_pending x.received v.got) ∙ above_above M (number_there M g h.reach) (number_there M g q) x.pending (mono h.reach q l)

      own_pull : (q : ℕ) → h.reach ≤ q → Own M g x h.made q
          → (ps : List (Push M)) × (h.made ≡ g.own q ++ ps) × Holds M (number_there M g q) ps (above M (number_there M g q) (beyond M (gives M g.who x.received) x.pending)) x.buffered x.covered
      own_pull q l o = (o.0, o.1, subst (λ (rs : List (Round M)). Holds M (number_there M g q) o.0 rs x.buffered x.covered) (sym (new_above q l)) o.2)

      pub pull_keeps : Kept M (λ y. DeviceInvariant M g at y (places M h.reach h.reach h.sent h)) (pull_at M g.who x)
      unfolding pull_at
      pull_keeps =
          record {
            last_is = v.last_is;
            edits_are = v.edits_are;
            known_is = pulled_sheet x.received v.got;
            known_stop = (reach_stop.0, own_pull h.reach (le_refl h.reach) reach_stop.1);
            known_all = new_above h.reach (le_refl h.reach) ∙ sym (pulled_pending x.received v.got);
            got = refl;
            queue = chain_from M g _ _ h.reach (λ q l s. (s.0, own_pull q l s.1)) h.reach x.link.items h.sent (le_refl h.reach) v.queue;
            top_own = own_pull g.top reach_stop.0 v.top_own;
            live_end = v.live_end;
            line = subst (λ (rs : List (Round M)). Line M g rs x.link.channel x.link.request x.link.connection x.link.waiting x.link.items) (sym (new_above g.top reach_stop.0)) v.line;
            few = omega (arith, v.few, ap length (pulled_pending x.received v.got), length_above M (number_there M g h.reach) x.pending);
          }
