-- accept on a record. Assumes nothing.
use mathlib.Core.Path.{◌≡◌, refl, sym, ap, ◌∙◌}
use mathlib.Core.Bool.{true, false}
use mathlib.Core.List.{List, [], ◌∷◌, ◌++◌}
use Prim.Native.Nat.{ℕ, zero, suc}
use native.Mathlib.Omega.{arith}
use lib.ListN.{length, get_or, set, length-set}
use Rattle.protocol.specs.declared.Refusal.TheVariants.{NoRequest, Held}
use Rattle.protocol.specs.Machine.{Item, live, fine, tell, answer_of, device_after, refused, taken_up, accept_with, with_link, done}
use Rattle.sheet.specs.Sheet.{sheet}
use Rattle.words.specs.Layout.{ITEM_KIND, LIVE, TAKEN, REQUEST, CONNECTION, WAITING_LENGTH, WAITING, ITEMS_LENGTH, ITEMS, RECORD}
use Rattle.words.proofs.Places.{set_kept, set_new}
use Rattle.record.specs.Reading.{channel_of, connection_of, request_of, item_at, link_of, device_of}
use Rattle.record.specs.Valid.{IsRecord}
use Rattle.record.proofs.Queues.{queue_length}
use Rattle.record.specs.Did.{Did}
use Rattle.queues.specs.Items.{items_of}
use Rattle.queues.specs.Parts.{Requeued, round_entry, item_entry}
use Rattle.queues.proofs.Entries.{item_local, requeued_outside}
use Rattle.queues.proofs.Parts.{WordsAre, parts_of}
use Rattle.record.proofs.Steps.{told}
use Rattle.delivery.specs.Deliver.{ItemReady, Stackable}
use Rattle.link.specs.Turn.{Turned}
use Rattle.link.proofs.Links.{Chain, requeued_same, channel_kept, link_turned}

module _ (devices cells : ℕ) (xs ss : List ℕ) (R : IsRecord devices cells xs) where
  item : Item sheet
  item = item_at devices cells ss ITEM_KIND

  pub no_request : get_or xs REQUEST 0 ≡ 0 → Did devices cells (accept_with sheet (item_at devices cells ss ITEM_KIND)) xs (refused NoRequest) xs
  unfolding accept_with device_of link_of
  no_request e = told devices cells (accept_with sheet (item_at devices cells ss ITEM_KIND)) xs (refused NoRequest) R (rw e refl)

  module _ (asks : get_or xs REQUEST 0 ≡ 0 → ⊥) where
    pub request_held : (get_or xs CONNECTION 0 ≡ 0 → ⊥) → Did devices cells (accept_with sheet (item_at devices cells ss ITEM_KIND)) xs (refused Held) xs
    unfolding accept_with device_of link_of
    request_held n = told devices cells (accept_with sheet (item_at devices cells ss ITEM_KIND)) xs (refused Held) R (go (get_or xs REQUEST 0) (get_or xs CONNECTION 0) refl refl)
      where
        go : (r k : ℕ) → get_or xs REQUEST 0 ≡ r → get_or xs CONNECTION 0 ≡ k → accept_with sheet (item_at devices cells ss ITEM_KIND) (device_of devices cells xs) ≡ tell (refused Held)
        go zero k e f = absurd (asks e)
        go (suc r) zero e f = absurd (n f)
        go (suc r) (suc zero) e f = rw (e, f) refl
        go (suc r) (suc (suc k)) e f = rw (e, f) refl

    -- "a request has such a channel without items"
    pub first_stackable : ItemReady devices cells ss → Stackable devices cells xs ss
    first_stackable I = record { ready = I; there = record { size = R.valid.size; few = R.valid.few_items; items = R.valid.items }; room = let e = none_waits in omega arith }
      where
        asked_for : request_of (get_or xs REQUEST 0) ≡ true
        asked_for = go (get_or xs REQUEST 0) asks
          where
            go : (k : ℕ) → (k ≡ 0 → ⊥) → request_of k ≡ true
            go zero n = absurd (n refl)
            go (suc k) n = refl

        no_items : items_of devices cells xs ≡ []
        no_items = unfold device_of link_of in (R.fits.request_without_items asked_for)

        none_waits : get_or xs ITEMS_LENGTH 0 ≡ 0
        none_waits = sym (queue_length (get_or xs ITEMS_LENGTH 0) _) ∙ ap length no_items

    module _ (free : get_or xs CONNECTION 0 ≡ 0) (y : List ℕ) (len : length y ≡ RECORD) (Q : Requeued (item_entry devices cells) xs y ITEMS_LENGTH ITEMS (items_of devices cells xs ++ (item_at devices cells ss ITEM_KIND ∷ []))) where
      end : List ℕ
      end = set (set y REQUEST 0) CONNECTION LIVE

      chain : Chain devices cells xs xs xs y end (device_of devices cells xs).link.waiting (items_of devices cells xs ++ (item ∷ []))
      unfolding end item
      chain = record {
        sound = record { few_devices = R.few_devices; few_cells = R.few_cells; valid = R.valid };
        numbered = λ i n. refl;
        waits = requeued_same (round_entry cells) xs WAITING_LENGTH WAITING _ (parts_of devices cells xs R.valid).waiting;
        stands = Q;
        ends = λ i a b. set_kept (set y REQUEST 0) CONNECTION LIVE i b ∙ set_kept y REQUEST 0 i a;
        size = simp length-set len;
      }

      words : WordsAre end (device_of devices cells xs).link.channel false live
      words =
          let c = channel_kept devices cells xs xs xs y end _ _ chain in
          let r : get_or end REQUEST 0 ≡ 0 = unfold end in (set_kept (set y REQUEST 0) CONNECTION LIVE REQUEST (λ e. omega arith) ∙ set_new y REQUEST 0 (omega arith)) in
          let k : get_or end CONNECTION 0 ≡ LIVE = unfold end in (set_new (set y REQUEST 0) CONNECTION LIVE (simp length-set (omega arith))) in
          record {
            channel = unfold device_of link_of in (ap channel_of c);
            request = ap request_of r;
            connection = ap connection_of k;
            channel_fits = rw c R.valid.channel;
            request_fits = rw r (omega arith);
            connection_fits = rw k (omega arith);
          }

      turned : Turned devices cells (with_link sheet (device_of devices cells xs) (taken_up sheet item (device_of devices cells xs).link)) (get_or xs TAKEN 0) xs end
      turned = unfold item device_of link_of in (link_turned devices cells xs xs xs y end _ _ chain _ _ _ words (get_or xs TAKEN 0) taken_kept)
        where
          from_y : get_or end TAKEN 0 ≡ get_or y TAKEN 0
          from_y = unfold end in (set_kept (set y REQUEST 0) CONNECTION LIVE TAKEN (λ e. omega arith) ∙ set_kept y REQUEST 0 TAKEN (λ e. omega arith))

          taken_kept : get_or end TAKEN 0 ≡ get_or xs TAKEN 0
          taken_kept = from_y ∙ requeued_outside (item_entry devices cells) (item_local devices cells R.few_devices R.few_cells) xs y ITEMS_LENGTH ITEMS _ Q TAKEN (λ e. omega arith) (λ p q. omega arith)

      step_is : accept_with sheet item (device_of devices cells xs) ≡ fine (with_link sheet (device_of devices cells xs) (taken_up sheet item (device_of devices cells xs).link))
      unfolding accept_with device_of link_of
      step_is = go (get_or xs REQUEST 0) asks refl
        where
          go : (k : ℕ) → (k ≡ 0 → ⊥) → get_or xs REQUEST 0 ≡ k → accept_with sheet item (device_of devices cells xs) ≡ fine (with_link sheet (device_of devices cells xs) (taken_up sheet item (device_of devices cells xs).link))
          go zero n e = absurd (n refl)
          go (suc k) n e = rw (e, free) refl

      pub request_taken : Did devices cells (accept_with sheet (item_at devices cells ss ITEM_KIND)) xs done (set (set y REQUEST 0) CONNECTION LIVE)
      request_taken = unfold end item in did
        where
          did : Did devices cells (accept_with sheet item) xs done end
          did = record {
            answer = sym (ap (answer_of sheet) step_is);
            after = turned.says ∙ sym (ap (device_after sheet (device_of devices cells xs)) step_is);
            taken = turned.taken;
            valid = turned.valid;
            kept = turned.kept;
          }
