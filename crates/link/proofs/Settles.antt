-- What a batch or a cut makes of one record. Assumes nothing.
use mathlib.Core.Path.{◌≡◌, refl, sym, ap, ◌∙◌, subst}
use mathlib.Core.Bool.{Bool, true, false, ◌&&◌}
use mathlib.Core.List.{List, []}
use Prim.Native.Nat.{ℕ, ◌+◌, ◌≤◌, ◌<◌}
use native.Mathlib.Omega.{arith}
use lib.ListN.{length, get_or, drop}
use Rattle.protocol.specs.Machine.{Device, Item, Round, choose, given, unheld, is_held, is_live, is_stale, with_link, join_item, enqueue}
use Rattle.sheet.specs.Sheet.{sheet}
use Rattle.words.specs.Layout.{ITEM_KIND, ITEM_NUMBERS, STALE, TAKEN, REQUEST, CONNECTION, WAITING_LENGTH, WAITING, ITEMS_LENGTH, ITEMS, RECORD}
use Rattle.record.specs.Reading.{given_by, channel_of, connection_of, request_of, item_at, link_of, device_of}
use Rattle.record.proofs.Queues.{queue_length}
use Rattle.queues.specs.Items.{items_of}
use Rattle.queues.specs.Parts.{QueueIs, Requeued, round_entry, item_entry}
use Rattle.queues.proofs.Entries.{round_local, item_local, queue_kept, requeued_outside}
use Rattle.queues.proofs.Parts.{WordsAre, Parts, parts_of}
use Rattle.delivery.specs.Deliver.{Deliverable}
use Rattle.link.specs.Gather.{first_waiting}
use Rattle.link.specs.Settle.{NumberTaken, HungUp, Settling, settled, Settled}
use Rattle.link.specs.Waiting.{gone, HasWaiting}
use Rattle.link.specs.Turn.{Turned}
use Rattle.link.proofs.Goes.{gone_few, left_is}
use Rattle.link.proofs.Links.{Chain, channel_kept, link_turned}

-- The device afterwards, its link by its parts.
device_after : (b reaches : Bool) (count : ℕ) (i : Item sheet) (x : Device sheet) → with_link sheet x record {
  channel = x.link.channel;
  request = choose b false x.link.request;
  connection = choose b unheld x.link.connection;
  waiting = choose b (choose (is_stale x.link.connection) [] (drop (choose (is_held x.link.connection) count 0) x.link.waiting)) (drop (choose (is_held x.link.connection) count 0) x.link.waiting);
  items = choose (is_live x.link.connection && reaches) (enqueue (join_item sheet) x.link.items i) x.link.items;
} ≡ settled count reaches b i x
device_after true reaches count i x = refl
device_after false reaches count i x = refl

-- One record: y1 has the number taken, y2 what still waits, y3 the segment, and `end` has hung up.
module _ (devices cells d count : ℕ) (reaches crash : Bool) (xs ss : List ℕ) (S : Settling devices cells d xs ss) (k : ℕ) (goes : k ≡ gone count (get_or xs CONNECTION 0) (get_or xs WAITING_LENGTH 0) crash) where
  x : Device sheet
  x = device_of devices cells xs

  before : Parts devices cells xs x
  before = unfold x in (parts_of devices cells xs S.sound.valid)

  module _ (y1 : List ℕ) (len1 : length y1 ≡ RECORD) (N : NumberTaken (get_or ss (ITEM_NUMBERS + d) 0) xs y1) where
    still_waits : QueueIs (round_entry cells) y1 WAITING_LENGTH WAITING x.link.waiting
    still_waits = queue_kept (round_entry cells) (round_local cells S.sound.few_cells) xs y1 WAITING_LENGTH WAITING _ (N.others WAITING_LENGTH (λ e. omega arith)) (λ i p q. N.others i (λ e. omega arith)) before.waiting

    pub has_waiting : HasWaiting cells k y1
    has_waiting = record {
      size = len1;
      few_cells = S.sound.few_cells;
      few = still_waits.few;
      some_left = rw (N.others WAITING_LENGTH (λ e. omega arith), goes) (gone_few count (get_or xs CONNECTION 0) (get_or xs WAITING_LENGTH 0) crash);
      rounds = still_waits.valid;
    }

    module _ (y2 : List ℕ) (len2 : length y2 ≡ RECORD) (Q : Requeued (round_entry cells) y1 y2 WAITING_LENGTH WAITING (drop k (first_waiting cells (get_or y1 WAITING_LENGTH 0) y1))) where
      outside : (i : ℕ) → (i ≡ TAKEN → ⊥) → (i ≡ WAITING_LENGTH → ⊥) → (WAITING ≤ i → i < ITEMS → ⊥) → get_or y2 i 0 ≡ get_or xs i 0
      outside i a b c = requeued_outside (round_entry cells) (round_local cells S.sound.few_cells) y1 y2 WAITING_LENGTH WAITING _ Q i b (λ p q. c (omega arith) (omega arith)) ∙ N.others i a

      still_stands : QueueIs (item_entry devices cells) y2 ITEMS_LENGTH ITEMS x.link.items
      still_stands = queue_kept (item_entry devices cells) (item_local devices cells S.sound.few_devices S.sound.few_cells) xs y2 ITEMS_LENGTH ITEMS _ (outside ITEMS_LENGTH (λ e. omega arith) (λ e. omega arith) (λ p q. omega arith)) (λ i p q. outside i (λ e. omega arith) (λ e. omega arith) (λ u v. omega arith)) before.items

      pub deliverable : Deliverable devices cells y2 ss
      deliverable = record { ready = S.ready; is_segment = S.is_segment; there = record { size = len2; few = still_stands.few; items = still_stands.valid } }

      module _ (y3 end : List ℕ) (I : Requeued (item_entry devices cells) y2 y3 ITEMS_LENGTH ITEMS (choose (is_live (connection_of (get_or y2 CONNECTION 0)) && reaches) (enqueue (join_item sheet) (items_of devices cells y2) (item_at devices cells ss ITEM_KIND)) (items_of devices cells y2))) (E : HungUp crash y3 end) (size : length end ≡ RECORD) where
        left : List (Round sheet)
        left = drop k (first_waiting cells (get_or y1 WAITING_LENGTH 0) y1)

        standing : List (Item sheet)
        standing = choose (is_live (connection_of (get_or y2 CONNECTION 0)) && reaches) (enqueue (join_item sheet) (items_of devices cells y2) (item_at devices cells ss ITEM_KIND)) (items_of devices cells y2)

        chain : Chain devices cells xs y1 y2 y3 end left standing
        unfolding left standing
        chain = record { sound = S.sound; numbered = N.others; waits = Q; stands = I; ends = E.others; size = size }

        from_xs : (i : ℕ) → i < WAITING → (i ≡ TAKEN → ⊥) → (i ≡ WAITING_LENGTH → ⊥) → (i ≡ ITEMS_LENGTH → ⊥) → get_or y3 i 0 ≡ get_or xs i 0
        from_xs i h a b c = requeued_outside (item_entry devices cells) (item_local devices cells S.sound.few_devices S.sound.few_cells) y2 y3 ITEMS_LENGTH ITEMS _ I i c (λ p q. omega arith) ∙ outside i a b (λ p q. omega arith)

        taken_is : get_or end TAKEN 0 ≡ given (given_by (get_or ss (ITEM_NUMBERS + d) 0)) (get_or xs TAKEN 0)
        taken_is =
            E.others TAKEN (λ e. omega arith) (λ e. omega arith)
            ∙ requeued_outside (item_entry devices cells) (item_local devices cells S.sound.few_devices S.sound.few_cells) y2 y3 ITEMS_LENGTH ITEMS _ I TAKEN (λ e. omega arith) (λ p q. omega arith)
            ∙ requeued_outside (round_entry cells) (round_local cells S.sound.few_cells) y1 y2 WAITING_LENGTH WAITING _ Q TAKEN (λ e. omega arith) (λ p q. omega arith)
            ∙ N.taken

        request_word : get_or end REQUEST 0 ≡ choose crash 0 (get_or xs REQUEST 0)
        request_word = E.request ∙ ap (choose crash 0) (from_xs REQUEST (omega arith) (λ e. omega arith) (λ e. omega arith) (λ e. omega arith))

        connection_word : get_or end CONNECTION 0 ≡ choose crash 0 (get_or xs CONNECTION 0)
        connection_word = E.connection ∙ ap (choose crash 0) (from_xs CONNECTION (omega arith) (λ e. omega arith) (λ e. omega arith) (λ e. omega arith))

        words : WordsAre end x.link.channel (choose crash false x.link.request) (choose crash unheld x.link.connection)
        unfolding x device_of link_of
        words =
            let c = channel_kept devices cells xs y1 y2 y3 end _ _ chain in
            record {
              channel = ap channel_of c;
              request = ap request_of request_word ∙ requests crash (get_or xs REQUEST 0);
              connection = ap connection_of connection_word ∙ connections crash (get_or xs CONNECTION 0);
              channel_fits = rw c S.sound.valid.channel;
              request_fits = rw request_word (below crash (get_or xs REQUEST 0) 1 S.sound.valid.request);
              connection_fits = rw connection_word (below crash (get_or xs CONNECTION 0) STALE S.sound.valid.connection);
            }
          where
            requests : (b : Bool) (k : ℕ) → request_of (choose b 0 k) ≡ choose b false (request_of k)
            requests true k = refl
            requests false k = refl

            connections : (b : Bool) (k : ℕ) → connection_of (choose b 0 k) ≡ choose b unheld (connection_of k)
            connections true k = refl
            connections false k = refl

            below : (b : Bool) (k m : ℕ) → k ≤ m → choose b 0 k ≤ m
            below true k m h = omega arith
            below false k m h = h

        left_so : left ≡ choose crash (choose (is_stale x.link.connection) [] (drop (choose (is_held x.link.connection) count 0) x.link.waiting)) (drop (choose (is_held x.link.connection) count 0) x.link.waiting)
        unfolding left x device_of link_of
        left_so =
            (λ i. drop (goes i) (still_waits.is i))
            ∙ ap (λ (n : ℕ). drop (gone count (get_or xs CONNECTION 0) n crash) (first_waiting cells (get_or xs WAITING_LENGTH 0) xs)) (sym (queue_length (get_or xs WAITING_LENGTH 0) _))
            ∙ left_is crash (get_or xs CONNECTION 0) count (first_waiting cells (get_or xs WAITING_LENGTH 0) xs)

        standing_so : standing ≡ choose (is_live x.link.connection && reaches) (enqueue (join_item sheet) x.link.items (item_at devices cells ss ITEM_KIND)) x.link.items
        unfolding standing x device_of link_of
        standing_so = (λ i. choose (is_live (connection_of (outside CONNECTION (λ e. omega arith) (λ e. omega arith) (λ p q. omega arith) i)) && reaches) (enqueue (join_item sheet) (still_stands.is i) (item_at devices cells ss ITEM_KIND)) (still_stands.is i))

        after_so : with_link sheet x record { channel = x.link.channel; request = choose crash false x.link.request; connection = choose crash unheld x.link.connection; waiting = left; items = standing } ≡ settled count reaches crash (item_at devices cells ss ITEM_KIND) x
        after_so = (λ i. with_link sheet x record { channel = x.link.channel; request = choose crash false x.link.request; connection = choose crash unheld x.link.connection; waiting = left_so i; items = standing_so i }) ∙ device_after crash reaches count (item_at devices cells ss ITEM_KIND) x

        pub settled_so : Settled devices cells d count reaches crash ss xs end
        settled_so = unfold x in (subst (λ (y : Device sheet). Turned devices cells y (given (given_by (get_or ss (ITEM_NUMBERS + d) 0)) (get_or xs TAKEN 0)) xs end) after_so (link_turned devices cells xs y1 y2 y3 end left standing chain _ _ _ words _ taken_is))
