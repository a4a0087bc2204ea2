-- What the end of a connection makes of a record. Assumes nothing.
use mathlib.Core.Path.{◌≡◌, refl, sym, ap, ◌∙◌, subst}
use mathlib.Core.Bool.{Bool, true, false}
use mathlib.Core.List.{List, []}
use Prim.Native.Nat.{ℕ, zero, suc, ◌≤◌, ◌<◌}
use native.Mathlib.Omega.{arith}
use lib.ListN.{length, get_or, set, drop, length-set}
use Rattle.protocol.specs.declared.Refusal.TheVariants.{NoConnection}
use Rattle.protocol.specs.Machine.{Device, Round, choose, is_held, unheld, is_stale, with_link, cut_off, serverdrop_at, Answer, done, refused}
use Rattle.sheet.specs.Sheet.{sheet}
use Rattle.words.specs.Layout.{TAKEN, REQUEST, CONNECTION, WAITING_LENGTH, WAITING, ITEMS_LENGTH, ITEMS, RECORD}
use Rattle.words.proofs.Places.{set_kept, set_new}
use Rattle.record.specs.Reading.{channel_of, connection_of, request_of, link_of, device_of}
use Rattle.record.specs.Valid.{IsRecord}
use Rattle.record.proofs.Queues.{queue_length}
use Rattle.record.specs.Did.{Did}
use Rattle.queues.specs.Parts.{Requeued, round_entry, item_entry}
use Rattle.queues.proofs.Entries.{round_local, item_local, queue_kept, requeued_outside}
use Rattle.queues.proofs.Parts.{WordsAre, parts_of}
use Rattle.record.proofs.Steps.{told, did_as}
use Rattle.link.specs.Ends.{end_at}
use Rattle.link.specs.Gather.{first_waiting}
use Rattle.link.specs.Turn.{Turned}
use Rattle.link.specs.Waiting.{gone, HasWaiting}
use Rattle.link.proofs.Goes.{gone_few, left_is}
use Rattle.link.proofs.Links.{Chain, requeued_same, channel_kept, link_turned}

-- y has the rounds of a stale connection gone, `end` no connection.
module _ (devices cells : ℕ) (xs : List ℕ) (request k : ℕ) (R : IsRecord devices cells xs) (q : request ≤ 1) (goes : k ≡ gone 0 (get_or xs CONNECTION 0) (get_or xs WAITING_LENGTH 0) true) where
  pub some_go : HasWaiting cells k xs
  some_go = record { size = R.valid.size; few_cells = R.few_cells; few = R.valid.few_waiting; some_left = rw goes (gone_few 0 (get_or xs CONNECTION 0) (get_or xs WAITING_LENGTH 0) true); rounds = R.valid.waiting }

  module _ (y : List ℕ) (len : length y ≡ RECORD) (Q : Requeued (round_entry cells) xs y WAITING_LENGTH WAITING (drop k (first_waiting cells (get_or xs WAITING_LENGTH 0) xs))) where
    end : List ℕ
    end = set (set y REQUEST request) CONNECTION 0

    x : Device sheet
    x = device_of devices cells xs

    outside : (i : ℕ) → (i ≡ WAITING_LENGTH → ⊥) → (WAITING ≤ i → i < ITEMS → ⊥) → get_or y i 0 ≡ get_or xs i 0
    outside i a b = requeued_outside (round_entry cells) (round_local cells R.few_cells) xs y WAITING_LENGTH WAITING _ Q i a (λ p r. b p (omega arith))

    left : List (Round sheet)
    left = drop k (first_waiting cells (get_or xs WAITING_LENGTH 0) xs)

    chain : Chain devices cells xs xs y y end left x.link.items
    unfolding end left x
    chain = record {
      sound = record { few_devices = R.few_devices; few_cells = R.few_cells; valid = R.valid };
      numbered = λ i n. refl;
      waits = Q;
      stands = requeued_same (item_entry devices cells) y ITEMS_LENGTH ITEMS _ (queue_kept (item_entry devices cells) (item_local devices cells R.few_devices R.few_cells) xs y ITEMS_LENGTH ITEMS _ (outside ITEMS_LENGTH (λ e. omega arith) (λ p r. omega arith)) (λ i p r. outside i (λ e. omega arith) (λ u v. omega arith)) (parts_of devices cells xs R.valid).items);
      ends = λ i a b. set_kept (set y REQUEST request) CONNECTION 0 i b ∙ set_kept y REQUEST request i a;
      size = simp length-set len;
    }

    words : WordsAre end x.link.channel (request_of request) unheld
    words =
        let c = channel_kept devices cells xs xs y y end _ _ chain in
        let r : get_or end REQUEST 0 ≡ request = unfold end in (set_kept (set y REQUEST request) CONNECTION 0 REQUEST (λ e. omega arith) ∙ set_new y REQUEST request (omega arith)) in
        let n : get_or end CONNECTION 0 ≡ 0 = unfold end in (set_new (set y REQUEST request) CONNECTION 0 (simp length-set (omega arith))) in
        record {
          channel = unfold x device_of link_of in (ap channel_of c);
          request = ap request_of r;
          connection = ap connection_of n;
          channel_fits = rw c R.valid.channel;
          request_fits = rw r q;
          connection_fits = rw n (omega arith);
        }

    -- those of a stale connection are gone, others stay
    left_so : left ≡ choose (is_stale x.link.connection) [] x.link.waiting
    unfolding left x device_of link_of
    left_so =
        (λ i. drop (goes i) (first_waiting cells (get_or xs WAITING_LENGTH 0) xs))
        ∙ ap (λ (n : ℕ). drop (gone 0 (get_or xs CONNECTION 0) n true) (first_waiting cells (get_or xs WAITING_LENGTH 0) xs)) (sym (queue_length (get_or xs WAITING_LENGTH 0) _))
        ∙ left_is true (get_or xs CONNECTION 0) 0 (first_waiting cells (get_or xs WAITING_LENGTH 0) xs)
        ∙ ap (λ (n : ℕ). choose (is_stale (connection_of (get_or xs CONNECTION 0))) [] (drop n (first_waiting cells (get_or xs WAITING_LENGTH 0) xs))) (zero_of (is_held (connection_of (get_or xs CONNECTION 0))))
      where
        zero_of : (b : Bool) → choose {A = ℕ} b 0 0 ≡ 0
        zero_of true = refl
        zero_of false = refl

    turned : Turned devices cells (with_link sheet x (cut_off sheet (request_of request) x.link)) (get_or xs TAKEN 0) xs end
    turned =
        subst (λ (w : List (Round sheet)). Turned devices cells (with_link sheet x record { channel = x.link.channel; request = request_of request; connection = unheld; waiting = w; items = x.link.items }) (get_or xs TAKEN 0) xs end) left_so
        (unfold x in (link_turned devices cells xs xs y y end left _ chain _ _ _ words (get_or xs TAKEN 0) taken_kept))
      where
        from_y : get_or end TAKEN 0 ≡ get_or y TAKEN 0
        from_y = unfold end in (set_kept (set y REQUEST request) CONNECTION 0 TAKEN (λ e. omega arith) ∙ set_kept y REQUEST request TAKEN (λ e. omega arith))

        taken_kept : get_or end TAKEN 0 ≡ get_or xs TAKEN 0
        taken_kept = from_y ∙ outside TAKEN (λ e. omega arith) (λ p r. omega arith)

    pub ended_so : Did devices cells (end_at (request_of request)) xs done (set (set y REQUEST request) CONNECTION 0)
    ended_so = unfold end x in (record { answer = refl; after = turned.says; taken = turned.taken; valid = turned.valid; kept = turned.kept })

-- serverdrop: nothing to end, or the end with the request as it stands.
module _ (devices cells : ℕ) (xs : List ℕ) where
  pub serverdrop_refused : IsRecord devices cells xs → get_or xs CONNECTION 0 ≡ 0 → Did devices cells (serverdrop_at sheet) xs (refused NoConnection) xs
  unfolding serverdrop_at device_of link_of
  serverdrop_refused R e = told devices cells (serverdrop_at sheet) xs (refused NoConnection) R (rw e refl)

  pub serverdrop_done : (ys : List ℕ) (a : Answer sheet) → (get_or xs CONNECTION 0 ≡ 0 → ⊥) → Did devices cells (end_at (request_of (get_or xs REQUEST 0))) xs a ys → Did devices cells (serverdrop_at sheet) xs a ys
  unfolding serverdrop_at device_of link_of
  serverdrop_done ys a n D = did_as devices cells (end_at (request_of (get_or xs REQUEST 0))) (serverdrop_at sheet) xs ys a (go (get_or xs CONNECTION 0) n refl) D
    where
      go : (k : ℕ) → (k ≡ 0 → ⊥) → get_or xs CONNECTION 0 ≡ k → end_at (request_of (get_or xs REQUEST 0)) (device_of devices cells xs) ≡ serverdrop_at sheet (device_of devices cells xs)
      go zero n e = absurd (n refl)
      go (suc zero) n e = rw e refl
      go (suc (suc k)) n e = rw e refl
