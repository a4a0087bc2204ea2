-- What `send` makes of a record. Assumes nothing.
use mathlib.Core.Path.{◌≡◌, refl, ap, ◌∙◌}
use mathlib.Core.Bool.{Bool, true, false, not}
use mathlib.Core.List.{List, [], ◌∷◌, ◌++◌}
use Prim.Native.Nat.{ℕ, ◌+◌, ◌*◌, ◌≤◌, ◌<◌}
use native.Mathlib.Omega.{arith}
use lib.Dec.{eqb, leb}
use lib.ListN.{length, get_or, set, length-set}
use borrow.Author.Tests.{le-leb, lt-leb, eq-eqb, ne_eqb}
use Rattle.cells.specs.declared.Change.TheVariants.{Nothing}
use Rattle.protocol.specs.declared.Refusal.TheVariants.{NotEstablished, NoPush, PendingFull}
use Rattle.protocol.specs.Machine.{fine, unless, is_established, sent_from, round_of, send_at, done, refused}
use Rattle.sheet.specs.Sheet.{sheet}
use Rattle.words.specs.Layout.{CHANGE, QUEUE, ROUND, ESTABLISHED, LAST, TAKEN, CHANNEL, COVERED, PENDING_LENGTH, WAITING_LENGTH, ITEMS_LENGTH, KNOWN, BUFFERED, RECEIVED, PENDING, WAITING, ITEMS, RECORD}
use Rattle.words.specs.Place.{change_place, Filled, Out}
use Rattle.words.proofs.Places.{set_kept, set_new, change_local}
use Rattle.record.specs.Reading.{channel_of, round_at, link_of, device_of}
use Rattle.record.specs.Valid.{InUse, IsRecord}
use Rattle.record.proofs.Conditions.{is_lengths}
use Rattle.record.proofs.Loops.{cleared}
use Rattle.record.proofs.Meanings.{is_not_established}
use Rattle.record.proofs.Queues.{queue_length}
use Rattle.record.specs.Did.{Did}
use Rattle.queues.specs.Parts.{round_entry, PlacesAre, QueueIs, Requeued}
use Rattle.queues.specs.Rounds.{with_round, Addable}
use Rattle.queues.proofs.Entries.{round_local, queue_kept, requeued_outside}
use Rattle.queues.proofs.Parts.{Parts, did_parts, past_singles, places_put, places_kept, last_stays, words_stay, known_stays, transaction_stays, buffered_stays, received_stays, waiting_stays, items_stay}
use Rattle.record.proofs.Steps.{told}

module _ (devices cells : ℕ) (xs : List ℕ) (R : IsRecord devices cells xs) where
  -- the step, by its three tests
  step_is : (a b f : Bool) → is_established (channel_of (get_or xs CHANNEL 0)) ≡ a → eqb (get_or xs COVERED 0) 0 ≡ b → leb 8 (get_or xs PENDING_LENGTH 0) ≡ f → send_at sheet (device_of devices cells xs) ≡ unless sheet (not a) NotEstablished (unless sheet b NoPush (unless sheet f PendingFull (fine (sent_from sheet (device_of devices cells xs)))))
  unfolding send_at device_of link_of
  step_is a b f p q r =
      (λ i. unless sheet (not (p i)) NotEstablished (unless sheet (q i) NoPush (unless sheet (leb 8 (queue_length (get_or xs PENDING_LENGTH 0) (λ j. round_at cells xs (PENDING + ROUND * j)) i)) PendingFull (fine (sent_from sheet (device_of devices cells xs))))))
      ∙ ap (λ (t : Bool). unless sheet (not a) NotEstablished (unless sheet b NoPush (unless sheet t PendingFull (fine (sent_from sheet (device_of devices cells xs)))))) r

  pub send_not_established : (get_or xs CHANNEL 0 ≡ ESTABLISHED → ⊥) → Did devices cells (send_at sheet) xs (refused NotEstablished) xs
  send_not_established n = told devices cells (send_at sheet) xs (refused NotEstablished) R (step_is false _ _ (is_not_established (get_or xs CHANNEL 0) R.valid.channel n) refl refl)

  module _ (e : get_or xs CHANNEL 0 ≡ ESTABLISHED) where
    established_is : is_established (channel_of (get_or xs CHANNEL 0)) ≡ true
    established_is = ap (λ (k : ℕ). is_established (channel_of k)) e

    pub send_no_push : get_or xs COVERED 0 ≡ 0 → Did devices cells (send_at sheet) xs (refused NoPush) xs
    send_no_push z = told devices cells (send_at sheet) xs (refused NoPush) R (step_is true true _ established_is (eq-eqb _ 0 z) refl)

    pub send_full : (get_or xs COVERED 0 ≡ 0 → ⊥) → QUEUE ≤ get_or xs PENDING_LENGTH 0 → Did devices cells (send_at sheet) xs (refused PendingFull) xs
    send_full n h = told devices cells (send_at sheet) xs (refused PendingFull) R (step_is true false true established_is (ne_eqb _ 0 n) (le-leb 8 _ h))

  module _ (room : get_or xs PENDING_LENGTH 0 < QUEUE) where
    pub first_addable : Addable cells xs PENDING_LENGTH PENDING
    first_addable = record {
      size = R.valid.size;
      few_cells = R.few_cells;
      past_last = omega arith;
      single = omega arith;
      behind = omega arith;
      fits = omega arith;
      room = room;
      rounds = R.valid.pending;
      buffered = R.valid.buffered;
    }

    -- y1 has the round in pending
    module _ (y1 : List ℕ) (len1 : length y1 ≡ RECORD) (Q1 : Requeued (round_entry cells) xs y1 PENDING_LENGTH PENDING (with_round cells xs PENDING_LENGTH PENDING)) where
      outside1 : (i : ℕ) → (i ≡ PENDING_LENGTH → ⊥) → Out PENDING (ROUND * QUEUE) i → get_or y1 i 0 ≡ get_or xs i 0
      outside1 = requeued_outside (round_entry cells) (round_local cells R.few_cells) xs y1 PENDING_LENGTH PENDING _ Q1

      waiting1 : QueueIs (round_entry cells) y1 WAITING_LENGTH WAITING (device_of devices cells xs).link.waiting
      waiting1 = waiting_stays devices cells xs y1 R (outside1 WAITING_LENGTH (λ e. omega arith) (λ p q. omega arith)) (λ i p q. outside1 i (λ e. omega arith) (λ u v. omega arith))

      buffered1 : PlacesAre change_place Nothing cells y1 BUFFERED (device_of devices cells xs).buffered
      buffered1 = buffered_stays devices cells xs y1 R (λ i p q. outside1 i (λ e. omega arith) (λ u v. omega (arith, R.few_cells)))

      pub second_addable : Addable cells y1 WAITING_LENGTH WAITING
      second_addable = record {
        size = len1;
        few_cells = R.few_cells;
        past_last = omega arith;
        single = omega arith;
        behind = omega arith;
        fits = omega arith;
        room = omega (arith, outside1 WAITING_LENGTH (λ e. omega arith) (λ p q. omega arith), (is_lengths devices cells xs R.valid.size R).waiting, room);
        rounds = waiting1.valid;
        buffered = buffered1.valid;
      }

      -- y2 has it in waiting too, y3 the push buffer cleared
      module _ (y2 y3 : List ℕ) (Q2 : Requeued (round_entry cells) y1 y2 WAITING_LENGTH WAITING (with_round cells y1 WAITING_LENGTH WAITING)) (C : Filled change_place y2 y3 BUFFERED cells (λ k. Nothing)) (len : length y3 ≡ RECORD) where
        end : List ℕ
        end = set y3 COVERED 0

        outside2 : (i : ℕ) → (i ≡ WAITING_LENGTH → ⊥) → Out WAITING (ROUND * QUEUE) i → get_or y2 i 0 ≡ get_or y1 i 0
        outside2 = requeued_outside (round_entry cells) (round_local cells R.few_cells) y1 y2 WAITING_LENGTH WAITING _ Q2

        from_y2 : (i : ℕ) → (i ≡ COVERED → ⊥) → Out BUFFERED (CHANGE * cells) i → get_or end i 0 ≡ get_or y2 i 0
        unfolding end
        from_y2 i a b = set_kept y3 COVERED 0 i a ∙ C.kept i b

        from_y1 : (i : ℕ) → (i ≡ COVERED → ⊥) → Out BUFFERED (CHANGE * cells) i → (i ≡ WAITING_LENGTH → ⊥) → Out WAITING (ROUND * QUEUE) i → get_or end i 0 ≡ get_or y1 i 0
        from_y1 i a b c d = from_y2 i a b ∙ outside2 i c d

        -- the queues, COVERED, the lengths and the push buffer apart, all stays
        keep : (i : ℕ) → (i ≡ COVERED → ⊥) → (i ≡ PENDING_LENGTH → ⊥) → (i ≡ WAITING_LENGTH → ⊥) → (BUFFERED ≤ i → RECEIVED ≤ i) → (PENDING ≤ i → ITEMS ≤ i) → get_or end i 0 ≡ get_or xs i 0
        keep i a b c f g = from_y1 i a (λ p q. omega (arith, f p, R.few_cells)) c (λ p q. omega (arith, g (omega arith))) ∙ outside1 i b (λ p q. omega (arith, g p))

        single : (i : ℕ) → i < KNOWN → (i ≡ COVERED → ⊥) → (i ≡ PENDING_LENGTH → ⊥) → (i ≡ WAITING_LENGTH → ⊥) → get_or end i 0 ≡ get_or xs i 0
        single i h a b c = keep i a b c (λ p. omega arith) (λ p. omega arith)

        early : (i : ℕ) → KNOWN ≤ i → i < BUFFERED → get_or end i 0 ≡ get_or xs i 0
        early i h l = keep i (λ e. omega arith) (λ e. omega arith) (λ e. omega arith) (λ p. omega arith) (λ p. omega arith)

        covered_is : get_or end COVERED 0 ≡ 0
        unfolding end
        covered_is = set_new y3 COVERED 0 (omega (arith, len))

        pending_is : QueueIs (round_entry cells) end PENDING_LENGTH PENDING (with_round cells xs PENDING_LENGTH PENDING)
        pending_is =
            queue_kept (round_entry cells) (round_local cells R.few_cells) y1 end PENDING_LENGTH PENDING _ (from_y1 PENDING_LENGTH (λ e. omega arith) (λ p q. omega arith) (λ e. omega arith) (λ p q. omega arith))
            (λ i p q. from_y1 i (λ e. omega arith) (λ u v. omega (arith, R.few_cells)) (λ e. omega arith) (λ u v. omega arith)) Q1.now_is

        waiting_is : QueueIs (round_entry cells) end WAITING_LENGTH WAITING ((device_of devices cells xs).link.waiting ++ (round_of sheet (device_of devices cells xs) ∷ []))
        unfolding device_of
        waiting_is =
            let e : with_round cells y1 WAITING_LENGTH WAITING ≡ (device_of devices cells xs).link.waiting ++ (round_of sheet (device_of devices cells xs) ∷ []) =
            (λ i. waiting1.is i ++ (record { number = outside1 LAST (λ e. omega arith) (λ p q. omega arith) i; delta = buffered1.is i } ∷ [])) in
            rw e at
            (queue_kept (round_entry cells) (round_local cells R.few_cells) y2 end WAITING_LENGTH WAITING _ (from_y2 WAITING_LENGTH (λ e. omega arith) (λ p q. omega arith))
            (λ i p q. from_y2 i (λ e. omega arith) (λ u v. omega (arith, R.few_cells))) Q2.now_is)

        parts : Parts devices cells end (sent_from sheet (device_of devices cells xs))
        parts = record {
          size = unfold end in (simp length-set len);
          last = last_stays devices cells xs end R (single LAST (omega arith) (λ e. omega arith) (λ e. omega arith) (λ e. omega arith));
          covered = covered_is;
          words = words_stay devices cells xs end R (λ i p q. single i (omega arith) (λ e. omega arith) (λ e. omega arith) (λ e. omega arith));
          known = known_stays devices cells xs end R (λ i p q. early i p (omega (arith, R.few_cells)));
          transaction = transaction_stays devices cells xs end R (λ i p q. early i (omega arith) (omega (arith, R.few_cells)));
          buffered = places_kept change_place change_local Nothing cells y3 end BUFFERED _ (λ i p q. unfold end in set_kept y3 COVERED 0 i (λ e. omega arith)) (places_put change_place Nothing cells y2 y3 BUFFERED _ _ C (cleared cells y2 y3 BUFFERED BUFFERED change_place Nothing C));
          received = received_stays devices cells xs end R (λ i p q. keep i (λ e. omega arith) (λ e. omega arith) (λ e. omega arith) (λ u. p) (λ u. omega arith));
          pending = unfold device_of in pending_is;
          waiting = waiting_is;
          items = items_stay devices cells xs end R (single ITEMS_LENGTH (omega arith) (λ e. omega arith) (λ e. omega arith) (λ e. omega arith)) (λ i p q. keep i (λ e. omega arith) (λ e. omega arith) (λ e. omega arith) (λ u. omega arith) (λ u. p));
        }

        kept_is : (i : ℕ) → (InUse devices cells end i → ⊥) → get_or end i 0 ≡ get_or xs i 0
        kept_is i n =
            let k = past_singles devices cells end i n in
            let w = from_y2 WAITING_LENGTH (λ e. omega arith) (λ p q. omega arith) in
            let v = from_y1 PENDING_LENGTH (λ e. omega arith) (λ p q. omega arith) (λ e. omega arith) (λ p q. omega arith) in
            from_y2 i (λ e. omega arith) (λ p q. n (InUse.buffered p q))
            ∙ Q2.kept i (λ e. omega arith) (λ j h u. n (InUse.waiting j (omega arith) u.0 u.1))
            ∙ Q1.kept i (λ e. omega arith) (λ j h u. n (InUse.pending j (omega arith) u.0 u.1))

        pub send_done : get_or xs CHANNEL 0 ≡ ESTABLISHED → (get_or xs COVERED 0 ≡ 0 → ⊥) → Did devices cells (send_at sheet) xs done (set y3 COVERED 0)
        send_done e n = unfold end in
            (did_parts devices cells (send_at sheet) xs end (sent_from sheet (device_of devices cells xs)) (step_is true false false (established_is e) (ne_eqb _ 0 n) (lt-leb 8 _ room)) parts
            (single TAKEN (omega arith) (λ e. omega arith) (λ e. omega arith) (λ e. omega arith)) kept_is)
