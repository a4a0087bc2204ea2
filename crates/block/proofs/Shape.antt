-- Tables that differ in an open transaction only have the same words in use. Assumes nothing.
use mathlib.Core.Path.{◌≡◌, refl, sym, ◌∙◌}
use mathlib.Core.List.{List}
use Prim.Native.Nat.{ℕ, zero, suc, ◌+◌, ◌*◌, ◌<◌}
use native.Mathlib.Omega.{arith}
use lib.ListN.{get_or}
use Rattle.words.specs.Layout.{ITEM, ITEMS_LENGTH, RECEIVED, ITEMS, DEVICES, CELLS}
use Rattle.record.specs.Reading.{buffer_of, item_at, device_of}
use Rattle.record.specs.Valid.{InItem, InUse, ValidItem, ValidRecord}
use Rattle.record.proofs.Same.{in_item_same}
use Rattle.record.proofs.SameQueues.{SameQueues, same_pending, same_waiting, same_items, same_received}
use Rattle.record.proofs.One.{item_words}
use Rattle.record.proofs.Queues.{same_lengths, same_entries}
use Rattle.table.specs.Table.{reading, record_at, InTable, ValidTable}
use Rattle.table.proofs.Tables.{device_at}

module _ (devices cells : ℕ) (xs ys : List ℕ) where
  in_item : (o : ℕ) → ValidItem devices cells xs o → ValidItem devices cells ys o → item_at devices cells xs o ≡ item_at devices cells ys o → (i : ℕ) → InItem devices cells xs o i → InItem devices cells ys o i
  in_item o X Y e i u = in_item_same devices cells xs ys o (sym (item_words devices cells xs ys o X Y e o InItem.kind)) i u

  module _ (X : ValidRecord devices cells xs) (Y : ValidRecord devices cells ys) (A : SameQueues (device_of devices cells xs) (device_of devices cells ys)) where
    in_buffer : (i a b : ℕ) → get_or xs RECEIVED 0 ≡ a → get_or ys RECEIVED 0 ≡ b → buffer_of a (item_at devices cells xs RECEIVED) ≡ buffer_of b (item_at devices cells ys RECEIVED) → 0 < a → InItem devices cells xs RECEIVED i → InUse devices cells ys i
    in_buffer i zero b p q e h u = absurd (omega arith)
    in_buffer i (suc a) zero p q e h u = let z : ◌≡◌ {A = ℕ} 0 1 = cc in absurd (omega arith)
    in_buffer i (suc a) (suc b) p q e h u =
        let same : item_at devices cells xs RECEIVED ≡ item_at devices cells ys RECEIVED = cc in
        InUse.received (omega arith) (in_item RECEIVED (X.received (omega arith)) (Y.received (omega arith)) same i u)

    pub in_use : (i : ℕ) → InUse devices cells xs i → InUse devices cells ys i
    in_use i (InUse.single h) = InUse.single h
    in_use i (InUse.known l h) = InUse.known l h
    in_use i (InUse.transaction l h) = InUse.transaction l h
    in_use i (InUse.buffered l h) = InUse.buffered l h
    in_use i InUse.buffer_kind = InUse.buffer_kind
    in_use i (InUse.received h u) = in_buffer i _ _ refl refl (same_received devices cells xs ys A) h u
    in_use i (InUse.pending j h l b) = let n = same_lengths _ _ _ _ (same_pending devices cells xs ys A) in InUse.pending j (omega arith) l b
    in_use i (InUse.waiting j h l b) = let n = same_lengths _ _ _ _ (same_waiting devices cells xs ys A) in InUse.waiting j (omega arith) l b
    in_use i (InUse.items j h u) =
        let n = same_lengths _ _ _ _ (same_items devices cells xs ys A) in
        let b : j < get_or ys ITEMS_LENGTH 0 = omega arith in
        InUse.items j b (in_item (ITEMS + ITEM * j) (X.items j h) (Y.items j b) (same_entries _ _ _ _ (same_items devices cells xs ys A) j h) i u)

module _ (xs ys : List ℕ) (X : ValidTable xs) (Y : ValidTable ys) (devices : get_or ys DEVICES 0 ≡ get_or xs DEVICES 0) (cells : get_or ys CELLS 0 ≡ get_or xs CELLS 0) (A : (d : ℕ) → d < get_or xs DEVICES 0 → SameQueues ((reading xs).device d) ((reading ys).device d)) where
  module _ (d : ℕ) (h : d < get_or xs DEVICES 0) where
    there : d < get_or ys DEVICES 0
    there = omega arith

    device_is : (reading ys).device d ≡ device_of (get_or xs DEVICES 0) (get_or xs CELLS 0) (record_at ys d)
    device_is = device_at ys d there ∙ (λ i. device_of (devices i) (cells i) (record_at ys d))

    alike : SameQueues (device_of (get_or xs DEVICES 0) (get_or xs CELLS 0) (record_at xs d)) (device_of (get_or xs DEVICES 0) (get_or xs CELLS 0) (record_at ys d))
    alike = rw (device_at xs d h, device_is) at (A d h)

    in_record : (k : ℕ) → InUse (get_or xs DEVICES 0) (get_or xs CELLS 0) (record_at xs d) k → InUse (get_or ys DEVICES 0) (get_or ys CELLS 0) (record_at ys d) k
    in_record k u = rw (devices, cells) (in_use (get_or xs DEVICES 0) (get_or xs CELLS 0) (record_at xs d) (record_at ys d) (X.records d h) (rw (devices, cells) at (Y.records d there)) alike k u)

  pub in_table : (i : ℕ) → InTable xs i → InTable ys i
  in_table i (InTable.header h) = InTable.header h
  in_table i (InTable.sheet_cell l h) = InTable.sheet_cell l (rw cells h)
  in_table i (InTable.in_record d k h u q) = InTable.in_record d k (there d h) (in_record d h k u) q
