-- Two records whose devices have the same queues and receive buffers say them alike. Assumes nothing.
use mathlib.Core.Path.{◌≡◌, ap}
use mathlib.Core.List.{List}
use Prim.Native.Nat.{ℕ, ◌+◌, ◌*◌}
use lib.ListN.{get_or}
use Rattle.protocol.specs.Machine.{Device, Link}
use Rattle.sheet.specs.Sheet.{sheet}
use Rattle.words.specs.Layout.{ROUND, ITEM, PENDING_LENGTH, WAITING_LENGTH, ITEMS_LENGTH, RECEIVED, PENDING, WAITING, ITEMS}
use Rattle.record.specs.Reading.{queue, round_at, buffer_of, item_at, received_at, link_of, device_of}

-- Two devices whose queues and receive buffers are the same.
pub record SameQueues (x y : Device sheet) : Type 0 where
  pub received : x.received ≡ y.received
  pub pending : x.pending ≡ y.pending
  pub link : x.link ≡ y.link

pub one_device : (x y : Device sheet) → x ≡ y → SameQueues x y
one_device x y e = record { received = ap (λ (x : Device sheet). x.received) e; pending = ap (λ (x : Device sheet). x.pending) e; link = ap (λ (x : Device sheet). x.link) e }

module _ (devices cells : ℕ) (xs ys : List ℕ) (A : SameQueues (device_of devices cells xs) (device_of devices cells ys)) where
  pub same_link : link_of devices cells xs ≡ link_of devices cells ys
  same_link = unfold device_of in A.link

  pub same_pending : queue (get_or xs PENDING_LENGTH 0) (λ j. round_at cells xs (PENDING + ROUND * j)) ≡ queue (get_or ys PENDING_LENGTH 0) (λ j. round_at cells ys (PENDING + ROUND * j))
  same_pending = unfold device_of in A.pending

  pub same_waiting : queue (get_or xs WAITING_LENGTH 0) (λ j. round_at cells xs (WAITING + ROUND * j)) ≡ queue (get_or ys WAITING_LENGTH 0) (λ j. round_at cells ys (WAITING + ROUND * j))
  same_waiting = unfold link_of in (ap (λ (l : Link sheet). l.waiting) same_link)

  pub same_items : queue (get_or xs ITEMS_LENGTH 0) (λ j. item_at devices cells xs (ITEMS + ITEM * j)) ≡ queue (get_or ys ITEMS_LENGTH 0) (λ j. item_at devices cells ys (ITEMS + ITEM * j))
  same_items = unfold link_of in (ap (λ (l : Link sheet). l.items) same_link)

  pub same_received : buffer_of (get_or xs RECEIVED 0) (item_at devices cells xs RECEIVED) ≡ buffer_of (get_or ys RECEIVED 0) (item_at devices cells ys RECEIVED)
  same_received = unfold device_of received_at in A.received
