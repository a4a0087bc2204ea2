-- The image by its parts: their lengths, the parts written one after the other, and what lies in lent words. Assumes nothing.
use mathlib.Core.List.{List}
use mathlib.Core.Path.{◌≡◌, subst, sym}
use Prim.Native.Nat.{◌+◌, ◌≤◌, ℕ}
use native.Mathlib.Omega.{arith}
use lib.ListN.{length, length-append}
use Rattle.cbor.proofs.Writing.{wrote_then}
use Rattle.cbor.specs.Bytes.{Wrote}
use Rattle.cbor.specs.Code.{Within, array_of}
use Rattle.cbor.specs.Head.{head_of}
use Rattle.cells.specs.declared.Cell.{Cell}
use Rattle.record.specs.Reading.{queue}
use Rattle.record.proofs.Queues.{queue_length}
use Rattle.coding.specs.Image.{Allowed, NumberAllowed, image_of}
use Rattle.coding.specs.Item.{CellAllowed, cell_bytes}
use Rattle.image.specs.Words.{image_at, Stored, cell_in, number_in}
use Rattle.image.specs.declared.writing.Places.{Places}
use Rattle.image.proofs.Queued.{all_queue}
use Rattle.image.proofs.Runs.{cell_in_allowed}

-- the parts' lengths, and the parts written one after the other
module _ (cs : List Cell) (ns : List ℕ) where
  pub image_length : length (image_of cs ns) ≡ length (head_of 4 2) + (length (array_of cell_bytes cs) + length (array_of (head_of 0) ns))
  unfolding image_of
  image_length = simp length-append

  pub written_image : {o o1 o2 o3 : List ℕ} {q1 q2 q3 : ℕ} → length (image_of cs ns) ≤ length o → length o1 ≡ length o
      → Wrote o 0 (head_of 4 2) o1 q1 → Wrote o1 q1 (array_of cell_bytes cs) o2 q2 → Wrote o2 q2 (array_of (head_of 0) ns) o3 q3 → Wrote o 0 (image_of cs ns) o3 q3
  unfolding image_of
  written_image room e1 w1 w2 w3 =
      let n = image_length in
      let a1 = w1.next in
      wrote_then (omega arith) w1 (wrote_then (omega arith) w2 w3)

-- as they lie in lent words
pub part_lengths : (words numbers : List ℕ) (p : Places) → length (image_at words numbers p) ≡ length (head_of 4 2) + (length (array_of cell_bytes (queue p.cells (cell_in words p.sheet))) + length (array_of (head_of 0) (queue p.devices (number_in numbers p.first p.stride))))
part_lengths words numbers p = image_length (queue p.cells (cell_in words p.sheet)) (queue p.devices (number_in numbers p.first p.stride))

-- what lies in places that hold allowed things is allowed
pub stored_allowed : (words numbers : List ℕ) (p : Places) → Stored words numbers p → Allowed (queue p.cells (cell_in words p.sheet)) (queue p.devices (number_in numbers p.first p.stride))
stored_allowed words numbers p v =
    record {
      sheet = record {
        count = subst (Within 1 64) (sym (queue_length p.cells _)) v.some_cells;
        every = all_queue CellAllowed p.cells _ (λ i h. cell_in_allowed words p.sheet p.cells i v.sheet h);
      };
      devices = record {
        count = subst (Within 1 8) (sym (queue_length p.devices _)) v.some_devices;
        every = all_queue NumberAllowed p.devices _ v.allowed;
      };
    }
