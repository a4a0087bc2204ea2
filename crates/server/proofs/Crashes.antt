-- serverdrop and crash on the table. Assumes nothing.
use mathlib.Core.Path.{◌≡◌, refl, fun_ext}
use mathlib.Core.Bool.{Bool, true, false}
use mathlib.Core.List.{List}
use Prim.Native.Nat.{ℕ, ◌+◌, ◌*◌, ◌≤◌, ◌<◌}
use native.Mathlib.Omega.{arith}
use lib.Dec.{ltb}
use lib.ListN.{length, get_or}
use Rattle.cells.specs.declared.Cell.TheVariants.{Blank}
use Rattle.protocol.specs.Machine.{Table, Device, step, at, choose, crash, serverdrop, serverdrop_at, after_crash, fresh_device, done}
use Rattle.sheet.specs.Sheet.{sheet}
use Rattle.words.specs.Layout.{DEVICES, CELLS, TAKEN, RECORD, RECORDS}
use Rattle.record.specs.Reading.{below, device_of}
use Rattle.record.specs.Valid.{IsRecord}
use Rattle.table.specs.Table.{record_at, reading, IsTable}
use Rattle.table.specs.Promise.{Each, Stepped}
use Rattle.table.proofs.Each.{each_ahead}
use Rattle.table.proofs.Tables.{record_of}
use Rattle.link.specs.Ends.{ended, Ended}
use Rattle.table.specs.Known.{TableReady}
use Rattle.server.proofs.Turns.{all_turned, server_sheet}

pub serverdrop_at_is : (d : ℕ) (t : Table sheet) → step sheet (serverdrop d) t ≡ at sheet t d (serverdrop_at sheet)
unfolding step
serverdrop_at_is d t = refl

-- A record that no turn has reached yet is the table's.
pub ready_record : (xs : List ℕ) (devices cells : ℕ) → TableReady xs devices cells → (ys : List ℕ) (d : ℕ) → length ys ≡ length xs → RECORDS + RECORD * d + RECORD ≤ length xs → d < devices → Each (λ k. Ended devices cells) xs ys d → IsRecord devices cells (record_at ys d)
ready_record xs devices cells P ys d l h b E =
    let n = P.devices_are in
    let c = P.cells_are in
    let r : IsRecord devices cells (record_at xs d) = rw (n, c) (record_of xs P.table d (omega arith)) in
    rw (each_ahead (λ k. Ended devices cells) xs ys d d l h (omega arith) E) r

-- Nobody past the devices has a connection to lose.
ended_below : (n : ℕ) (f : ℕ → Device sheet) → below n (λ d. ended false (f d)) (fresh_device sheet (λ c. Blank) 0) ≡ (λ d. ended false (below n f (fresh_device sheet (λ c. Blank) 0) d))
ended_below n f = fun_ext (λ d. both (ltb d n) (f d))
  where
    both : (b : Bool) (x : Device sheet) → choose b (ended false x) (fresh_device sheet (λ c. Blank) 0) ≡ ended false (choose b x (fresh_device sheet (λ c. Blank) 0))
    both true x = refl
    both false x = refl

module _ (xs ys : List ℕ) (T : IsTable xs) (l : length ys ≡ length xs) (E : Each (λ d. Ended (get_or xs DEVICES 0) (get_or xs CELLS 0)) xs ys (get_or xs DEVICES 0)) where
  crash_is : record {
    devices = get_or xs DEVICES 0;
    cells = get_or xs CELLS 0;
    sheet = (reading xs).sheet;
    taken = below (get_or xs DEVICES 0) (λ d. get_or (record_at xs d) TAKEN 0) 0;
    device = below (get_or xs DEVICES 0) (λ d. ended false (device_of (get_or xs DEVICES 0) (get_or xs CELLS 0) (record_at xs d))) (fresh_device sheet (λ c. Blank) 0);
  } ≡ (step sheet crash (reading xs)).table
  unfolding reading step after_crash
  crash_is = (λ i. record {
    devices = get_or xs DEVICES 0;
    cells = get_or xs CELLS 0;
    sheet = (reading xs).sheet;
    taken = (reading xs).taken;
    device = ended_below (get_or xs DEVICES 0) (λ d. device_of (get_or xs DEVICES 0) (get_or xs CELLS 0) (record_at xs d)) i;
  })

  pub crashed : Stepped (step sheet crash) xs done ys
  crashed = record {
    no_table = λ n. absurd (n T);
    answer = λ t. unfold step in refl;
    after = λ t. all_turned xs xs ys T.valid l (reading xs).sheet (server_sheet xs T.valid) (λ i o. refl) (λ d. ended false (device_of (get_or xs DEVICES 0) (get_or xs CELLS 0) (record_at xs d))) (λ d. get_or (record_at xs d) TAKEN 0) (record { each = E.each; kept = E.kept }) _ crash_is;
  }
