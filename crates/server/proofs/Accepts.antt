-- accept on the table. Assumes nothing.
use mathlib.Core.Path.{◌≡◌, sym, ap}
use mathlib.Core.List.{List}
use Prim.Native.Nat.{ℕ}
use native.Mathlib.Omega.{arith}
use Rattle.protocol.specs.Machine.{Table, Item, prefix, step, at, accept, accept_at, accept_with}
use Rattle.sheet.specs.Sheet.{sheet}
use Rattle.table.specs.Known.{TableReady}
use Rattle.delivery.specs.Deliver.{ItemReady}
use Rattle.server.specs.Prefix.{PrefixIs}

-- The machine's accept puts the present prefix.
pub accept_at_is : (d : ℕ) (t : Table sheet) (i : Item sheet) → i ≡ prefix t.sheet t.taken → step sheet (accept d) t ≡ at sheet t d (accept_with sheet i)
unfolding step accept_at
accept_at_is d t i e = ap (λ (p : Item sheet). at sheet t d (accept_with sheet p)) (sym e)

-- The present prefix is an item of the table.
pub prefix_item : (xs ss : List ℕ) (devices cells : ℕ) → TableReady xs devices cells → PrefixIs xs devices cells ss → ItemReady devices cells ss
prefix_item xs ss devices cells R P =
    let ok = R.table.valid in
    let z = ok.sizes in
    let n = R.devices_are in
    let m = R.cells_are in
    record { few_devices = omega arith; few_cells = omega arith; item = P.item; valid = P.valid }
