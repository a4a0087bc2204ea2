-- `coding::cell::read_cell` meets its contract: the token that is there tells.
use mathlib.Core.Path.{refl}
use Rattle.cbor.proofs.Arrays.{none_here, none_there, one_there}
use Rattle.coding.specs.Item.{CellAllowed, cell_bytes, cell_token}
use Rattle.coding.proofs.Meaning.{cell_fits}
use Rattle.coding.proofs.cell.read_cell.Goals as goal

pub returns-in_err-t : goal.returns-in_err-t
returns-in_err-t c =
    rw c.from_residual.ensures
    (none_here cell_bytes CellAllowed cell_token (λ _. refl) cell_fits c.args.s.now c.args.at c.in_err-t.ensures)

pub returns-in_err-c : goal.returns-in_err-c
returns-in_err-c c =
    rw c.from_residual-in_err-c.ensures
    (none_there cell_bytes CellAllowed cell_token (λ _. refl) cell_fits c.args.s.now c.args.at c.in_ok-t.t c.in_ok-t.next c.in_ok-t.ensures c.in_err-c.ensures)

pub returns : goal.returns
returns c =
    let k = c.in_ok-c.ensures in
    one_there cell_bytes CellAllowed cell_token (λ _. refl) cell_fits c.args.s.now c.args.at c.in_ok-t.t c.in_ok-t.next c.in_ok-c.c c.in_ok-t.ensures k.0 k.1
