-- `server::prefix::put_numbers` meets its contract: each turn stores one number more.
use Prim.Native.Nat.{◌+◌}
use lib.ListN.{get_or}
use Rattle.words.specs.Layout.{ITEM_NUMBERS, TAKEN}
use Rattle.words.specs.Place.{Numbers}
use Rattle.table.specs.Table.{record_at}
use Rattle.server.proofs.prefix.put_numbers.Given as goal

abbrev pub invariant-loop-d : goal.invariant-loop-d
invariant-loop-d l = Numbers l.initial.item l.item ITEM_NUMBERS l.d (λ e. get_or (record_at l.t e) TAKEN 0 + 1)
