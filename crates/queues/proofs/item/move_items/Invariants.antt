-- `queues::item::move_items` meets its contract: each turn moves one item more.
use Rattle.std.proofs.Common.{◌+◌, ◌*◌}
use Rattle.words.specs.Layout.{ITEM}
use Rattle.record.specs.Reading.{item_at}
use Rattle.queues.specs.Parts.{item_entry, Moved}
use Rattle.queues.proofs.item.move_items.Given as goal

abbrev pub invariant-loop-j : goal.invariant-loop-j
invariant-loop-j l = Moved (item_entry l.fn.extent.devices l.fn.extent.cells) l.initial.r l.r l.to l.j (λ i. item_at l.fn.extent.devices l.fn.extent.cells l.initial.r (l.from + ITEM * i))
