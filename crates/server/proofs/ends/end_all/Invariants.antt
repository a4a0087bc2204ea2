-- `server::ends::end_all` meets its contract: each turn ends one connection more.
use Rattle.table.specs.Promise.{Each}
use Rattle.link.specs.Ends.{Ended}
use Rattle.server.proofs.ends.end_all.Given as goal

abbrev pub invariant-loop-d : goal.invariant-loop-d
invariant-loop-d l = Each (λ k. Ended l.fn.extent.devices l.fn.extent.cells) l.initial.t l.t l.d
