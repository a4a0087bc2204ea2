-- `server::settle::settle_all` meets its contract: each turn settles one record more.
use lib.Dec.{ltb}
use lib.ListN.{get_or}
use Rattle.table.specs.Promise.{Each}
use Rattle.link.specs.Settle.{Settled}
use Rattle.server.proofs.settle.settle_all.Given as goal

abbrev pub invariant-loop-d : goal.invariant-loop-d
invariant-loop-d l = Each (λ k. Settled l.fn.extent.devices l.fn.extent.cells k (get_or l.counts k 0) (ltb k l.reach) l.crash l.segment) l.initial.t l.t l.d
