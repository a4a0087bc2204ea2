-- `server::gather::gather_all` meets its contract: each turn gathers from one device more.
use Prim.Native.Nat.{◌≤◌, ◌*◌}
use Rattle.server.specs.Gather.{Gathered}
use Rattle.server.proofs.gather.gather_all.Given as goal

abbrev pub invariant-loop-d : goal.invariant-loop-d
invariant-loop-d l = (l.moved ≤ 8 * l.d) × Gathered l.t l.counts l.d l.fn.extent.cells l.moved l.segment
