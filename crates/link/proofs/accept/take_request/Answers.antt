-- `link::accept::take_request` meets its contract: no request, or a connection is held, or the request is taken.
use lib.ListN.{length-set}
use native.Mathlib.Omega.{arith}
use Rattle.link.proofs.Requests.{no_request, request_held, first_stackable, request_taken}
use Rattle.link.proofs.accept.take_request.Goals as goal

pub returns-then-r-eq0 : goal.returns-then-r-eq0
returns-then-r-eq0 c = no_request _ _ _ _ c.requires.0 c.if-r-eq0.true

pub returns-then-r-ne0 : goal.returns-then-r-ne0
returns-then-r-ne0 c = request_held _ _ _ _ c.requires.0 c.if-r-eq0.false c.if-r-ne0.true

pub put_behind-requires : goal.put_behind-requires
put_behind-requires c = first_stackable _ _ _ _ c.requires.0 c.if-r-eq0.false c.requires.1

pub bounds-r-4-2 : goal.bounds-r-4-2
bounds-r-4-2 c = simp length-set (omega (arith, c.requires.0.valid.size, c.put_behind.auto.r))

pub returns : goal.returns
returns c = request_taken _ _ _ _ c.requires.0 c.if-r-eq0.false c.if-r-ne0.false _ (omega (arith, c.requires.0.valid.size, c.put_behind.auto.r)) c.put_behind.ensures
