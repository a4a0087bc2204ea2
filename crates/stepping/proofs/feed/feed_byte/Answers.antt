-- `stepping::feed::feed_byte` meets its contract: the byte is fed, what it ended is told, and what is left is held.
use mathlib.Core.Path.{sym, subst}
use native.Mathlib.Omega.{arith}
use Rattle.lines.proofs.Held as held
use Rattle.stepping.proofs.Feeding.{within_buffer, byte_put}
use Rattle.stepping.proofs.feed.feed_byte.Goals as goal

pub put_told-next-requires : goal.put_told-next-requires
put_told-next-requires c =
    let f = c.feed-fed in
    (within_buffer f.result f.new.line (omega (arith, f.auto.line)) (subst held.Within (sym f.ensures.0) (held.within_fed _ _)), omega arith)

pub returns : goal.returns
returns c =
    let f = c.feed-fed in
    byte_put _ _ _ _ _ _ _ _ _ _ _ _ f.ensures.0 f.ensures.1 c.held_by-held.ensures c.put_told-next.ensures
