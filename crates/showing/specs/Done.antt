-- Document 01's answer `done`, told from every other. Assumes nothing.
use Rattle.std.specs.Prelude.{Bool, true, false}
use Rattle.protocol.specs.Machine.{Answer, done, value, says_yes, says_no, moved, length_is, refused, refused_at}
use Rattle.sheet.specs.Sheet.{sheet}

abbrev pub is_done : Answer sheet → Bool
is_done done = true
is_done (value c) = false
is_done says_yes = false
is_done says_no = false
is_done (moved k) = false
is_done (length_is k) = false
is_done (refused r) = false
is_done (refused_at r k) = false
