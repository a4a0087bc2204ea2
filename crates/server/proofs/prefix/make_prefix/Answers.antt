-- `server::prefix::make_prefix` meets its contract: what it makes of the words is the law's.
use Rattle.server.proofs.Prefixes.{sheet_ready, prefix_is}
use native.Mathlib.Omega.{arith}
use Rattle.server.proofs.prefix.make_prefix.Goals as goal

pub copy_from-requires : goal.copy_from-requires
copy_from-requires c = sheet_ready _ _ _ _ c.requires.0 (omega arith)

pub returns : goal.returns
returns c = prefix_is _ _ _ c.requires.0 _ _ _ c.put_numbers.ensures c.copy_from.ensures (omega arith)
