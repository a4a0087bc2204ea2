-- `coding::cell::write_cell` meets its contract: what is written for its token.
use mathlib.Core.Path.{sym}
use Rattle.cbor.proofs.Tokens.{wrote_token}
use Rattle.coding.proofs.cell.write_cell.Goals as goal

pub write_token-requires : goal.write_token-requires
write_token-requires c = rw c.cell_token.ensures c.requires.1

pub returns : goal.returns
returns c = wrote_token (sym c.cell_token.ensures) c.write_token.ensures
