-- `probing::entry_at` meets its contract: its three words were read one after the other.
use Rattle.probing.proofs.Asking.{entry_is}
use Rattle.probing.proofs.entry_at.Goals as goal

pub returns : goal.returns
returns c =
    entry_is c.args.list.now c.args.i _ _ _ _
    c.word_at-cell.ensures c.word_at-kind.ensures c.word_at-payload.ensures c.update_from.ensures
