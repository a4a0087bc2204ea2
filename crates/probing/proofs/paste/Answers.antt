-- `probing::paste` meets its contract: the entries are those in the list.
use Rattle.probing.proofs.Asking.{block_is}
use Rattle.probing.proofs.paste.Goals as goal

pub returns : goal.returns
returns c =
    block_is _ _ _ _ _ _ _ _ c.at_most_4.ensures c.entries_in.ensures c.block_of.ensures
