-- A change's second word: the words of a value that fits are its own.
use Rattle.std.proofs.Common.{◌∙◌, rules}
use Rattle.cells.proofs.Words.{passed_word}
use Rattle.cells.proofs.Ranges.{change_fits}
use Rattle.cells.proofs.StoredForm.{change_words, change_back}
use Rattle.cells.proofs.stored.ChangeStored.payload.Goals as goal

pub returns-in-Add-clause-is : goal.returns-in-Add-clause-is
returns-in-Add-clause-is c = rw c.in-Add.is (c.bits_of_i64.ensures ∙ passed_word (search rules))

pub returns-in-Add-clause-ok : goal.returns-in-Add-clause-ok
returns-in-Add-clause-ok c = change_words c.args.self (change_fits c.args.self _ c.well_formed.0) c.requires

pub returns-in-Add-clause-back : goal.returns-in-Add-clause-back
returns-in-Add-clause-back c = change_back c.args.self (change_fits c.args.self _ c.well_formed.0)
