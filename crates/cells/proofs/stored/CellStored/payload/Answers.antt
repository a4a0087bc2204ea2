-- A cell's second word: the words of a value that fits are its own.
use Rattle.std.proofs.Common.{◌∙◌, rules}
use Rattle.cells.proofs.Words.{passed_word}
use Rattle.cells.proofs.Ranges.{cell_fits}
use Rattle.cells.proofs.StoredForm.{cell_words, cell_back}
use Rattle.cells.proofs.stored.CellStored.payload.Goals as goal

pub returns-in-Count-clause-is : goal.returns-in-Count-clause-is
returns-in-Count-clause-is c = rw c.in-Count.is (c.bits_of_i64.ensures ∙ passed_word (search rules))

pub returns-in-Count-clause-ok : goal.returns-in-Count-clause-ok
returns-in-Count-clause-ok c = cell_words c.args.self (cell_fits c.args.self _ c.well_formed.0) c.requires

pub returns-in-Count-clause-back : goal.returns-in-Count-clause-back
returns-in-Count-clause-back c = cell_back c.args.self (cell_fits c.args.self _ c.well_formed.0)

pub returns-in-Measure-clause-ok : goal.returns-in-Measure-clause-ok
returns-in-Measure-clause-ok c = cell_words c.args.self (cell_fits c.args.self _ c.well_formed.0) c.requires

pub returns-in-Measure-clause-back : goal.returns-in-Measure-clause-back
returns-in-Measure-clause-back c = cell_back c.args.self (cell_fits c.args.self _ c.well_formed.0)
