-- A cell of two words: words that are ok and of no other kind are a measured number's, which is finite.
use Rattle.std.proofs.Common.{ap, ◌∙◌}
use Rattle.cells.specs.Finite.{finite}
use Rattle.cells.proofs.Finite.{word_finite}
use Rattle.cells.proofs.StoredForm.{measure_kind}
use Rattle.cells.proofs.stored.CellStored.from_words.Goals as goal

pub returns-in_default-clause-fits : goal.returns-in_default-clause-fits
returns-in_default-clause-fits c =
    let r = c.in_default.in_default-own.rest in
    ap finite c.f64_of_bits.ensures ∙ word_finite c.args.payload ∙ (measure_kind c.args.kind c.args.payload c.requires r.0.1 r.1).0
