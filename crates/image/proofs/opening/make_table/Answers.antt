-- `image::opening::make_table` meets its contract: it ends in one of two ways.
use mathlib.Core.Path.{◌∙◌}
use Rattle.image.proofs.Opens.{makes_short, makes_table}
use Rattle.image.proofs.opening.make_table.Goals as goal

pub returns-then-t-extent : goal.returns-then-t-extent
returns-then-t-extent c = let g = c.args in makes_short g.sheet.now g.numbers.now _ _ _ c.if-t-extent.true

pub returns : goal.returns
returns c =
    let b = c.begin_records in
    let f = c.copy_from in
    let g = c.args in
    makes_table g.sheet.now g.numbers.now _ _ _ _ _ c.requires.0 c.if-t-extent.false b.auto.t (f.auto.t ∙ b.auto.t) b.ensures f.ensures
