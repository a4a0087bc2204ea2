-- `table::begin::start` meets its contract: it ends in one of three ways.
use mathlib.Core.Path.{refl, ◌∙◌}
use Rattle.sheet.specs.Sheet.{started}
use Rattle.table.proofs.Starts.{start_outside, start_short, start_done, started_is}
use Rattle.table.proofs.begin.start.Goals as goal

pub returns-then-not-are_sizes : goal.returns-then-not-are_sizes
returns-then-not-are_sizes c = start_outside _ _ _ (c.are_sizes.ensures.never (c.if-not-are_sizes.true))

pub returns-then-t-extent : goal.returns-then-t-extent
returns-then-t-extent c =
    let z = c.are_sizes.ensures.sure (c.if-not-are_sizes.false) in
    start_short _ _ _ z c.if-t-extent.true

pub returns : goal.returns
returns c = let z = c.are_sizes.ensures.sure (c.if-not-are_sizes.false) in
    start_done _ _ _ _ z c.if-t-extent.false (started_is (started _ _) _ _ _ (λ k h. refl) (λ k h. refl) z c.if-t-extent.false c.begin_records.auto.t (c.fill.auto.t ∙ c.begin_records.auto.t) c.begin_records.ensures c.fill.ensures)
