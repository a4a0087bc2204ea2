-- `image::element::Element::put` of a cell meets its contract: the words before it stay.
use Rattle.image.proofs.Runs.{cell_appended}
use Rattle.image.proofs.element.CellElement.put.Goals as goal

pub returns : goal.returns
returns c = cell_appended _ _ _ _ c.put.ensures
