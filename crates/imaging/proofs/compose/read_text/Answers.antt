-- `imaging::compose::read_text` meets its contract: the two runs of lines tell.
use native.Mathlib.Omega.{arith}
use Rattle.imaging.proofs.WholeText.{no_cells, no_numbers, text_left, text_of}
use Rattle.imaging.proofs.compose.read_text.Goals as goal

pub returns-then-n-eq0 : goal.returns-then-n-eq0
returns-then-n-eq0 c =
    let g = c.args in
    let cells = c.read_lines-cells in
    let numbers = c.read_lines-devices in
    no_cells g.s.now cells.new.words numbers.new.words _ _ cells.ensures numbers.ensures c.if-n-eq0.true

pub returns-then-d-eq0 : goal.returns-then-d-eq0
returns-then-d-eq0 c =
    let g = c.args in
    let cells = c.read_lines-cells in
    let numbers = c.read_lines-devices in
    no_numbers g.s.now cells.new.words numbers.new.words _ _ cells.ensures numbers.ensures c.if-d-eq0.true

pub returns-then-devices-s : goal.returns-then-devices-s
returns-then-devices-s c =
    let g = c.args in
    let cells = c.read_lines-cells in
    let numbers = c.read_lines-devices in
    text_of g.s.now cells.new.words numbers.new.words _ _ cells.ensures numbers.ensures c.if-n-eq0.false (λ e. omega arith) c.if-devices-s.true

pub returns : goal.returns
returns c =
    let g = c.args in
    let cells = c.read_lines-cells in
    let numbers = c.read_lines-devices in
    text_left g.s.now cells.new.words numbers.new.words _ _ cells.ensures numbers.ensures c.if-devices-s.false
