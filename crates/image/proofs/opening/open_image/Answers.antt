-- `image::opening::open_image` meets its contract: what the bytes decode to makes the table.
use native.Mathlib.Omega.{arith}
use Rattle.image.proofs.Opens.{allowed_sizes, opened_image, opened_none}
use Rattle.image.proofs.opening.open_image.Goals as goal

pub returns-in_default : goal.returns-in_default
returns-in_default c = opened_none _ _ c.in_default.ensures

pub make_table-requires : goal.make_table-requires
make_table-requires c =
    let d = c.decode in
    let I = c.in-Some.ensures in
    (allowed_sizes _ _ _ _ I.allowed, omega (arith, d.auto.numbers, (allowed_sizes _ _ _ _ I.allowed).devices_to_8), record { room = omega (arith, d.auto.words, (allowed_sizes _ _ _ _ I.allowed).cells_to_64); valid = I.valid })

pub returns : goal.returns
returns c = opened_image _ _ _ _ _ _ _ _ c.in-Some.ensures c.make_table.ensures
