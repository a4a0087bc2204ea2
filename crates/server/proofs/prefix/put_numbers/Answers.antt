-- `server::prefix::put_numbers` meets its contract: each turn stores one number more.
use mathlib.Core.Path.{◌≡◌, ap}
use Prim.Native.Nat.{ℕ, ◌+◌}
use Rattle.words.proofs.Places.{numbers_none, numbers_more}
use Rattle.server.proofs.GatherAll.{few, fits}
use Rattle.server.proofs.Prefixes.{taken_word, taken_in_range}
use native.Mathlib.Omega.{arith}
use Rattle.server.proofs.prefix.put_numbers.Goals as goal

pub loop-d-init : goal.loop-d-init
loop-d-init c = numbers_none _ _ _

pub overflow_mul-at : goal.overflow_mul-at
overflow_mul-at c =
    let f = fits _ _ _ c.requires.0 c.loop-d.d c.loop-d-test.true in
    let e = few _ _ _ c.requires.0 c.loop-d.d c.loop-d-test.true in
    omega arith

pub overflow_add-at : goal.overflow_add-at
overflow_add-at c =
    let f = fits _ _ _ c.requires.0 c.loop-d.d c.loop-d-test.true in
    let e = few _ _ _ c.requires.0 c.loop-d.d c.loop-d-test.true in
    omega arith

pub overflow_add-at-in-loop-d : goal.overflow_add-at-in-loop-d
overflow_add-at-in-loop-d c =
    let f = fits _ _ _ c.requires.0 c.loop-d.d c.loop-d-test.true in
    let e = few _ _ _ c.requires.0 c.loop-d.d c.loop-d-test.true in
    omega arith

pub offset_bounds-t-at : goal.offset_bounds-t-at
offset_bounds-t-at c =
    let f = fits _ _ _ c.requires.0 c.loop-d.d c.loop-d-test.true in
    let e = few _ _ _ c.requires.0 c.loop-d.d c.loop-d-test.true in
    omega arith

pub bounds-t-at : goal.bounds-t-at
bounds-t-at c =
    let f = fits _ _ _ c.requires.0 c.loop-d.d c.loop-d-test.true in
    let e = few _ _ _ c.requires.0 c.loop-d.d c.loop-d-test.true in
    omega arith

pub overflow_add-item : goal.overflow_add-item
overflow_add-item c =
    let w = taken_word _ _ _ c.requires.0 c.loop-d.d c.loop-d-test.true in
    let r = taken_in_range _ _ _ c.requires.0 c.loop-d.d c.loop-d-test.true in
    omega arith

pub overflow_add-item-in-loop-d : goal.overflow_add-item-in-loop-d
overflow_add-item-in-loop-d c =
    let f = fits _ _ _ c.requires.0 c.loop-d.d c.loop-d-test.true in
    let e = few _ _ _ c.requires.0 c.loop-d.d c.loop-d-test.true in
    omega arith

pub offset_bounds-item-d : goal.offset_bounds-item-d
offset_bounds-item-d c =
    let f = fits _ _ _ c.requires.0 c.loop-d.d c.loop-d-test.true in
    let e = few _ _ _ c.requires.0 c.loop-d.d c.loop-d-test.true in
    omega arith

pub bounds-item-d : goal.bounds-item-d
bounds-item-d c =
    let f = fits _ _ _ c.requires.0 c.loop-d.d c.loop-d-test.true in
    let e = few _ _ _ c.requires.0 c.loop-d.d c.loop-d-test.true in
    omega arith

pub loop-d-preserved : goal.loop-d-preserved
loop-d-preserved c =
    let T = c.requires.0 in
    let l = c.loop-d in
    let e = few _ _ _ T l.d c.loop-d-test.true in
    numbers_more _ _ _ l.d _ _ l.invariant (omega arith) (ap (λ (n : ℕ). n + 1) (taken_word _ _ _ T l.d c.loop-d-test.true))

pub returns : goal.returns
returns c =
    let l = c.loop-d in
    let e : l.d ≡ c.args.extent.devices = omega arith in
    rw e at l.invariant
