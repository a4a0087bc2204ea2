-- An update that is not refused is joined to the open transaction of its device, and what the device reads is updated by it. Assumes nothing.
use mathlib.Core.Path.{◌≡◌, refl, ap, ◌∙◌}
use mathlib.Core.Bool.{true}
use mathlib.Core.Option.{none}
use Prim.Native.Nat.{ℕ, ◌<◌}
use borrow.Author.Tests.{lt-ltb, lt-leb, eq-eqb}
use Rattle.cells.specs.Cells.{updated, applied, change_of}
use Rattle.cells.specs.declared.Change.{Change}
use Rattle.cells.proofs.Laws.{apply_join, apply_change}
use Rattle.protocol.specs.Machine.{Table, Device, step, settle, fine, joined, view, update_at, read_at, update, read, value}
use Rattle.sheet.specs.Changes.{CellUpdate, one_change, refuses_update}
use Rattle.sheet.specs.Sheet.{sheet}

module _ (t : Table sheet) (d : ℕ) (u : CellUpdate) (l : d < t.devices) (n : refuses_update t.cells d (view sheet (t.device d)) u ≡ none) where
  pub joined_to : (step sheet (update d u) t).table ≡ (settle sheet t d true (fine (joined sheet u (t.device d)))).table
  unfolding step update_at
  joined_to = rw (lt-ltb d t.devices l, n) refl

  pub reads_joined : (c : ℕ) → c < t.cells → (step sheet (read d c) (step sheet (update d u) t).table).answer ≡ value (view sheet (joined sheet u (t.device d)) c)
  unfolding step read_at
  reads_joined c h = rw (joined_to, lt-ltb d t.devices l, eq-eqb d d refl, lt-leb t.cells c h) refl

pub one_there : (u : CellUpdate) → one_change u u.cell ≡ change_of u.update
one_there u = rw (eq-eqb u.cell u.cell refl) refl

pub view_updated : (x : Device sheet) (u : CellUpdate) → view sheet (joined sheet u x) u.cell ≡ updated (view sheet x u.cell) u.update
view_updated x u =
    apply_join _ (x.transaction u.cell) (one_change u u.cell)
    ∙ ap (λ (a : Change). applied (view sheet x u.cell) a) (one_there u)
    ∙ apply_change (view sheet x u.cell) u.update
