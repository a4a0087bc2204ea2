-- The protocol's claims at sheets of cells, each proved. Assumes nothing.
use mathlib.Core.Path.{◌≡◌, refl, sym, ap, ◌∙◌}
use mathlib.Core.Logic.{◌⊎◌, inl, inr}
use mathlib.Core.Bool.{false}
use mathlib.Core.Option.{some}
use Prim.Native.Nat.{ℕ, ◌≤◌, ◌<◌}
use Rattle.cells.specs.declared.Cell.{Cell}
use Rattle.cells.specs.declared.Update.{Update}
use Rattle.protocol.specs.declared.Refusal.{Refusal}
use Rattle.protocol.specs.declared.Refusal.TheVariants.{NoDevice, NoCell, NotFinite}
use Rattle.protocol.specs.Machine.{view, update, value, refused}
use Rattle.protocol.specs.History.{table_after, history_after}
use Rattle.protocol.specs.Refusals.{Answers, RefusedExactlyWhen}
use Rattle.protocol.specs.Claims.{Demand3, PushesNumbered, Demand3Onward, Reconnected, RefusalChangesNothing, MovedShrinks, ReachedFits}
use Rattle.protocol.proofs.Theorem as Protocol
use Rattle.sheet.specs.Changes.{CellUpdate, idle_below, refuses_update}
use Rattle.cells.specs.Stored.{update_finite}
use Rattle.sheet.specs.Sheet.{sheet}
use Rattle.sheet.specs.Claims.{ConfirmedNothingOpen, UpdateRefusedWhen, SetIsRead}
use Rattle.sheet.proofs.Laws.{sheet_laws}
use Rattle.sheet.proofs.Updates.{no_cell, not_finite, not_refused, never_device, cell≢device, finite≢device}
use Rattle.sheet.proofs.OpenEdits.{reads_joined, view_updated}
use Rattle.sheet.proofs.NeverLost.{nothing_lost}

pub demand_3 : Demand3 sheet
demand_3 = Protocol.demand_3 sheet sheet_laws

pub pushes_numbered : PushesNumbered sheet
pushes_numbered = Protocol.pushes_numbered sheet sheet_laws

pub demand_3_onward : Demand3Onward sheet
demand_3_onward = Protocol.demand_3_onward sheet sheet_laws

pub reconnected : Reconnected sheet
reconnected = Protocol.reconnected sheet sheet_laws

pub refused_exactly_when : RefusedExactlyWhen sheet
refused_exactly_when = Protocol.refused_exactly_when sheet

pub refusal_changes_nothing : RefusalChangesNothing sheet
refusal_changes_nothing = Protocol.refusal_changes_nothing sheet

pub moved_is_shrinking : MovedShrinks sheet
moved_is_shrinking = Protocol.moved_is_shrinking sheet

pub reached_fits : ReachedFits sheet
reached_fits = Protocol.reached_fits sheet sheet_laws

pub confirmed_nothing_open : ConfirmedNothingOpen
confirmed_nothing_open b steps d l e =
    let t = table_after sheet b steps in
    let x = (demand_3 b steps).device d l in
    nothing_lost t.cells d ((history_after sheet b steps).past d).edits x.open_allowed (ap (idle_below t.cells) (sym x.open_is) ∙ ((refused_exactly_when t d).confirmed_yes.0 e).3)

pub update_refused_when : UpdateRefusedWhen
update_refused_when t d u =
    record {
      update_3 = (λ e. device_first ((answers NoDevice).0 e), λ l. (answers NoDevice).1 (inl (l, refl)));
      update_4 = (λ e. of_cell ((answers NoCell).0 e), λ l. (answers NoCell).1 (inr (l.0, (no_cell t.cells d s u).1 l.1)));
      update_5 = (λ e. of_number ((answers NotFinite).0 e), λ l. (answers NotFinite).1 (inr (l.0, (not_finite t.cells d s u).1 (l.1, l.2))));
      update_done =
          let i = (refused_exactly_when t d).update_done u in
          let f = not_refused t.cells d s u in
          (λ e. ((i.0 e).0, (f.0 (i.0 e).1).0, (f.0 (i.0 e).1).1), λ l. i.1 (l.0, f.1 (l.1, l.2)));
    }
  where
    s : ℕ → Cell
    s = view sheet (t.device d)

    answers : (r : Refusal) → Answers sheet t (update d u) (refused r) (((t.devices ≤ d) × (r ≡ NoDevice)) ⊎ ((d < t.devices) × (refuses_update t.cells d s u ≡ some r)))
    answers r = (refused_exactly_when t d).update_refused u r

    device_first : ((t.devices ≤ d) × (NoDevice ≡ NoDevice)) ⊎ ((d < t.devices) × (refuses_update t.cells d s u ≡ some NoDevice)) → t.devices ≤ d
    device_first (inl p) = p.0
    device_first (inr p) = absurd (never_device t.cells d s u p.1)

    of_cell : ((t.devices ≤ d) × (NoCell ≡ NoDevice)) ⊎ ((d < t.devices) × (refuses_update t.cells d s u ≡ some NoCell)) → (d < t.devices) × (t.cells ≤ u.cell)
    of_cell (inl p) = absurd (cell≢device p.1)
    of_cell (inr p) = (p.0, (no_cell t.cells d s u).0 p.1)

    of_number : ((t.devices ≤ d) × (NotFinite ≡ NoDevice)) ⊎ ((d < t.devices) × (refuses_update t.cells d s u ≡ some NotFinite)) → (d < t.devices) × (u.cell < t.cells) × (update_finite u.update ≡ false)
    of_number (inl p) = absurd (finite≢device p.1)
    of_number (inr p) =
        let f = (not_finite t.cells d s u).0 p.1 in
        (p.0, f.0, f.1)

pub set_is_read : SetIsRead
set_is_read t d c v l h f =
    let u : CellUpdate = record { cell = c; update = Update.Set v } in
    let n = (not_refused t.cells d (view sheet (t.device d)) u).1 (h, f) in
    record { set = ((refused_exactly_when t d).update_done u).1 (l, n); is_read = reads_joined t d u l n c h ∙ ap value (view_updated (t.device d) u) }
