-- The updates of a good block joined one after the other: where the first i are, and that all of them are the block. Assumes nothing.
use mathlib.Core.Path.{◌≡◌, refl, sym, ap, ◌∙◌, subst}
use mathlib.Core.List.{List, [], ◌∷◌}
use mathlib.Core.Option.{Option, none, some}
use Prim.Native.Nat.{ℕ, suc, ◌+◌, ◌≤◌, ◌<◌}
use native.Mathlib.Omega.{arith}
use lib.ListN.{length, get_or, drop}
use Rattle.cells.specs.declared.Change.{Change}
use Rattle.protocol.specs.declared.Refusal.{Refusal}
use Rattle.protocol.specs.Fits.{Fits}
use Rattle.protocol.specs.Machine.{Answer, Table, Result, at, block_at, done, refused, refused_at, step}
use Rattle.protocol.specs.Machine as machine
use Rattle.protocol.specs.Claims.{join_updates}
use Rattle.std.specs.Prelude.{Err}
use Rattle.sheet.specs.Answer.{block_meaning}
use Rattle.sheet.specs.Sheet.{sheet}
use Rattle.sheet.specs.declared.BlockRefusal.{BlockRefusal}
use Rattle.sheet.specs.declared.BlockRefusal.TheVariants.{Call, Update}
use Rattle.sheet.proofs.OneAnswer.{done_refused}
use Rattle.words.specs.Layout.{DEVICES, CELLS}
use Rattle.table.specs.Table.{reading, InTable, IsTable}
use Rattle.table.specs.Known.{NotKnown}
use Rattle.table.specs.Promise.{Became, Stepped}
use Rattle.table.proofs.Lifted.{not_known, unmoved}
use Rattle.devices.proofs.Steps.{cells_is as header-cells}
use Rattle.block.specs.Block.{update_in, updates_in, refusal_of, by_refusal, first_bad}
use Rattle.block.specs.declared.Entry.{Entry}
use Rattle.block.proofs.Joins.{opened, placed, placed_same, joined_on, block_done, block_refused, update_done, fits_placed, alike_placed}
use Rattle.block.proofs.Looking.{past_end, split, none_left, by_first}
use Rattle.block.proofs.Shape.{in_table}

-- The table t₀ where device d has the open transaction b.
abbrev pub opening : List ℕ → ℕ → (ℕ → Change) → Table sheet
opening t₀ d b = placed d (opened ((reading t₀).device d) b) (reading t₀)

-- The first i updates are joined, which made the words t, and the rest are good.
pub record Joining (t₀ : List ℕ) (d : ℕ) (us : List Entry) (t : List ℕ) (i : ℕ) : Type 0 where
  pub opens : ℕ → Change
  pub became : Became t₀ t (opening t₀ d opens)
  pub good : first_bad (get_or t₀ CELLS 0) i (drop i us) ≡ done
  pub rest : join_updates sheet opens (updates_in (drop i us)) ≡ join_updates sheet ((reading t₀).device d).transaction (updates_in us)

block_at_is : (xs : List ℕ) (d : ℕ) (us : List Entry) → step sheet (machine.block d (updates_in us)) (reading xs) ≡ at sheet (reading xs) d (block_at sheet (reading xs).cells d 0 (updates_in us))
unfolding step
block_at_is xs d us = refl

-- "1 first, then 3"
pub not_known_so : (xs : List ℕ) (d : ℕ) (us : List Entry) (e : Refusal) → NotKnown xs d e → Stepped (step sheet (machine.block d (updates_in us))) xs (refused e) xs
not_known_so xs d us e n = not_known (machine.block d (updates_in us)) (block_at sheet (reading xs).cells d 0 (updates_in us)) xs d (λ _. block_at_is xs d us) e n

-- A bad update is refused with its place.
never_call : (cells i : ℕ) (us : List Entry) (r : Refusal) → first_bad cells i us ≡ refused r → ⊥
never_call cells i [] r e = done_refused done r refl e
never_call cells i (u ∷ us) r e = go (never_call cells (suc i) us r) (refusal_of cells u) e
  where
    go : (first_bad cells (suc i) us ≡ refused r → ⊥) → (o : Option Refusal) → by_refusal o i (first_bad cells (suc i) us) ≡ refused r → ⊥
    go ih none q = ih q
    go ih (some p) q = let z : ◌≡◌ {A = ℕ} 0 1 = cc in absurd (omega arith)

module _ (t₀ : List ℕ) (d : ℕ) (us : List Entry) (T : IsTable t₀) (h : d < get_or t₀ DEVICES 0) where
  abbrev c₀ : ℕ
  c₀ = get_or t₀ CELLS 0

  abbrev entry_at : ℕ → Entry
  entry_at i = get_or us i past_end

  devices_is : (t : List ℕ) → (reading t).devices ≡ get_or t DEVICES 0
  devices_is t = unfold reading in refl

  -- a bad update leaves the table as it is
  pub refused_so : (b : BlockRefusal) → first_bad c₀ 0 us ≡ block_meaning (Err b) → Stepped (step sheet (machine.block d (updates_in us))) t₀ (block_meaning (Err b)) t₀
  refused_so (Call r) e = absurd (never_call c₀ 0 us r e)
  refused_so (Update r k) e = unmoved _ t₀ (refused_at r k) T (block_refused (reading t₀) d (unfold reading in h) us r k (unfold reading in e))

  -- joining begins with the table as it was
  pub begun : first_bad c₀ 0 us ≡ done → Joining t₀ d us t₀ 0
  begun g = record {
    opens = ((reading t₀).device d).transaction;
    became = record { says = sym (placed_same d (reading t₀)); valid = T.valid; kept = λ _ _. refl; size = refl };
    good = g;
    rest = refl;
  }

  module _ (t : List ℕ) (i : ℕ) (J : Joining t₀ d us t i) where
    pub still : IsTable t
    still = record { valid = J.became.valid; fits = subst (Fits sheet) (sym J.became.says) (fits_placed (reading t₀) d J.opens T.fits) }

    devices_same : get_or t DEVICES 0 ≡ get_or t₀ DEVICES 0
    devices_same = sym (devices_is t) ∙ ap (λ (s : Table sheet). s.devices) J.became.says ∙ devices_is t₀

    pub there_still : d < get_or t DEVICES 0
    there_still = let e = devices_same in omega arith

    module _ (l : i < length us) where
      -- the update in place i is good
      this_good : (o : Option Refusal) → refusal_of c₀ (entry_at i) ≡ o → by_refusal o i (first_bad c₀ (i + 1) (drop (i + 1) us)) ≡ done → o ≡ none
      this_good none p e = refl
      this_good (some f) p e = let z : ◌≡◌ {A = ℕ} 0 1 = cc in absurd (omega arith)

      good_here : refusal_of c₀ (entry_at i) ≡ none
      good_here = this_good (refusal_of c₀ (entry_at i)) refl (sym (by_first us c₀ i l) ∙ J.good)

      good_after : first_bad c₀ (i + 1) (drop (i + 1) us) ≡ done
      good_after = sym (ap (λ (o : Option Refusal). by_refusal o i (first_bad c₀ (i + 1) (drop (i + 1) us))) good_here) ∙ sym (by_first us c₀ i l) ∙ J.good

      abbrev next : ℕ → Change
      next = join_updates sheet J.opens (update_in (entry_at i) ∷ [])

      joined_so : join_updates sheet next (updates_in (drop (i + 1) us)) ≡ join_updates sheet ((reading t₀).device d).transaction (updates_in us)
      joined_so = sym (ap (λ (es : List Entry). join_updates sheet J.opens (updates_in es)) (split us i l)) ∙ J.rest

      step_is : step sheet (machine.update d (update_in (entry_at i))) (reading t) ≡ record { answer = machine.done; table = opening t₀ d next }
      step_is =
          ap (step sheet (machine.update d (update_in (entry_at i)))) J.became.says
          ∙ update_done (opening t₀ d J.opens) d (unfold reading in h) (entry_at i) (unfold reading in good_here)
          ∙ (λ k. record { answer = machine.done; table = joined_on d (update_in (entry_at i)) ((reading t₀).device d) J.opens (reading t₀) k })

      module _ (a : Answer sheet) (zs : List ℕ) (S : Stepped (step sheet (machine.update d (update_in (entry_at i)))) t a zs) where
        pub answer_is : a ≡ done
        answer_is = S.answer still ∙ ap (λ (x : Result sheet). x.answer) step_is

        -- no update is refused
        pub never_refused : (r : Refusal) → a ≡ refused r → ⊥
        never_refused r e = done_refused a r answer_is e

        after : Became t zs (opening t₀ d next)
        after = subst (Became t zs) (ap (λ (x : Result sheet). x.table) step_is) (S.after still)

        in_use : (k : ℕ) → InTable t k → InTable zs k
        in_use = in_table t zs J.became.valid after.valid
            (sym (devices_is zs) ∙ ap (λ (s : Table sheet). s.devices) after.says ∙ sym (ap (λ (s : Table sheet). s.devices) J.became.says) ∙ devices_is t)
            (sym (header-cells zs) ∙ ap (λ (s : Table sheet). s.cells) after.says ∙ sym (ap (λ (s : Table sheet). s.cells) J.became.says) ∙ header-cells t)
            (λ e k. rw (J.became.says, after.says) (alike_placed (reading t₀) d J.opens next e))

        pub one_more : Joining t₀ d us zs (i + 1)
        one_more = record {
          opens = next;
          became = record { says = after.says; valid = after.valid; kept = λ k u. after.kept k u ∙ J.became.kept k (λ v. u (in_use k v)); size = after.size ∙ J.became.size };
          good = good_after;
          rest = joined_so;
        }

    -- all are joined
    pub all_joined : length us ≤ i → first_bad c₀ 0 us ≡ done → Stepped (step sheet (machine.block d (updates_in us))) t₀ done t
    all_joined g good =
        let whole = block_done (reading t₀) d (unfold reading in h) us (unfold reading in good) in
        let last : J.opens ≡ join_updates sheet ((reading t₀).device d).transaction (updates_in us) = sym (ap (λ (es : List Entry). join_updates sheet J.opens (updates_in es)) (none_left us i g)) ∙ J.rest in
        record {
          no_table = λ x. absurd (x T);
          answer = λ _. sym (ap (λ (x : Result sheet). x.answer) whole);
          after = λ _. subst (Became t₀ t) (ap (opening t₀ d) last ∙ sym (ap (λ (x : Result sheet). x.table) whole)) J.became;
        }
