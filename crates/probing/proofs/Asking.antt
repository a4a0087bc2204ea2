-- A call by its number. Assumes nothing.
use mathlib.Core.Path.{◌≡◌, refl, sym, ap, subst, ◌∙◌}
use mathlib.Core.List.{List, [], ◌∷◌}
use Prim.Native.Nat.{ℕ, zero, suc, ◌+◌, ◌≤◌}
use native.Mathlib.Omega.{arith}
use mir.Syntax.{w64}
use mir.Val.{to_z}
use lib.ListN.{length, get_or, take}
use Rattle.cells.specs.declared.Update.{Update}
use Rattle.protocol.specs.declared.Refusal.TheVariants.{NoStep}
use Rattle.protocol.specs.Machine.{step, Answer, refused}
use Rattle.protocol.specs.Machine as machine
use Rattle.sheet.specs.Sheet.{sheet}
use Rattle.device.specs.Named.{update_of}
use Rattle.table.specs.Promise.{Stepped, Started}
use Rattle.table.specs.Asked.{Asked, no_step, DoesWith}
use Rattle.block.specs.Block.{updates_in}
use Rattle.block.specs.declared.Entry.{Entry}
use Rattle.probing.specs.Probe.{update_from, entry_at, calls, numbered, Probed}

-- a number that a match has told
pub probed_as : (call told a b : ℕ) (u : Update) (ws xs : List ℕ) (r : Answer sheet) (ys : List ℕ) → call ≡ told → DoesWith Started (numbered (calls a b u ws) told) xs r ys → Probed call a b u ws xs r ys
probed_as call told a b u ws xs r ys e h = record { holds = subst (λ (n : ℕ). DoesWith Started (numbered (calls a b u ws) n) xs r ys) (sym e) h }

-- past the last number there is no step
pub numbered_past : (qs : List Asked) (n : ℕ) → length qs ≤ n → numbered qs n ≡ no_step
numbered_past [] n h = refl
numbered_past (q ∷ qs) zero h = absurd (omega arith)
numbered_past (q ∷ qs) (suc n) h = numbered_past qs n (omega arith)

pub refused_past : (call a b : ℕ) (u : Update) (ws xs : List ℕ) → 16 ≤ call → Probed call a b u ws xs (refused NoStep) xs
refused_past call a b u ws xs h =
    record { holds = subst (λ (q : Asked). DoesWith Started q xs (refused NoStep) xs) (sym (numbered_past (calls a b u ws) call h)) (record { number = refl; untouched = refl }) }

-- a kind but 1, 2 and 3 adds
pub adds : (k p : ℕ) → (k ≡ 1 → ⊥) → (k ≡ 2 → ⊥) → (k ≡ 3 → ⊥) → update_from k p ≡ Update.Add (to_z w64 p)
adds zero p a b c = refl
adds (suc zero) p a b c = absurd (a refl)
adds (suc (suc zero)) p a b c = absurd (b refl)
adds (suc (suc (suc zero))) p a b c = absurd (c refl)
adds (suc (suc (suc (suc k)))) p a b c = refl

-- an entry of three words that were read
pub entry_is : (ws : List ℕ) (i cell kind payload : ℕ) (u : Update) → cell ≡ get_or ws i 0 → kind ≡ get_or ws (i + 1) 0 → payload ≡ get_or ws (i + 2) 0 → u ≡ update_from kind payload → Path Entry (record { cell = cell; update = u }) (entry_at ws i)
entry_is ws i cell kind payload u a b c e =
    let v = e ∙ ap (λ (k : ℕ). update_from k payload) b ∙ ap (λ (p : ℕ). update_from (get_or ws (i + 1) 0) p) c in
    λ j. record { cell = a j; update = v j }

-- a block of the entries that were read
pub block_is : (d k n : ℕ) (es fs : List Entry) (xs : List ℕ) (r : Answer sheet) (ys : List ℕ) → k ≡ n → es ≡ fs → Stepped (step sheet (machine.block d (updates_in (take k es)))) xs r ys → Stepped (step sheet (machine.block d (updates_in (take n fs)))) xs r ys
block_is d k n es fs xs r ys e f h =
    subst (λ (gs : List Entry). Stepped (step sheet (machine.block d (updates_in gs))) xs r ys) (ap (λ (m : ℕ). take m es) e ∙ ap (take n) f) h

-- an update that was made of its kind and payload
pub update_as : (d cell : ℕ) (u v : Update) (xs : List ℕ) (r : Answer sheet) (ys : List ℕ) → u ≡ v → Stepped (step sheet (machine.update d (update_of cell u))) xs r ys → Stepped (step sheet (machine.update d (update_of cell v))) xs r ys
update_as d cell u v xs r ys e h = subst (λ (w : Update). Stepped (step sheet (machine.update d (update_of cell w))) xs r ys) e h
