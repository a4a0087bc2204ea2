-- "on every input, refused or not": a call by its number, with numbers for its arguments, as a test sends it. Assumes nothing.
use Rattle.std.specs.Prelude.{◌≡◌, false, List, [], ◌∷◌, ℕ, zero, suc, ◌+◌, min, Float, get_or, take}
use Rattle.std.specs.Float.{binary64, inf}
use Rattle.std.specs.Float.Ieee.{of_bits}
use Rattle.std.specs.Int.{w64}
use Rattle.std.proofs.Common.{to_z}
use Rattle.cells.specs.Finite.{finite_word}
use Rattle.cells.specs.declared.Cell.TheVariants.{Blank, Count, Measure}
use Rattle.cells.specs.declared.Update.{Update}
use Rattle.protocol.specs.Machine.{choose, Answer}
use Rattle.protocol.specs.Machine as machine
use Rattle.sheet.specs.Sheet.{sheet}
use Rattle.sheet.specs.Answer.{BlockGiven, block_meaning}
use Rattle.device.specs.Named.{update_of}
use Rattle.table.specs.Promise.{Started}
use Rattle.table.specs.Asked.{Asked, no_step, start, machine_step, DoesWith}
use Rattle.block.specs.Block.{updates_in}
use Rattle.block.specs.declared.Entry.{Entry}

-- The measured number of a word. A word that is no finite number's stands for infinity, which no call takes.
unfoldable pub measured_from : ℕ → Float
measured_from p = choose (finite_word p) (of_bits binary64 p) (inf false)

-- The update of two words, with a change's kinds: 1 to 3 set a blank, a count, a measured number; any other adds.
abbrev pub update_from : (kind payload : ℕ) → Update
update_from zero p = Update.Add (to_z w64 p)
update_from (suc zero) p = Update.Set Blank
update_from (suc (suc zero)) p = Update.Set (Count (to_z w64 p))
update_from (suc (suc (suc zero))) p = Update.Set (Measure (measured_from p))
update_from (suc (suc (suc (suc k)))) p = Update.Add (to_z w64 p)

-- An entry of a block stands in three words of the list, its cell, its kind and its payload; past the end there are zeros.
abbrev pub entry_at : List ℕ → ℕ → Entry
entry_at ws i = record { cell = get_or ws i 0; update = update_from (get_or ws (i + 1) 0) (get_or ws (i + 2) 0) }

abbrev pub entries_in : List ℕ → List Entry
entries_in ws = entry_at ws 0 ∷ entry_at ws 3 ∷ entry_at ws 6 ∷ entry_at ws 9 ∷ []

-- The calls in the order of their numbers, from 0.
abbrev pub calls : (a b : ℕ) → Update → List ℕ → List Asked
calls a b u ws =
    start a b ∷
    machine_step (machine.update a (update_of b u)) ∷
    machine_step (machine.read a b) ∷
    machine_step (machine.push a) ∷
    machine_step (machine.send a) ∷
    machine_step (machine.confirmed a) ∷
    machine_step (machine.ask a) ∷
    machine_step (machine.drop_channel a) ∷
    machine_step (machine.receive a) ∷
    machine_step (machine.pull a) ∷
    machine_step (machine.accept a) ∷
    machine_step (machine.serverdrop a) ∷
    machine_step machine.crash ∷
    machine_step (machine.batch ws) ∷
    machine_step (machine.cut ws a) ∷
    machine_step (machine.block a (updates_in (take (min b 4) (entries_in ws)))) ∷ []

-- A number past the last is no step.
abbrev pub numbered : List Asked → ℕ → Asked
numbered [] n = no_step
numbered (q ∷ qs) zero = q
numbered (q ∷ qs) (suc n) = numbered qs n

-- The promise of the call of a number. a and b are its numbers: devices and cells, a device and a cell, a device and how many entries, a reach.
pub record Probed (call a b : ℕ) (u : Update) (ws xs : List ℕ) (r : Answer sheet) (ys : List ℕ) : Type 0 where
  pub holds : DoesWith Started (numbered (calls a b u ws) call) xs r ys

-- No second outcome fits, whatever the number, the arguments and the words.
abbrev pub OneProbe : Type 0
OneProbe = (call a b : ℕ) (u : Update) (ws xs : List ℕ) (r s : Answer sheet) (ys zs : List ℕ) → Probed call a b u ws xs r ys → Probed call a b u ws xs s zs → (r ≡ s) × (ys ≡ zs)

-- The same of what it gives.
abbrev pub OneProbeGiven : Type 0
OneProbeGiven = (call a b : ℕ) (u : Update) (ws xs : List ℕ) (r q : BlockGiven) (ys zs : List ℕ)
    → Probed call a b u ws xs (block_meaning r) ys → Probed call a b u ws xs (block_meaning q) zs → (r ≡ q) × (ys ≡ zs)
