-- The words of a table are given by what it says, so a call has one outcome. Assumes nothing.
use mathlib.Core.Path.{◌≡◌, refl, sym, ap, ◌∙◌}
use mathlib.Core.Logic.{⊎_elim}
use mathlib.Core.List.{List, List-discrete}
use Prim.Native.Nat.{ℕ, zero, suc, ◌<◌}
use native.Mathlib.Decide.{ℕ_discrete}
use native.Mathlib.Omega.{arith}
use lib.ListN.{length, get_or}
use Rattle.cells.specs.declared.Cell.TheVariants.{Blank}
use Rattle.protocol.specs.declared.Refusal.{Refusal}
use Rattle.protocol.specs.declared.Refusal.TheVariants.{NoTable, OutsideAllowed, NoStep}
use Rattle.protocol.specs.Machine.{Table, step, Answer}
use Rattle.protocol.specs.Fits.{Sizes}
use Rattle.sheet.specs.Sheet.{sheet}
use Rattle.sheet.specs.Answer.{Given, BlockGiven, meaning, block_meaning}
use Rattle.sheet.proofs.OneAnswer.{same_answer, meaning_one, block_meaning_one}
use Rattle.words.specs.Layout.{TAKEN, RECORD, DEVICES, CELLS, SHEET}
use Rattle.words.specs.Place.{cell_place}
use Rattle.words.proofs.Places.{lt_or_ge}
use Rattle.record.specs.Reading.{sheet_at, device_of}
use Rattle.record.specs.Valid.{ValidRecord}
use Rattle.record.proofs.One.{cell_one, places_words}
use Rattle.record.proofs.OneRecord.{record_words}
use Rattle.record.proofs.Once.{stable, words_once}
use Rattle.record.proofs.Same.{in_record}
use Rattle.table.specs.Table.{need, record_at, reading, InTable, ValidTable, IsTable}
use Rattle.table.specs.Promise.{Became, RefusedWith}
use Rattle.table.specs.Asked.{Asked, no_step, start, machine_step, DoesWith}
use Rattle.table.specs.Claims.{OneOutcome, OneStart, OneOutcomeGiven, OneBlockGiven, OneStartGiven}
use Rattle.table.proofs.Part.{record_word}
use Rattle.table.proofs.Tables.{device_at, taken_at}

module _ (xs ys : List ℕ) (X : ValidTable xs) (Y : ValidTable ys) (e : reading xs ≡ reading ys) where
  devices_eq : get_or ys DEVICES 0 ≡ get_or xs DEVICES 0
  devices_eq = unfold reading in (sym (ap (λ (t : Table sheet). t.devices) e))

  cells_eq : get_or ys CELLS 0 ≡ get_or xs CELLS 0
  cells_eq = unfold reading in (sym (ap (λ (t : Table sheet). t.cells) e))

  sheet_eq : sheet_at (get_or xs CELLS 0) xs SHEET ≡ sheet_at (get_or xs CELLS 0) ys SHEET
  sheet_eq = unfold reading in (ap (λ (t : Table sheet). t.sheet) e) ∙ ap (λ (c : ℕ). sheet_at c ys SHEET) cells_eq

  header_words : (i : ℕ) → i < SHEET → get_or xs i 0 ≡ get_or ys i 0
  header_words zero h = sym devices_eq
  header_words (suc zero) h = sym cells_eq
  header_words (suc (suc i)) h = absurd (omega arith)

  module _ (d : ℕ) (h : d < get_or xs DEVICES 0) where
    there : d < get_or ys DEVICES 0
    there = let q = devices_eq in omega arith

    device_eq : device_of (get_or xs DEVICES 0) (get_or xs CELLS 0) (record_at xs d) ≡ device_of (get_or xs DEVICES 0) (get_or xs CELLS 0) (record_at ys d)
    device_eq = sym (device_at xs d h) ∙ ap (λ (t : Table sheet). t.device d) e ∙ device_at ys d there ∙ (λ i. device_of (devices_eq i) (cells_eq i) (record_at ys d))

    taken_eq : get_or (record_at xs d) TAKEN 0 ≡ get_or (record_at ys d) TAKEN 0
    taken_eq = sym (taken_at xs d h) ∙ ap (λ (t : Table sheet). t.taken d) e ∙ taken_at ys d there

    record_valid : ValidRecord (get_or xs DEVICES 0) (get_or xs CELLS 0) (record_at ys d)
    record_valid = rw (devices_eq, cells_eq) at (Y.records d there)

  -- the words in use of two tables that say the same
  pub table_words : (i : ℕ) → InTable xs i → get_or xs i 0 ≡ get_or ys i 0
  table_words i (InTable.header h) = header_words i h
  table_words i (InTable.sheet_cell l h) = places_words cell_place cell_one Blank (get_or xs CELLS 0) xs ys SHEET X.server (rw cells_eq at Y.server) sheet_eq i l h
  table_words i (InTable.in_record d k h u q) =
      let long = X.long in
      let s : k < RECORD = in_record (get_or xs DEVICES 0) (get_or xs CELLS 0) (record_at xs d) k X.sizes.devices_to_8 X.sizes.cells_to_64 (X.records d h) u in
      rw q (sym (record_word xs d k s) ∙ record_words (get_or xs DEVICES 0) (get_or xs CELLS 0) (record_at xs d) (record_at ys d) (X.records d h) (record_valid d h) (taken_eq d h) (device_eq d h) k u ∙ record_word ys d k s)

-- Words that became the same table are the same words.
pub became_once : (xs ys zs : List ℕ) (t : Table sheet) → Became xs ys t → Became xs zs t → ys ≡ zs
became_once xs ys zs t A B = words_once xs ys zs (InTable ys) (InTable zs) (A.size ∙ sym B.size)
    (table_words ys zs A.valid B.valid says)
    (table_words zs ys B.valid A.valid (sym says))
    A.kept
    B.kept
  where
    says : reading ys ≡ reading zs
    says = A.says ∙ sym B.says

-- Words that became what they said are as they were.
pub became_same : (xs ys : List ℕ) (t : Table sheet) → IsTable xs → Became xs ys t → t ≡ reading xs → ys ≡ xs
became_same xs ys t T B e = became_once xs ys xs t B record { says = sym e; valid = T.valid; kept = λ _ _. refl; size = refl }

-- Two refusals of the same number.
pub refused_once : (r : Refusal) (xs ys zs : List ℕ) (a b : Answer sheet) → RefusedWith r xs a ys → RefusedWith r xs b zs → (a ≡ b) × (ys ≡ zs)
refused_once r xs ys zs a b A B = (A.number ∙ sym B.number, A.untouched ∙ sym B.untouched)

-- What holds in either case holds, where it is an equation of answers and of words.
pub either_way : (P : Type 0) (a b : Answer sheet) (ys zs : List ℕ) → (P → (a ≡ b) × (ys ≡ zs)) → ((P → ⊥) → (a ≡ b) × (ys ≡ zs)) → (a ≡ b) × (ys ≡ zs)
either_way P a b ys zs f g = (
  stable (same_answer a b) (λ n. n (g (λ p. n (f p).0)).0),
  stable (List-discrete ℕ_discrete ys zs) (λ n. n (g (λ p. n (f p).1)).1),
)

pub one_outcome : OneOutcome
one_outcome s xs ys zs a b A B = either_way (IsTable xs) a b ys zs
    (λ T. (A.answer T ∙ sym (B.answer T), became_once xs ys zs _ (A.after T) (B.after T)))
    (λ n. refused_once NoTable xs ys zs a b (A.no_table n) (B.no_table n))

pub one_start : OneStart
one_start devices cells xs ys zs a b A B = either_way (Sizes devices cells) a b ys zs
    (λ z. ⊎_elim (λ l. refused_once NoTable xs ys zs a b (A.short z l) (B.short z l)) (λ g. ((A.begun z g).0 ∙ sym (B.begun z g).0, became_once xs ys zs _ (A.begun z g).1 (B.begun z g).1)) (lt_or_ge (length xs) (need devices)))
    (λ n. refused_once OutsideAllowed xs ys zs a b (A.outside n) (B.outside n))

-- One answer of the machine is one result.
pub given_once : (r q : Given) (ys zs : List ℕ) → (meaning r ≡ meaning q) × (ys ≡ zs) → (r ≡ q) × (ys ≡ zs)
given_once r q ys zs o = (meaning_one r q o.0, o.1)

pub block_given_once : (r q : BlockGiven) (ys zs : List ℕ) → (block_meaning r ≡ block_meaning q) × (ys ≡ zs) → (r ≡ q) × (ys ≡ zs)
block_given_once r q ys zs o = (block_meaning_one r q o.0, o.1)

pub one_outcome_given : OneOutcomeGiven
one_outcome_given s xs ys zs r q A B = given_once r q ys zs (one_outcome s xs ys zs (meaning r) (meaning q) A B)

pub one_block_given : OneBlockGiven
one_block_given s xs ys zs r q A B = block_given_once r q ys zs (one_outcome s xs ys zs (block_meaning r) (block_meaning q) A B)

pub one_start_given : OneStartGiven
one_start_given devices cells xs ys zs r q A B = given_once r q ys zs (one_start devices cells xs ys zs (meaning r) (meaning q) A B)

-- What was asked has one outcome, where a start has one.
pub does_once : (Begins : (devices cells : ℕ) (xs : List ℕ) → Answer sheet → (ys : List ℕ) → Type 0) → (xs ys zs : List ℕ) (a b : Answer sheet) → ((devices cells : ℕ) → Begins devices cells xs a ys → Begins devices cells xs b zs → (a ≡ b) × (ys ≡ zs)) → (k : Asked) → DoesWith Begins k xs a ys → DoesWith Begins k xs b zs → (a ≡ b) × (ys ≡ zs)
does_once Begins xs ys zs a b one no_step A B = refused_once NoStep xs ys zs a b A B
does_once Begins xs ys zs a b one (start devices cells) A B = one devices cells A B
does_once Begins xs ys zs a b one (machine_step m) A B = one_outcome (step sheet m) xs ys zs a b A B
