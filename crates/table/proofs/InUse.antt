-- A call depends on no word but those in use. Assumes nothing.
use mathlib.Core.Path.{◌≡◌, refl, sym, ap, ◌∙◌}
use mathlib.Core.Logic.{⊎_elim}
use mathlib.Core.List.{List}
use Prim.Native.Nat.{ℕ, ◌+◌, ◌*◌, ◌≤◌, ◌<◌}
use native.Mathlib.Omega.{arith}
use lib.ListN.{length, get_or, get_or-eq_default}
use Rattle.cells.specs.declared.Cell.TheVariants.{Blank}
use Rattle.protocol.specs.Machine.{Table, Answer}
use Rattle.sheet.specs.Sheet.{sheet}
use Rattle.sheet.specs.Answer.{meaning, block_meaning}
use Rattle.sheet.proofs.OneAnswer.{same_answer, meaning_one, block_meaning_one}
use Rattle.words.specs.Layout.{TAKEN, RECORD, DEVICES, CELLS, SHEET, RECORDS}
use Rattle.words.specs.Place.{cell_place}
use Rattle.words.proofs.Places.{lt_or_ge, cell_local}
use Rattle.record.specs.Reading.{sheet_at, device_of}
use Rattle.record.specs.Valid.{InUse}
use Rattle.record.proofs.Same.{in_record}
use Rattle.record.proofs.Read.{in_use_back, same_device, same_valid}
use Rattle.queues.specs.Parts.{PlacesAre}
use Rattle.queues.proofs.Parts.{places_kept}
use Rattle.table.specs.Table.{record_at, reading, InTable, ValidTable, IsTable}
use Rattle.table.specs.Promise.{Stepped}
use Rattle.table.specs.Claims.{Agree, OnlyWordsInUse, GivenByWordsInUse, BlockGivenByWordsInUse}
use Rattle.table.proofs.Part.{record_length, record_word}
use Rattle.table.proofs.Tables.{reading_is, valid_from}
use Rattle.record.proofs.Once.{stable}

module _ (xs ys : List ℕ) (A : Agree xs ys) where
  devices_eq : get_or ys DEVICES 0 ≡ get_or xs DEVICES 0
  devices_eq = A.words DEVICES (InTable.header (omega arith))

  cells_eq : get_or ys CELLS 0 ≡ get_or xs CELLS 0
  cells_eq = A.words CELLS (InTable.header (omega arith))

  -- the words in use of a record, as far as they lie in it
  record_same : (d : ℕ) → d < get_or xs DEVICES 0 → (k : ℕ) → k < RECORD → InUse (get_or xs DEVICES 0) (get_or xs CELLS 0) (record_at xs d) k → get_or (record_at ys d) k 0 ≡ get_or (record_at xs d) k 0
  record_same d h k s u = record_word ys d k s ∙ A.words (RECORDS + RECORD * d + k) (InTable.in_record d k h u refl) ∙ sym (record_word xs d k s)

  module _ (X : ValidTable xs) where
    in_use : (d : ℕ) → d < get_or xs DEVICES 0 → (k : ℕ) → InUse (get_or xs DEVICES 0) (get_or xs CELLS 0) (record_at xs d) k → get_or (record_at ys d) k 0 ≡ get_or (record_at xs d) k 0
    in_use d h k u = record_same d h k (in_record (get_or xs DEVICES 0) (get_or xs CELLS 0) (record_at xs d) k X.sizes.devices_to_8 X.sizes.cells_to_64 (X.records d h) u) u

    device_same : (d : ℕ) → d < get_or xs DEVICES 0 → device_of (get_or xs DEVICES 0) (get_or xs CELLS 0) (record_at ys d) ≡ device_of (get_or xs DEVICES 0) (get_or xs CELLS 0) (record_at xs d)
    device_same d h = same_device (get_or xs DEVICES 0) (get_or xs CELLS 0) (record_at xs d) (record_at ys d) (in_use d h) (X.records d h)

    sheet_is : PlacesAre cell_place Blank (get_or xs CELLS 0) ys SHEET (sheet_at (get_or xs CELLS 0) xs SHEET)
    sheet_is = places_kept cell_place cell_local Blank (get_or xs CELLS 0) xs ys SHEET _ (λ i l h. A.words i (InTable.sheet_cell l h)) record { is = refl; valid = X.server }

    taken_same : (d : ℕ) → d < get_or xs DEVICES 0 → get_or (record_at ys d) TAKEN 0 ≡ get_or (record_at xs d) TAKEN 0
    taken_same d h = in_use d h TAKEN (InUse.single (omega arith))

    pub says_same : reading ys ≡ reading xs
    says_same = unfold reading in (reading_is ys _ _ _ devices_eq cells_eq sheet_is (λ d. get_or (record_at xs d) TAKEN 0) (λ d. device_of (get_or xs DEVICES 0) (get_or xs CELLS 0) (record_at xs d)) taken_same device_same)

    valid_same : ValidTable ys
    valid_same =
        let long = A.also_long in
        valid_from ys _ _ _ devices_eq cells_eq sheet_is X.sizes long (λ d h. same_valid (get_or xs DEVICES 0) (get_or xs CELLS 0) (record_at xs d) (record_at ys d) (in_use d h) (X.records d h) (record_length ys d (omega arith)))

  pub also_table : IsTable xs → IsTable ys
  also_table T = record { valid = valid_same T.valid; fits = rw (says_same T.valid) T.fits }

  -- past a record's end nothing is stored, so its words in use stay wherever they lie
  record_same_all : (d : ℕ) → d < get_or xs DEVICES 0 → (k : ℕ) → InUse (get_or xs DEVICES 0) (get_or xs CELLS 0) (record_at xs d) k → get_or (record_at ys d) k 0 ≡ get_or (record_at xs d) k 0
  record_same_all d h k u =
      let a = A.long in
      let b = A.also_long in
      ⊎_elim (λ s. record_same d h k s u) (λ g. past (record_at ys d) k (omega (arith, record_length ys d (omega arith))) ∙ sym (past (record_at xs d) k (omega (arith, record_length xs d (omega arith))))) (lt_or_ge k RECORD)
    where
      past : (l : List ℕ) (k : ℕ) → length l ≤ k → get_or l k 0 ≡ 0
      past l k h = get_or-eq_default l 0 h

  pub agree_back : Agree ys xs
  agree_back =
      let n = devices_eq in
      record { long = rw n A.also_long; also_long = rw n A.long; words = words_back }
    where
      words_back : (i : ℕ) → InTable ys i → get_or xs i 0 ≡ get_or ys i 0
      words_back i (InTable.header h) = sym (A.words i (InTable.header h))
      words_back i (InTable.sheet_cell l h) = sym (A.words i (InTable.sheet_cell l (rw cells_eq at h)))
      words_back i (InTable.in_record d k h u q) =
          let b : d < get_or xs DEVICES 0 = rw devices_eq at h in
          sym (A.words i (InTable.in_record d k b (in_use_back (get_or xs DEVICES 0) (get_or xs CELLS 0) (record_at xs d) (record_at ys d) (record_same_all d b) k (rw (devices_eq, cells_eq) at u)) q))

pub only_words_in_use : OnlyWordsInUse
only_words_in_use s xs ys A = record {
  tables = also_table xs ys A;
  back = also_table ys xs (agree_back xs ys A);
  says = λ T. says_same xs ys A T.valid;
  answers = λ xs' ys' a b S R. stable (same_answer a b) (λ n. n (no_table a b xs' ys' S R (λ T. n (on_table a b xs' ys' S R T))));
  after = λ xs' ys' a b S R T. (R.after (also_table xs ys A T)).says ∙ ap (λ (t : Table sheet). (s t).table) (says_same xs ys A T.valid) ∙ sym (S.after T).says;
}
  where
    on_table : (a b : Answer sheet) (xs' ys' : List ℕ) → Stepped s xs a xs' → Stepped s ys b ys' → IsTable xs → a ≡ b
    on_table a b xs' ys' S R T = (S.answer T ∙ ap (λ (t : Table sheet). (s t).answer) (sym (says_same xs ys A T.valid)) ∙ sym (R.answer (also_table xs ys A T)))

    no_table : (a b : Answer sheet) (xs' ys' : List ℕ) → Stepped s xs a xs' → Stepped s ys b ys' → (IsTable xs → ⊥) → a ≡ b
    no_table a b xs' ys' S R n = ((S.no_table n).number ∙ sym (R.no_table (λ T. n (also_table ys xs (agree_back xs ys A) T))).number)

pub given_by_words_in_use : GivenByWordsInUse
given_by_words_in_use s xs ys A xs' ys' r q S R = meaning_one r q ((only_words_in_use s xs ys A).answers xs' ys' (meaning r) (meaning q) S R)

pub block_given_by_words_in_use : BlockGivenByWordsInUse
block_given_by_words_in_use s xs ys A xs' ys' r q S R =
    block_meaning_one r q ((only_words_in_use s xs ys A).answers xs' ys' (block_meaning r) (block_meaning q) S R)
