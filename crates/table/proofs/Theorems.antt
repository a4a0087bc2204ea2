-- The claims of specs/Claims.antt on the need and the words past it, and on what a table made in a slice takes from it. Assumes nothing.
use mathlib.Core.Path.{◌≡◌, refl, sym, ap, ◌∙◌}
use mathlib.Core.Logic.{◌⊎◌, inl, inr, ⊎_elim}
use mathlib.Core.List.{List}
use Prim.Native.Nat.{ℕ, zero, suc, ◌≤◌, ◌<◌}
use native.Mathlib.Omega.{arith}
use lib.ListN.{get_or, replicate}
use Rattle.protocol.specs.Fits.{Sizes}
use Rattle.protocol.specs.Machine.{Table, done, fresh, Answer}
use Rattle.sheet.specs.Sheet.{sheet, started}
use Rattle.sheet.specs.Answer.{meaning}
use Rattle.sheet.proofs.OneAnswer.{done_refused, meaning_one}
use Rattle.words.specs.Layout.{DEVICES, CELLS}
use Rattle.words.proofs.Places.{lt_or_ge}
use Rattle.record.proofs.Same.{in_record}
use Rattle.table.specs.Table.{record_at, InTable}
use Rattle.table.specs.Promise.{Became}
use Rattle.table.specs.Claims.{AllZeroIsNone, NeedInBytes, NonePastTheNeed, MadeAlike, StartReadsNoWord, StartGivenByNoWord}
use Rattle.table.proofs.Once.{table_words}

pub all_zero_is_none : AllZeroIsNone
all_zero_is_none n T = let z = T.valid.sizes.devices_from_1 in omega (arith, first n)
  where
    first : (n : ℕ) → get_or (replicate {A = ℕ} n 0) DEVICES 0 ≡ 0
    first zero = refl
    first (suc n) = refl

pub need_in_bytes : NeedInBytes
need_in_bytes devices h = omega arith

pub none_past_the_need : NonePastTheNeed
none_past_the_need xs X i h (InTable.header l) = omega arith
none_past_the_need xs X i h (InTable.sheet_cell l u) = let c = X.sizes.cells_to_64 in omega arith
none_past_the_need xs X i h (InTable.in_record d k l u q) =
    let s = in_record (get_or xs DEVICES 0) (get_or xs CELLS 0) (record_at xs d) k X.sizes.devices_to_8 X.sizes.cells_to_64 (X.records d l) u in
    omega arith

-- What makes a table in a slice with room takes nothing from it.
pub made_alike : (t : Table sheet) (xs ys xs' ys' : List ℕ) (a b : Answer sheet) → a ≡ done → b ≡ done → Became xs xs' t → Became ys ys' t → MadeAlike xs xs' ys' a b
made_alike t xs ys xs' ys' a b p q X Y = record {
  answers = (p ∙ sym q);
  words = λ _ i u. sym (table_words xs' ys' X.valid Y.valid (X.says ∙ sym Y.says) i u);
  kept = X.kept;
}

-- Sizes are allowed or not.
pub either_sizes : (devices cells : ℕ) → Sizes devices cells ⊎ (Sizes devices cells → ⊥)
either_sizes devices cells = go (lt_or_ge devices 1) (lt_or_ge 8 devices) (lt_or_ge cells 1) (lt_or_ge 64 cells)
  where
    go : (devices < 1) ⊎ (1 ≤ devices) → (8 < devices) ⊎ (devices ≤ 8) → (cells < 1) ⊎ (1 ≤ cells) → (64 < cells) ⊎ (cells ≤ 64) → Sizes devices cells ⊎ (Sizes devices cells → ⊥)
    go (inl l) b c d = inr (λ z. let q = z.devices_from_1 in omega arith)
    go (inr a) (inl l) c d = inr (λ z. let q = z.devices_to_8 in omega arith)
    go (inr a) (inr b) (inl l) d = inr (λ z. let q = z.cells_from_1 in omega arith)
    go (inr a) (inr b) (inr c) (inl l) = inr (λ z. let q = z.cells_to_64 in omega arith)
    go (inr a) (inr b) (inr c) (inr d) = inl (record { devices_from_1 = a; devices_to_8 = b; cells_from_1 = c; cells_to_64 = d })

pub start_reads_no_word : StartReadsNoWord
start_reads_no_word devices cells xs ys xs' ys' a b h k A B = ⊎_elim
    (λ z. made_alike (fresh sheet (started devices cells)) xs ys xs' ys' a b (A.begun z h).0 (B.begun z k).0 (A.begun z h).1 (B.begun z k).1)
    (λ n. record {
      answers = ((A.outside n).number ∙ sym (B.outside n).number);
      words = λ e. absurd (done_refused _ _ e (A.outside n).number);
      kept = λ i _. ap (λ (l : List ℕ). get_or l i 0) (A.outside n).untouched;
    })
    (either_sizes devices cells)

pub start_given_by_no_word : StartGivenByNoWord
start_given_by_no_word devices cells xs ys xs' ys' r q h k A B =
    meaning_one r q (start_reads_no_word devices cells xs ys xs' ys' (meaning r) (meaning q) h k A B).answers
