-- A device's record as a part of the table, and a list with such a part replaced. Assumes nothing.
use mathlib.Core.Path.{◌≡◌, sym, ap, ◌∙◌}
use mathlib.Core.Logic.{⊎_elim}
use mathlib.Core.List.{List, ◌++◌}
use Prim.Native.Nat.{ℕ, ◌+◌, ◌*◌, ◌-◌, ◌≤◌, ◌<◌}
use native.Mathlib.Omega.{arith}
use lib.ListN.{length, get_or, take, drop, length-append, length-drop, get_or-append}
use lib.Seq.{length-take-le, get_or-take, get_or-drop, get_or-append-add, take_at, drop_at, ext_get_or}
use borrow.Rule.Slice.PartMut.{put_mid, post_of}
use Rattle.words.specs.Layout.{RECORD, RECORDS}
use Rattle.words.specs.Place.{Out}
use Rattle.words.proofs.Places.{lt_or_ge}
use Rattle.table.specs.Table.{record_at}

-- The part from RECORDS + RECORD * d on that the code lends.
pub part_is : (xs : List ℕ) (d : ℕ) → take (RECORDS + RECORD * d + RECORD - (RECORDS + RECORD * d)) (drop (RECORDS + RECORD * d) xs) ≡ record_at xs d
unfolding record_at
part_is xs d =
    let e : RECORDS + RECORD * d + RECORD - (RECORDS + RECORD * d) ≡ RECORD = omega arith in
    ap (λ (k : ℕ). take k (drop (RECORDS + RECORD * d) xs)) e

pub record_length : (xs : List ℕ) (d : ℕ) → RECORDS + RECORD * d + RECORD ≤ length xs → length (record_at xs d) ≡ RECORD
unfolding record_at
record_length xs d h = length-take-le RECORD (drop (RECORDS + RECORD * d) xs) (rw (length-drop (RECORDS + RECORD * d) xs) (omega arith))

pub part_length : (xs : List ℕ) (d : ℕ) → RECORDS + RECORD * d + RECORD ≤ length xs → length (take (RECORDS + RECORD * d + RECORD - (RECORDS + RECORD * d)) (drop (RECORDS + RECORD * d) xs)) ≡ RECORD
part_length xs d h = ap length (part_is xs d) ∙ record_length xs d h

pub record_word : (xs : List ℕ) (d i : ℕ) → i < RECORD → get_or (record_at xs d) i 0 ≡ get_or xs (RECORDS + RECORD * d + i) 0
unfolding record_at
record_word xs d i h = get_or-take RECORD (drop (RECORDS + RECORD * d) xs) i 0 h ∙ get_or-drop (RECORDS + RECORD * d) xs i 0

-- Two tables with the same words in a record have the same record.
pub record_same : (xs ys : List ℕ) (d : ℕ) → RECORDS + RECORD * d + RECORD ≤ length xs → length ys ≡ length xs → ((i : ℕ) → i < RECORD → get_or ys (RECORDS + RECORD * d + i) 0 ≡ get_or xs (RECORDS + RECORD * d + i) 0) → record_at ys d ≡ record_at xs d
record_same xs ys d h l S =
    let p = record_length ys d (omega arith) in
    let q = record_length xs d h in
    ext_get_or 0 (record_at ys d) (record_at xs d) (p ∙ sym q) (λ i b. record_word ys d i (omega arith) ∙ S i (omega arith) ∙ sym (record_word xs d i (omega arith)))

-- A list with k elements from a on replaced by rs.
module _ (xs rs : List ℕ) (a k : ℕ) (fits : a + k ≤ length xs) (size : length rs ≡ k) where
  head_length : length (take a xs) ≡ a
  head_length = length-take-le a xs (omega arith)

  pub put_out : (i : ℕ) → Out a k i → get_or (put_mid a k xs rs) i 0 ≡ get_or xs i 0
  put_out i o = ⊎_elim
      (λ l. let hl = head_length in get_or-append (take a xs) (rs ++ post_of a k xs) 0 i (omega arith) ∙ get_or-take a xs i 0 l)
      (λ g. ⊎_elim (λ l. absurd (o g l)) (λ b. past b) (lt_or_ge i (a + k))) (lt_or_ge i a)
    where
      past : a + k ≤ i → get_or (put_mid a k xs rs) i 0 ≡ get_or xs i 0
      past b =
          let m : ℕ = i - a - k in
          let e : i ≡ a + (k + m) = omega arith in
          ap (λ (n : ℕ). get_or (put_mid a k xs rs) n 0) e
          ∙ ap (λ (n : ℕ). get_or (put_mid a k xs rs) (n + (k + m)) 0) (sym head_length) ∙ get_or-append-add (take a xs) (rs ++ post_of a k xs) (k + m) 0
          ∙ ap (λ (n : ℕ). get_or (rs ++ post_of a k xs) (n + m) 0) (sym size) ∙ get_or-append-add rs (post_of a k xs) m 0
          ∙ get_or-drop k (drop a xs) m 0 ∙ get_or-drop a xs (k + m) 0 ∙ ap (λ (n : ℕ). get_or xs n 0) (sym e)

  pub put_length : length (put_mid a k xs rs) ≡ length xs
  put_length =
      let hl = head_length in
      let p = length-append (take a xs) (rs ++ post_of a k xs) in
      let q = length-append rs (post_of a k xs) in
      let r = length-drop k (drop a xs) in
      let s = length-drop a xs in
      omega arith

  pub put_mid_part : take k (drop a (put_mid a k xs rs)) ≡ rs
  put_mid_part = ap (take k) (drop_at (take a xs) (rs ++ post_of a k xs) a head_length) ∙ take_at rs (post_of a k xs) k size

-- A table with the record of device d replaced: that one is new, every other word is kept.
pub record Replaced (xs ys : List ℕ) (d : ℕ) (rs : List ℕ) : Type 0 where
  pub here : record_at ys d ≡ rs
  pub out : (i : ℕ) → Out (RECORDS + RECORD * d) RECORD i → get_or ys i 0 ≡ get_or xs i 0
  pub same_length : length ys ≡ length xs

-- So does the code's lent part.
pub replaced : (xs rs : List ℕ) (d : ℕ) → RECORDS + RECORD * d + RECORD ≤ length xs → length rs ≡ RECORD → Replaced xs (put_mid (RECORDS + RECORD * d) (RECORDS + RECORD * d + RECORD - (RECORDS + RECORD * d)) xs rs) d rs
unfolding record_at
replaced xs rs d h l =
    let k : RECORDS + RECORD * d + RECORD - (RECORDS + RECORD * d) ≡ RECORD = omega arith in
    rw k (record {
      here = put_mid_part xs rs (RECORDS + RECORD * d) RECORD h l;
      out = put_out xs rs (RECORDS + RECORD * d) RECORD h l;
      same_length = put_length xs rs (RECORDS + RECORD * d) RECORD h l;
    })

-- Every other record is kept.
pub other_record : (xs ys : List ℕ) (d e : ℕ) (rs : List ℕ) → Replaced xs ys d rs → RECORDS + RECORD * e + RECORD ≤ length xs → (e ≡ d → ⊥) → record_at ys e ≡ record_at xs e
other_record xs ys d e rs R h n =
    record_same xs ys e h R.same_length (λ i b. R.out (RECORDS + RECORD * e + i) (λ p q. ⊎_elim (λ l. omega arith) (λ g. n (omega arith)) (lt_or_ge e d)))
