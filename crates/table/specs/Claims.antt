-- What document 01 says of every table, its need and its words, and of every call: that "no second outcome fits", and that it depends on no word but
-- those in use. Assumes nothing.
use Rattle.std.specs.Prelude.{◌≡◌, List, ℕ, ◌*◌, ◌≤◌, length, get_or, replicate}
use Rattle.protocol.specs.Machine.{Table, Result, done, Answer}
use Rattle.sheet.specs.Sheet.{sheet}
use Rattle.sheet.specs.Answer.{Given, BlockGiven, meaning, block_meaning}
use Rattle.words.specs.Layout.{DEVICES}
use Rattle.table.specs.Table.{need, reading, InTable, ValidTable, IsTable}
use Rattle.table.specs.Promise.{Stepped, Started}

-- "An all-zero slice is none", of any length.
abbrev pub AllZeroIsNone : Type 0
AllZeroIsNone = (n : ℕ) → IsTable (replicate n 0) → ⊥

-- "That need is .. in the base at most 40,000 bytes per device", from one device on; a word has 8 bytes.
abbrev pub NeedInBytes : Type 0
NeedInBytes = (devices : ℕ) → 1 ≤ devices → 8 * need devices ≤ 40000 * devices

-- "Bytes past the table's need stay unread": no word past it is in use, so no call depends on it and each keeps it.
abbrev pub NonePastTheNeed : Type 0
NonePastTheNeed = (xs : List ℕ) → ValidTable xs → (i : ℕ) → need (get_or xs DEVICES 0) ≤ i → InTable xs i → ⊥

-- Two outcomes of one call on the same words are the same, answer and every word, on a table or not.
abbrev pub OneOutcome : Type 0
OneOutcome = (s : Table sheet → Result sheet) (xs ys zs : List ℕ) (a b : Answer sheet) → Stepped s xs a ys → Stepped s xs b zs → (a ≡ b) × (ys ≡ zs)

abbrev pub OneStart : Type 0
OneStart = (devices cells : ℕ) (xs ys zs : List ℕ) (a b : Answer sheet) → Started devices cells xs a ys → Started devices cells xs b zs → (a ≡ b) × (ys ≡ zs)

-- The same of what a call, a block and start give.
abbrev pub OneOutcomeGiven : Type 0
OneOutcomeGiven = (s : Table sheet → Result sheet) (xs ys zs : List ℕ) (r q : Given) → Stepped s xs (meaning r) ys → Stepped s xs (meaning q) zs
    → (r ≡ q) × (ys ≡ zs)

abbrev pub OneBlockGiven : Type 0
OneBlockGiven = (s : Table sheet → Result sheet) (xs ys zs : List ℕ) (r q : BlockGiven)
    → Stepped s xs (block_meaning r) ys → Stepped s xs (block_meaning q) zs → (r ≡ q) × (ys ≡ zs)

abbrev pub OneStartGiven : Type 0
OneStartGiven = (devices cells : ℕ) (xs ys zs : List ℕ) (r q : Given) → Started devices cells xs (meaning r) ys
    → Started devices cells xs (meaning q) zs → (r ≡ q) × (ys ≡ zs)

-- Both slices have the need, and agree on the words in use of the first.
pub record Agree (xs ys : List ℕ) : Type 0 where
  pub long : need (get_or xs DEVICES 0) ≤ length xs
  pub also_long : need (get_or xs DEVICES 0) ≤ length ys
  pub words : (i : ℕ) → InTable xs i → get_or ys i 0 ≡ get_or xs i 0

-- Then both are tables or none is, and both calls answer the same; tables say the same before and after.
pub record Alike (s : Table sheet → Result sheet) (xs ys : List ℕ) : Type 0 where
  pub tables : IsTable xs → IsTable ys
  pub back : IsTable ys → IsTable xs
  pub says : IsTable xs → reading ys ≡ reading xs
  pub answers : (xs' ys' : List ℕ) (a b : Answer sheet) → Stepped s xs a xs' → Stepped s ys b ys' → a ≡ b
  pub after : (xs' ys' : List ℕ) (a b : Answer sheet) → Stepped s xs a xs' → Stepped s ys b ys' → IsTable xs → reading ys' ≡ reading xs'

abbrev pub OnlyWordsInUse : Type 0
OnlyWordsInUse = (s : Table sheet → Result sheet) (xs ys : List ℕ) → Agree xs ys → Alike s xs ys

-- A table made in the words xs, and in others with as much room: the answers are the same, and so is each word in use; every other word is kept.
pub record MadeAlike (xs xs' ys' : List ℕ) (a b : Answer sheet) : Type 0 where
  pub answers : a ≡ b
  pub words : a ≡ done → (i : ℕ) → InTable xs' i → get_or ys' i 0 ≡ get_or xs' i 0
  pub kept : (i : ℕ) → (InTable xs' i → ⊥) → get_or xs' i 0 ≡ get_or xs i 0

-- start reads no word of the slice, and leaves alone those that its table does not use.
abbrev pub StartReadsNoWord : Type 0
StartReadsNoWord = (devices cells : ℕ) (xs ys xs' ys' : List ℕ) (a b : Answer sheet) → need devices ≤ length xs → need devices ≤ length ys
    → Started devices cells xs a xs' → Started devices cells ys b ys' → MadeAlike xs xs' ys' a b

-- What a call, a block and start give depends on no other word either.
abbrev pub GivenByWordsInUse : Type 0
GivenByWordsInUse = (s : Table sheet → Result sheet) (xs ys : List ℕ) → Agree xs ys → (xs' ys' : List ℕ) (r q : Given)
    → Stepped s xs (meaning r) xs' → Stepped s ys (meaning q) ys' → r ≡ q

abbrev pub BlockGivenByWordsInUse : Type 0
BlockGivenByWordsInUse = (s : Table sheet → Result sheet) (xs ys : List ℕ) → Agree xs ys → (xs' ys' : List ℕ) (r q : BlockGiven)
    → Stepped s xs (block_meaning r) xs' → Stepped s ys (block_meaning q) ys' → r ≡ q

abbrev pub StartGivenByNoWord : Type 0
StartGivenByNoWord = (devices cells : ℕ) (xs ys xs' ys' : List ℕ) (r q : Given) → need devices ≤ length xs → need devices ≤ length ys
    → Started devices cells xs (meaning r) xs' → Started devices cells ys (meaning q) ys' → r ≡ q
