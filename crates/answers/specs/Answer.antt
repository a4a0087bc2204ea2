-- The text of an answer (document 01, "Step program"). Assumes nothing.
use Rattle.std.specs.Prelude.{ℕ, ◌+◌, ◌≤◌, List, [], ◌∷◌}
use Rattle.std.specs.Float.Ieee.{to_bits}
use Rattle.std.specs.Float.{binary64}
use Rattle.text.specs.Field.{record_of}
use Rattle.text.specs.Text.{Put, decimal_text, ended, hex_text, signed_text}
use Rattle.cells.specs.declared.Cell.{Cell}
use Rattle.protocol.specs.Refusals.{number_of}
use Rattle.protocol.specs.Machine.{Answer, done, value, says_yes, says_no, moved, length_is, refused_at, refused}
use Rattle.sheet.specs.Sheet.{sheet}
use Rattle.wording.specs.Names.{blank_text, count_text, measure_text, done_text, yes_text, no_text, moved_text, refused_text}

-- "`blank`, `count,n`, `measure,` 16 upper-case hex digits"
unfoldable pub cell_text : Cell → List ℕ
unfolding record_of
cell_text Cell.Blank = blank_text
cell_text (Cell.Count n) = record_of count_text (signed_text n ∷ [])
cell_text (Cell.Measure x) = record_of measure_text (hex_text 16 (to_bits binary64 x) ∷ [])

-- "`done`, …, `yes`, `no`, `moved,k`, `refused,k`." "Block and image are no steps": a length has no text, and the place of a refusal is not printed.
unfoldable pub answer_text : Answer sheet → List ℕ
unfolding cell_text record_of
answer_text done = done_text
answer_text (value v) = cell_text v
answer_text says_yes = yes_text
answer_text says_no = no_text
answer_text (moved k) = record_of moved_text (decimal_text k ∷ [])
answer_text (length_is k) = []
answer_text (refused refusal) = record_of refused_text (decimal_text (number_of refusal) ∷ [])
answer_text (refused_at refusal place) = record_of refused_text (decimal_text (number_of refusal) ∷ [])

-- "Answers, one per line, CRLF"
unfoldable pub answer_line : Answer sheet → List ℕ
unfolding answer_text
answer_line a = ended (answer_text a)

-- a text of at most `most` bytes was put
pub record PutUpTo (most : ℕ) (before : List ℕ) (at : ℕ) (text after : List ℕ) (next : ℕ) : Type 0 where
  pub puts : Put before at text after next
  pub within : next ≤ at + most
