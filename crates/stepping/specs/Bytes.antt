-- What the step program (document 01, "Step program") promises of the bytes that it is fed, whatever its buffers hold. Assumes nothing.
use Rattle.std.specs.Prelude.{◌≡◌, List, [], ◌∷◌, ◌++◌, ℕ, ◌≤◌, length, take}
use Rattle.protocol.specs.declared.Refusal.TheVariants.{NoStep}
use Rattle.protocol.specs.Machine.{Answer, refused}
use Rattle.sheet.specs.Sheet.{sheet}
use Rattle.text.specs.Text.{Put}
use Rattle.lines.specs.Held.{nothing, fed_of, buffer_after, finish_of}
use Rattle.lines.specs.declared.Unended.{Unended}
use Rattle.lines.specs.declared.Fed.{Fed}
use Rattle.lines.specs.declared.Fed.TheVariants.{More, Line, Long}
use Rattle.answers.specs.Answer.{PutUpTo, answer_line}
use Rattle.answering.specs.Answered.{Answered}

-- The most bytes of a chunk that are fed at once.
abbrev pub CHUNK : ℕ
CHUNK = 4096

-- Where a run stands: the buffer with the line that is not ended yet, what is held of it, and the words of the table.
pub record Standing : Type 0 where
  pub buffer : List ℕ
  pub unended : Unended
  pub words : List ℕ

-- the answer to a line of at most 80 bytes, which stands in the buffer; "a longer line" is 13
abbrev pub Told : Fed → (buffer xs text ys : List ℕ) → Type 0
Told (More p) buffer xs text ys = (text ≡ []) × (ys ≡ xs)
Told (Line n) buffer xs text ys = (a : Answer sheet) × Answered (take n buffer) xs a ys × (text ≡ answer_line a)
Told Long buffer xs text ys = (text ≡ answer_line (refused NoStep)) × (ys ≡ xs)

-- the line that is told stands within the buffer
abbrev pub Within : Fed → (buffer : List ℕ) → Type 0
Within (More p) buffer = Unit
Within (Line n) buffer = n ≤ length buffer
Within Long buffer = Unit

-- what is held after the byte
abbrev pub held_by : Fed → Unended
held_by (More p) = p
held_by (Line n) = nothing
held_by Long = nothing

-- The byte b: the text of the answer to the line that it ends, if it ends one, and where the run stands after it.
pub record ByteFed (x : Standing) (b : ℕ) (text : List ℕ) (y : Standing) : Type 0 where
  pub told : Told (fed_of x.unended b) y.buffer x.words text y.words
  pub buffer : y.buffer ≡ buffer_after x.buffer x.unended b
  pub unended : y.unended ≡ held_by (fed_of x.unended b)

-- what stands where, by parts
abbrev pub standing : (buffer : List ℕ) → Unended → (words : List ℕ) → Standing
standing buffer p words = record { buffer = buffer; unended = p; words = words }

-- The text of an answer, if there is one, is put at a place with room for 34 bytes.
pub record PutTold (fed : Fed) (buffer xs ys before : List ℕ) (at : ℕ) (after : List ℕ) (next : ℕ) : Type 0 where
  pub text : List ℕ
  pub told : Told fed buffer xs text ys
  pub puts : PutUpTo 34 before at text after next

pub record PutByte (x : Standing) (b : ℕ) (y : Standing) (before : List ℕ) (at : ℕ) (after : List ℕ) (next : ℕ) : Type 0 where
  pub text : List ℕ
  pub fed : ByteFed x b text y
  pub puts : PutUpTo 34 before at text after next

-- One thing is done and then another: where the run stands between them, and the text of both.
pub record Then (One : List ℕ → Standing → Type 0) (Others : Standing → List ℕ → Type 0) (text : List ℕ) : Type 0 where
  pub between : Standing
  pub first : List ℕ
  pub others : List ℕ
  pub does : One first between
  pub goes_on : Others between others
  pub both : text ≡ first ++ others

-- Bytes, one after the other.
abbrev pub BytesFed : Standing → (input text : List ℕ) → Standing → Type 0
BytesFed x [] text z = (text ≡ []) × (z ≡ x)
BytesFed x (b ∷ input) text z = Then (ByteFed x b) (λ y others. BytesFed y input others z) text

-- The text stands at the front of the output buffer, and what was behind it is kept.
pub record ChunkFed (x : Standing) (input before after : List ℕ) (at : ℕ) (y : Standing) : Type 0 where
  pub text : List ℕ
  pub fed : BytesFed x input text y
  pub puts : Put before 0 text after at

-- The end of the input: what is left is a line where it has a byte.
pub record Finished (x : Standing) (before after : List ℕ) (at : ℕ) (ys : List ℕ) : Type 0 where
  pub text : List ℕ
  pub told : Told (finish_of x.unended) x.buffer x.words text ys
  pub puts : Put before 0 text after at

-- Chunks, one after the other.
abbrev pub ChunksFed : Standing → List (List ℕ) → (text : List ℕ) → Standing → Type 0
ChunksFed x [] text z = (text ≡ []) × (z ≡ x)
ChunksFed x (chunk ∷ chunks) text z = Then (λ first y. BytesFed x chunk first y) (λ y others. ChunksFed y chunks others z) text
