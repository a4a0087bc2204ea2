-- Document 01, "Desk examples (★ proved)": the starred lines as one table, and what it means that a line holds. Assumes nothing.
use Rattle.std.specs.Prelude.{◌≡◌, List, [], ◌∷◌, ◌++◌, map, ℕ, zero, suc, ℤ, pos, negsuc}
use Rattle.std.specs.Float.{binary64}
use Rattle.std.specs.Float.Ieee.{of_bits}
use Rattle.cells.specs.Cells.{added, joined}
use Rattle.cells.specs.declared.Cell.{Cell}
use Rattle.cells.specs.declared.Cell.TheVariants.{Blank, Count, Measure}
use Rattle.cells.specs.declared.Change.{Change}
use Rattle.cells.specs.declared.Change.TheVariants.{Nothing, Set, Add}
use Rattle.cells.specs.declared.Update.{Update}
use Rattle.protocol.specs.declared.Refusal.TheVariants.{NoCell, PendingFull, NoImage}
use Rattle.protocol.specs.Machine.{Device, run, fresh, update, push, send, ask, accept, receive, pull, read, done, value, refused, Answer}
use Rattle.protocol.specs.Plays.{◌gives◌, Plays}
use Rattle.protocol.specs.Plays.{Line as Play}
use Rattle.sheet.specs.Sheet.{sheet, started}
use Rattle.device.specs.Named.{update_of}
use Rattle.table.specs.Promise.{RefusedWith}
use Rattle.coding.specs.Image.{image_of, Allowed}
use Rattle.image.specs.Promise.{Opened}

-- A line: a cell, a number added and the cell then; two changes and what they join to; steps of a table of so many devices and cells with
-- their answers, what the push buffer of device 0 then covers and holds for cell 0, and the numbers of its pending rounds; allowed cells and
-- numbers with the bytes of their image; bytes that opening refuses by 12.
pub data Line : Type 0 where
  adding : Cell → ℤ → Cell → Line
  joining : Change → Change → Change → Line
  stored : List Cell → List ℕ → List ℕ → Line
  no_image : List ℕ → Line
  running : (devices cells : ℕ) → List (Play sheet) → (covered : ℕ) → (buffered : Change) → (pending : List ℕ) → Line

abbrev pub after : (devices cells : ℕ) → List (Play sheet) → Device sheet
after devices cells plays = (run sheet (map (λ p. p.asks) plays) (fresh sheet (started devices cells))).device 0

abbrev pub Holds : Line → Type 0
Holds (adding c n r) = added c n ≡ r
Holds (joining a b r) = joined a b ≡ r
Holds (stored cells numbers bytes) = Allowed cells numbers × (image_of cells numbers ≡ bytes)
Holds (no_image bytes) = (xs ys : List ℕ) (a : Answer sheet) → Opened bytes xs a ys → RefusedWith NoImage xs a ys
Holds (running devices cells plays covered buffered pending) =
    Plays sheet (fresh sheet (started devices cells)) plays × ((after devices cells plays).covered ≡ covered) × ((after devices cells plays).buffered 0 ≡ buffered) × (map (λ r. r.number) (after devices cells plays).pending ≡ pending)

-- "measured 1.5", by its bits.
abbrev pub one_and_half : Cell
one_and_half = Measure (of_bits binary64 0x3ff8_0000_0000_0000)

-- The bytes of the two lines on images, with the shortest head of −1 and with a longer one.
abbrev pub shortest : List ℕ
shortest = 0x82 ∷ 0x83 ∷ 0xF6 ∷ 0x20 ∷ 0xFB ∷ 0x3F ∷ 0xF8 ∷ 0x00 ∷ 0x00 ∷ 0x00 ∷ 0x00 ∷ 0x00 ∷ 0x00 ∷ 0x81 ∷ 0x00 ∷ []

abbrev pub longer : List ℕ
longer = 0x82 ∷ 0x83 ∷ 0xF6 ∷ 0x38 ∷ 0x00 ∷ 0xFB ∷ 0x3F ∷ 0xF8 ∷ 0x00 ∷ 0x00 ∷ 0x00 ∷ 0x00 ∷ 0x00 ∷ 0x00 ∷ 0x81 ∷ 0x00 ∷ []

-- A device's channel, established.
abbrev pub linked : List (Play sheet)
linked = ask 0 gives done ∷ accept 0 gives done ∷ receive 0 gives done ∷ pull 0 gives done ∷ []

-- n pushes, each sent at once.
abbrev pub sends : ℕ → List (Play sheet)
sends zero = []
sends (suc n) = push 0 gives done ∷ send 0 gives done ∷ sends n

-- `negsuc n` is −1−n; `NoCell` is refusal 4, `PendingFull` 8. The lines, in document 01's order:
-- "blank, add 0: count 0"
-- "9223372036854775807 add 1: −9223372036854775808"
-- "add 5 joined with add −5: add 0"
-- "set count 7, add 2: set count 9"
-- "add 4, set blank: set blank"
-- "measured 1.5, add 2: measured 1.5"
-- "64 cells: 63 read, 64 refused 4"
-- "eighth pending round sent, next send refused 8, buffer kept"
-- "pushes 1 and 2 offline: one round numbered 2"
-- "blank, count −1, measured 1.5, one device at 0: 82 83 F6 20 FB 3F F8 00 00 00 00 00 00 81 00"
-- "the same with 38 00 for 20: refused 12"
abbrev pub desk : List Line
desk =
    adding Blank (pos 0) (Count (pos 0))
    ∷ adding (Count (pos 9223372036854775807)) (pos 1) (Count (negsuc 9223372036854775807))
    ∷ joining (Add (pos 5)) (Add (negsuc 4)) (Add (pos 0))
    ∷ joining (Set (Count (pos 7))) (Add (pos 2)) (Set (Count (pos 9)))
    ∷ joining (Add (pos 4)) (Set Blank) (Set Blank)
    ∷ adding one_and_half (pos 2) one_and_half
    ∷ running 1 64 (read 0 63 gives value Blank ∷ read 0 64 gives refused NoCell ∷ []) 0 Nothing []
    ∷ running 1 1 (linked ++ sends 8 ++ (update 0 (update_of 0 (Update.Add (pos 1))) gives done ∷ push 0 gives done ∷ send 0 gives refused PendingFull ∷ [])) 1 (Add (pos 1)) (1 ∷ 2 ∷ 3 ∷ 4 ∷ 5 ∷ 6 ∷ 7 ∷ 8 ∷ [])
    ∷ running 1 1 ((push 0 gives done ∷ push 0 gives done ∷ []) ++ linked ++ (send 0 gives done ∷ [])) 0 Nothing (2 ∷ [])
    ∷ stored (Blank ∷ Count (negsuc 0) ∷ one_and_half ∷ []) (0 ∷ []) shortest
    ∷ no_image longer
    ∷ []
