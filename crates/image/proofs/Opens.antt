-- What opening makes of a slice. Assumes nothing.
use mathlib.Core.List.{List, [], ◌++◌, ◌∷◌}
use mathlib.Core.Logic.{⊎_elim}
use mathlib.Core.Path.{◌∙◌, ◌≡◌, ap, fun_ext, refl, subst, sym}
use Prim.Native.Nat.{◌<◌, ◌≤◌, suc, zero, ℕ}
use native.Mathlib.Omega.{arith}
use lib.ListN.{get_or-eq_default, get_or, length, set, take}
use lib.Seq.{take_all, take-suc}
use borrow.Author.Tests.{le-ltb, lt-ltb}
use Rattle.cells.specs.declared.Cell.TheVariants.{Blank}
use Rattle.protocol.specs.Fits.{Sizes}
use Rattle.protocol.specs.Machine.{Start, fresh, Answer, done, refused}
use Rattle.protocol.specs.declared.Refusal.TheVariants.{NoImage, NoTable}
use Rattle.sheet.specs.Sheet.{sheet}
use Rattle.words.specs.Layout.{CELLS, DEVICES, KNOWN, SHEET}
use Rattle.words.specs.Place.{Filled, cell_place}
use Rattle.words.proofs.Places.{filled_as, lt_or_ge}
use Rattle.record.specs.Begun.{Begun}
use Rattle.record.specs.Reading.{below, places_at, queue, sheet_at}
use Rattle.record.proofs.Begins.{begun_known}
use Rattle.record.proofs.Queues.{queue_entry, queue_length}
use Rattle.record.proofs.Same.{places_filled}
use Rattle.table.specs.Promise.{Became, Begins}
use Rattle.table.specs.Table.{need}
use Rattle.table.proofs.Records.{below_in}
use Rattle.table.proofs.Starts.{started_is}
use Rattle.coding.specs.Image.{Allowed, NotImage}
use Rattle.image.specs.Promise.{Makes, Opened, start_of}
use Rattle.image.specs.Read.{ImageOf}
use Rattle.image.specs.Words.{cell_in, cells_of, numbers_of}
use Rattle.image.proofs.Whole.{image_inj}

-- A record whose known sheet was copied from the words of another slice.
pub record_begun : (cells number : ℕ) (words xs ys zs : List ℕ) → Filled cell_place xs ys KNOWN cells (cell_in words 0) → Begun cells (sheet_at cells ys KNOWN) number ys zs → Begun cells (sheet_at cells words 0) number xs zs
record_begun cells number words xs ys zs K B = begun_known cells number xs ys zs (cell_in words 0) (sheet_at cells words 0) K (copied K) B
  where
    copied : Filled cell_place xs ys KNOWN cells (cell_in words 0) → sheet_at cells ys KNOWN ≡ sheet_at cells words 0
    copied K = places_filled cell_place Blank cells xs ys KNOWN (cell_in words 0) K ∙ (unfold places_at in refl)

-- Past its entries a queue is cut to what is asked for there.
pub queue_cut : {A : Type 0} (n : ℕ) (f : ℕ → A) (past : A) (c : ℕ) → get_or (queue n f) c past ≡ below n f past c
queue_cut n f past c = ⊎_elim (λ l. rw (lt-ltb c n l) (queue_entry n f c past l)) (λ g. rw (le-ltb c n g) (get_or-eq_default (queue n f) past (omega (arith, queue_length n f)))) (lt_or_ge c n)

-- A list is the queue of its own elements.
queue_take : {A : Type 0} (past : A) (l : List A) (n : ℕ) → n ≤ length l → queue n (λ k. get_or l k past) ≡ take n l
unfolding queue
queue_take past l zero h = refl
queue_take {A} past l (suc n) h = ap (λ (x : List A). x ++ (get_or l n past ∷ [])) (queue_take past l n (omega arith)) ∙ sym (take-suc l n past (omega arith))

pub queue_is : {A : Type 0} (past : A) (l : List A) → queue (length l) (λ k. get_or l k past) ≡ l
queue_is past l = queue_take past l (length l) (omega arith) ∙ take_all (length l) l (omega arith)

past_cut : {A : Type 0} (n : ℕ) (f : ℕ → A) (past : A) (c : ℕ) → n ≤ c → below n f past c ≡ past
past_cut n f past c h = rw (le-ltb c n h) refl

module _ (words numbers : List ℕ) (cells devices : ℕ) where
  -- what two buffers start
  held : Start sheet
  held = record { devices = devices; cells = cells; sheet = sheet_at cells words 0; numbers = below devices (λ d. get_or numbers d 0) 0 }

  held_is : held ≡ start_of (cells_of words cells) (numbers_of numbers devices)
  unfolding held places_at
  held_is = (λ i. record {
    devices = sym (queue_length devices (λ d. get_or numbers d 0)) i;
    cells = sym (queue_length cells (cell_in words 0)) i;
    sheet = sym (fun_ext (queue_cut cells (cell_in words 0) Blank)) i;
    numbers = sym (fun_ext (queue_cut devices (λ d. get_or numbers d 0) 0)) i;
  })

  module _ (xs : List ℕ) where
    makes_as : (a : Answer sheet) (ys : List ℕ) → Makes held xs a ys → Makes (start_of (cells_of words cells) (numbers_of numbers devices)) xs a ys
    makes_as a ys M = subst (λ (b : Start sheet). Makes b xs a ys) held_is M

    pub makes_short : length xs < need devices → Makes (start_of (cells_of words cells) (numbers_of numbers devices)) xs (refused NoTable) xs
    makes_short h = makes_as (refused NoTable) xs (unfold held in (record { short = λ l. record { number = refl; untouched = refl }; answer = λ l. absurd (omega arith); after = λ l. absurd (omega arith) }))

    module _ (y1 y2 : List ℕ) (Z : Sizes devices cells) (long : need devices ≤ length xs) (l1 : length y1 ≡ length xs) (l2 : length y2 ≡ length xs) (B : Begins cells (sheet_at cells words 0) (λ d. get_or numbers d 0) xs y1 devices) (F : Filled cell_place y1 y2 SHEET cells (cell_in words 0)) where
      begun : Begins cells (sheet_at cells words 0) (below devices (λ d. get_or numbers d 0) 0) xs y1 devices
      begun = record {
        each = λ d h. rw (below_in devices d (λ e. get_or numbers e 0) 0 h) (B.each d h);
        kept = B.kept;
      }

      filled : Filled cell_place y1 y2 SHEET cells (sheet_at cells words 0)
      filled = filled_as cell_place y1 y2 SHEET cells (cell_in words 0) (sheet_at cells words 0) (λ k h. unfold places_at in (sym (below_in cells k (cell_in words 0) Blank h))) F

      made : Became xs (set (set y2 DEVICES devices) CELLS cells) (fresh sheet held)
      unfolding held
      made = started_is held xs y1 y2 (unfold places_at in (past_cut cells (cell_in words 0) Blank)) (past_cut devices (λ d. get_or numbers d 0) 0) Z long l1 l2 begun filled

      pub makes_table : Makes (start_of (cells_of words cells) (numbers_of numbers devices)) xs done (set (set y2 DEVICES devices) CELLS cells)
      makes_table = makes_as done (set (set y2 DEVICES devices) CELLS cells) (record { short = λ l. (unfold held in absurd (omega arith)); answer = λ l. refl; after = λ l. made })

-- The two ways in which the bytes are judged.
pub opened_none : (bytes xs : List ℕ) → NotImage bytes → Opened bytes xs (refused NoImage) xs
opened_none bytes xs n = record { no_image = λ m. record { number = refl; untouched = refl }; makes = λ cells numbers ok e. absurd (n cells numbers ok e) }

pub opened_image : (bytes words numbers : List ℕ) (cells devices : ℕ) (xs : List ℕ) (a : Answer sheet) (ys : List ℕ) → ImageOf bytes words numbers cells devices → Makes (start_of (cells_of words cells) (numbers_of numbers devices)) xs a ys → Opened bytes xs a ys
opened_image bytes words numbers cells devices xs a ys I M = record {
  no_image = λ n. absurd (n (cells_of words cells) (numbers_of numbers devices) I.allowed I.is);
  makes = λ cs ns ok e. let q = image_inj (cells_of words cells) cs (numbers_of numbers devices) ns I.allowed ok (sym I.is ∙ e) in rw (q.0, q.1) at M;
}

-- An image's buffers hold allowed numbers of cells and of devices.
pub allowed_sizes : (words numbers : List ℕ) (cells devices : ℕ) → Allowed (cells_of words cells) (numbers_of numbers devices) → Sizes devices cells
allowed_sizes words numbers cells devices A =
    let n = queue_length cells (cell_in words 0) in
    let d = queue_length devices (λ d. get_or numbers d 0) in
    let s = A.sheet.count in
    let t = A.devices.count in
    record { devices_from_1 = omega arith; devices_to_8 = omega arith; cells_from_1 = omega arith; cells_to_64 = omega arith }
