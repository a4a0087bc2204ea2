-- The claims of specs/Claims.antt, each proved (`OneEncoding` in Whole.antt, `Longest` and `LongestReached` in Longest.antt). Assumes nothing.
use mathlib.Core.List.{List, [], ◌++◌}
use mathlib.Core.Bool.{Bool}
use mathlib.Core.Logic.{◌⊎◌, ⊎_elim}
use mathlib.Core.Path.{◌∙◌, ◌≡◌, ap, fun_ext, refl, subst, sym}
use Prim.Native.Nat.{◌<◌, ◌≤◌, ℕ}
use native.Mathlib.Omega.{arith}
use lib.ListN.{drop, get_or, length, take}
use lib.Seq.{take_at}
use borrow.Author.Tests.{le-ltb, lt-ltb}
use Rattle.cbor.proofs.Codes.{all_at}
use Rattle.cells.specs.declared.Cell.{Cell}
use Rattle.cells.specs.declared.Cell.TheVariants.{Blank}
use Rattle.std.specs.Prelude.{Ok}
use Rattle.protocol.specs.Fits.{Fits, Sizes}
use Rattle.protocol.specs.Machine.{Start, Table, choose, fresh, fresh_device, length_is, refused}
use Rattle.protocol.specs.Machine as machine
use Rattle.protocol.specs.declared.Refusal.{Refusal}
use Rattle.protocol.specs.declared.Refusal.TheVariants.{BufferShort, NoImage, NoTable}
use Rattle.sheet.specs.Sheet.{sheet}
use Rattle.sheet.specs.Answer.{meaning}
use Rattle.sheet.specs.declared.Answer.TheVariants.{Length}
use Rattle.sheet.proofs.OneAnswer.{done_refused, meaning_one}
use Rattle.sheet.proofs.Theorem.{reached_fits}
use Rattle.words.specs.Layout.{CELLS, DEVICES, SHEET, TAKEN}
use Rattle.words.proofs.Places.{lt_or_ge}
use Rattle.record.specs.Reading.{below, places_at, queue}
use Rattle.record.proofs.Queues.{queue_length}
use Rattle.table.specs.Promise.{Became}
use Rattle.table.specs.Table.{IsTable, need, reading, record_at}
use Rattle.table.proofs.InUse.{says_same, also_table, agree_back}
use Rattle.table.proofs.Once.{became_once, either_way, given_once, refused_once}
use Rattle.table.proofs.Theorems.{made_alike}
use Rattle.image.specs.Claims.{OneOpeningGiven, OneWritingGiven, OpenedWrittenGiven, OpeningGivenByNoWord, WritingGivenByWordsInUse}
use Rattle.image.specs.Claims.{OneOpening, OneWriting, OpenedIsTable, OpenedWritten, OpeningAlwaysAnswers, OpeningReadsNoWord, WritingAlwaysAnswers, WritingReadsWordsInUse, WrittenOpened}
use Rattle.coding.specs.Image.{Allowed, NotImage, NumberAllowed, image_of}
use Rattle.image.specs.Promise.{Makes, Opened, Stores, image_of_table, start_of}
use Rattle.image.specs.Words.{cell_in}
use Rattle.image.proofs.Opens.{queue_cut, queue_is}
use Rattle.image.proofs.Parts.{stored_allowed}
use Rattle.image.proofs.Stores.{cells_read, numbers_read, places_of, table_stored}

-- Answers that are never the same, and lengths that are.
module _ (m : machine.Answer sheet) where
  pub length_refused : (n : ℕ) (r : Refusal) → m ≡ length_is n → m ≡ refused r → ⊥
  length_refused n r p q = let z : ◌≡◌ {A = ℕ} 0 1 = cc in omega arith

  table_buffer : m ≡ refused NoTable → m ≡ refused BufferShort → ⊥
  table_buffer p q = let z : ◌≡◌ {A = ℕ} 0 1 = cc in omega arith

  table_image : m ≡ refused NoTable → m ≡ refused NoImage → ⊥
  table_image p q = let z : ◌≡◌ {A = ℕ} 0 1 = cc in omega arith

  pub one_length : (n k : ℕ) → m ≡ length_is n → m ≡ length_is k → n ≡ k
  one_length n k p q = cc

pub writing_answers : WritingAlwaysAnswers
writing_answers xs old new a W = record {
  write_1 = (λ e T. ⊎_elim (λ l. table_buffer _ e ((W.stores T).short l).number) (λ g. length_refused _ _ _ ((W.stores T).answer g) e) (room T), λ n. (W.no_table n).number);
  write_11 = λ T. (λ e. ⊎_elim (λ l. l) (λ g. absurd (length_refused _ _ _ ((W.stores T).answer g) e)) (room T), λ l. ((W.stores T).short l).number);
  write_length = λ T. (λ e. ⊎_elim (λ l. absurd (length_refused _ _ _ e ((W.stores T).short l).number)) (λ g. g) (room T), λ g. (W.stores T).answer g);
}
  where
    room : IsTable xs → (length old < length (image_of_table (reading xs))) ⊎ (length (image_of_table (reading xs)) ≤ length old)
    room T = lt_or_ge (length old) (length (image_of_table (reading xs)))

pub opening_answers : OpeningAlwaysAnswers
opening_answers bytes xs ys a O = record {
  open_12 = (λ e cs ns ok q. ⊎_elim (λ l. table_image _ ((O.makes cs ns ok q).short l).number e) (λ g. done_refused _ _ ((O.makes cs ns ok q).answer g) e) (room ns), λ n. (O.no_image n).number);
  open_1 = λ cs ns ok q. (λ e. ⊎_elim (λ l. l) (λ g. absurd (done_refused _ _ ((O.makes cs ns ok q).answer g) e)) (room ns), λ l. ((O.makes cs ns ok q).short l).number);
  open_done = λ cs ns ok q. (λ e. ⊎_elim (λ l. absurd (done_refused _ _ e ((O.makes cs ns ok q).short l).number)) (λ g. g) (room ns), λ g. (O.makes cs ns ok q).answer g);
}
  where
    room : (ns : List ℕ) → (length xs < need (length ns)) ⊎ (need (length ns) ≤ length xs)
    room ns = lt_or_ge (length xs) (need (length ns))

pub opened_table : OpenedIsTable
opened_table cells numbers xs ys a ok O e =
    let g = ((opening_answers (image_of cells numbers) xs ys a O).open_done cells numbers ok refl).0 e in
    let B = (O.makes cells numbers ok refl).after g in
    let says = B.says in
    record {
      is_table = record { valid = B.valid; fits = subst (Fits sheet) (sym says) (reached_fits (start_of cells numbers) [] sizes (λ d h. (all_at NumberAllowed numbers d 0 ok.devices.every h).1)) };
      devices = ap (λ (t : Table sheet). t.devices) says;
      some_cells = ap (λ (t : Table sheet). t.cells) says;
      server = λ c. ap (λ (t : Table sheet). t.sheet c) says;
      taken = λ d. ap (λ (t : Table sheet). t.taken d) says;
      device = λ d h. ap (λ (t : Table sheet). t.device d) says ∙ ap (λ (b : Bool). fresh_device sheet (choose b (λ c. get_or cells c Blank) (λ c. Blank)) (get_or numbers d 0)) (lt-ltb d (length numbers) h);
    }
  where
    sizes : Sizes (length numbers) (length cells)
    sizes =
        let s = ok.sheet.count in
        let t = ok.devices.count in
        record { devices_from_1 = omega arith; devices_to_8 = omega arith; cells_from_1 = omega arith; cells_to_64 = omega arith }

-- A reading is cut at the number of its cells, and of its devices.
cut_twice : {A : Type 0} (n : ℕ) (f : ℕ → A) (past : A) (c : ℕ) → below n (below n f past) past c ≡ below n f past c
cut_twice n f past c = ⊎_elim (λ l. rw (lt-ltb c n l) refl) (λ g. rw (le-ltb c n g) refl) (lt_or_ge c n)

module _ (xs : List ℕ) where
  sheet_cut : (c : ℕ) → below (reading xs).cells (reading xs).sheet Blank c ≡ (reading xs).sheet c
  unfolding reading places_at
  sheet_cut c = cut_twice (get_or xs CELLS 0) (cell_in xs SHEET) Blank c

  taken_cut : (d : ℕ) → below (reading xs).devices (reading xs).taken 0 d ≡ (reading xs).taken d
  unfolding reading
  taken_cut d = cut_twice (get_or xs DEVICES 0) (λ e. get_or (record_at xs e) TAKEN 0) 0 d

  table_allowed : IsTable xs → Allowed (queue (reading xs).cells (reading xs).sheet) (queue (reading xs).devices (reading xs).taken)
  table_allowed T = rw (cells_read xs, numbers_read xs) at (stored_allowed xs xs (places_of xs) (table_stored xs T))

pub written_opened : WrittenOpened
written_opened xs old new a n zs ws b T W e O long =
    let t = reading xs in
    let S = W.stores T in
    let room = ⊎_elim (λ l. absurd (length_refused _ _ _ e (S.short l).number)) (λ g. g) (lt_or_ge (length old) (length (image_of_table (reading xs)))) in
    let size = one_length _ _ _ e (S.answer room) in
    let front = ap (take n) (S.after room) ∙ take_at (image_of_table (reading xs)) (drop (length (image_of_table (reading xs))) old) n (sym size) in
    let M = (subst (λ (s : List ℕ). Opened s zs b ws) front O).makes _ _ (table_allowed xs T) refl in
    let devices_are = queue_length t.devices t.taken in
    let B = M.after (rw devices_are long) in
    let says = B.says in (
      M.answer (rw devices_are long),
      record {
        devices = ap (λ (s : Table sheet). s.devices) says ∙ devices_are;
        cells = ap (λ (s : Table sheet). s.cells) says ∙ queue_length t.cells t.sheet;
        sheet = ap (λ (s : Table sheet). s.sheet) says ∙ fun_ext (λ c. queue_cut t.cells t.sheet Blank c ∙ sheet_cut xs c);
        taken = ap (λ (s : Table sheet). s.taken) says ∙ fun_ext (λ d. queue_cut t.devices t.taken 0 d ∙ taken_cut xs d);
      },
    )

-- The bytes are an image.
abbrev pub Image : List ℕ → Type 0
Image bytes = (cells : List Cell) × (numbers : List ℕ) × Allowed cells numbers × (bytes ≡ image_of cells numbers)

pub none : (bytes : List ℕ) → (Image bytes → ⊥) → NotImage bytes
none bytes n cells numbers ok e = n (cells, numbers, ok, e)

-- What was opened has the image that it was opened from.
image_back : (cells : List Cell) (numbers xs ys : List ℕ) → Became xs ys (fresh sheet (start_of cells numbers)) → image_of_table (reading ys) ≡ image_of cells numbers
image_back cells numbers xs ys B = ap image_of_table B.says ∙ (λ i. image_of (queue_is Blank cells i) (queue_is 0 numbers i))

pub opened_written : OpenedWritten
opened_written bytes xs ys old new a b O e W long = either_way (Image bytes) b (length_is (length bytes)) new (bytes ++ drop (length bytes) old)
    (λ p. image p)
    (λ n. absurd (done_refused _ _ e (O.no_image (none bytes n)).number))
  where
    image : Image bytes → (b ≡ length_is (length bytes)) × (new ≡ bytes ++ drop (length bytes) old)
    image p =
        let g = ((opening_answers bytes xs ys a O).open_done p.0 p.1 p.2 p.3).0 e in
        let T = (opened_table p.0 p.1 xs ys a p.2 (subst (λ (s : List ℕ). Opened s xs a ys) p.3 O) e).is_table in
        let S = subst (λ (s : List ℕ). Stores s old b new) (image_back p.0 p.1 xs ys ((O.makes p.0 p.1 p.2 p.3).after g) ∙ sym p.3) (W.stores T) in
        (S.answer long, S.after long)

pub opened_written_given : OpenedWrittenGiven
opened_written_given bytes xs ys old new r q O e W long =
    let o = opened_written bytes xs ys old new (meaning r) (meaning q) O e W long in
    (meaning_one q (Ok (Length (length bytes))) o.0, o.1)

pub one_writing : OneWriting
one_writing xs old new other a b A B = either_way (IsTable xs) a b new other
    (λ T. ⊎_elim (λ l. refused_once BufferShort old new other a b ((A.stores T).short l) ((B.stores T).short l)) (λ g. ((A.stores T).answer g ∙ sym ((B.stores T).answer g), (A.stores T).after g ∙ sym ((B.stores T).after g))) (lt_or_ge (length old) (length (image_of_table (reading xs)))))
    (λ n. refused_once NoTable old new other a b (A.no_table n) (B.no_table n))

pub one_opening : OneOpening
one_opening bytes xs ys zs a b A B = either_way (Image bytes) a b ys zs
    (λ p. made (A.makes p.0 p.1 p.2 p.3) (B.makes p.0 p.1 p.2 p.3))
    (λ n. refused_once NoImage xs ys zs a b (A.no_image (none bytes n)) (B.no_image (none bytes n)))
  where
    made : {s : Start sheet} → Makes s xs a ys → Makes s xs b zs → (a ≡ b) × (ys ≡ zs)
    made {s} M N = ⊎_elim (λ l. refused_once NoTable xs ys zs a b (M.short l) (N.short l)) (λ g. (M.answer g ∙ sym (N.answer g), became_once xs ys zs (fresh sheet s) (M.after g) (N.after g))) (lt_or_ge (length xs) (need s.devices))

pub one_writing_given : OneWritingGiven
one_writing_given xs old new other r q A B = given_once r q new other (one_writing xs old new other (meaning r) (meaning q) A B)

pub one_opening_given : OneOpeningGiven
one_opening_given bytes xs ys zs r q A B = given_once r q ys zs (one_opening bytes xs ys zs (meaning r) (meaning q) A B)

pub writing_reads_words_in_use : WritingReadsWordsInUse
writing_reads_words_in_use xs ys old new other a b A W R = one_writing xs old new other a b W
    record {
      no_table = λ n. R.no_table (λ T. n (also_table ys xs (agree_back xs ys A) T));
      stores = λ T. subst (λ (t : Table sheet). Stores (image_of_table t) old b other) (says_same xs ys A T.valid) (R.stores (also_table xs ys A T));
    }

pub opening_reads_no_word : OpeningReadsNoWord
opening_reads_no_word cells numbers xs ys xs' ys' a b ok h k A B =
    let M = A.makes cells numbers ok refl in
    let N = B.makes cells numbers ok refl in
    made_alike (fresh sheet (start_of cells numbers)) xs ys xs' ys' a b (M.answer h) (N.answer k) (M.after h) (N.after k)

pub writing_given_by_words_in_use : WritingGivenByWordsInUse
writing_given_by_words_in_use xs ys old new other r q A W R =
    given_once r q new other (writing_reads_words_in_use xs ys old new other (meaning r) (meaning q) A W R)

pub opening_given_by_no_word : OpeningGivenByNoWord
opening_given_by_no_word cells numbers xs ys xs' ys' r q ok h k A B =
    meaning_one r q (opening_reads_no_word cells numbers xs ys xs' ys' (meaning r) (meaning q) ok h k A B).answers
