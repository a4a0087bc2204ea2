-- The text of an image as a whole: cells' lines, then numbers' lines, and nothing left. Assumes nothing.
use mathlib.Core.List.{List, [], ◌++◌, ◌∷◌, append_assoc, append-nil}
use mathlib.Core.Path.{◌∙◌, ◌≡◌, ap, refl, subst, sym}
use Prim.Native.Nat.{◌<◌, ℕ}
use native.Mathlib.Omega.{arith}
use lib.ListN.{drop, get_or, length, length-drop}
use lib.Seq.{drop-length}
use Rattle.cbor.specs.Code.{All, each, Free, Within}
use Rattle.cells.specs.declared.Cell.{Cell}
use Rattle.cells.specs.declared.Cell.TheVariants.{Blank, Count, Measure}
use Rattle.text.specs.Field.{record_of}
use Rattle.words.specs.Place.{Valid, cell_place}
use Rattle.record.proofs.Queues.{queue_length}
use Rattle.answers.specs.Answer.{answer_line, answer_text, cell_text}
use Rattle.coding.specs.Image.{Allowed, NumberAllowed}
use Rattle.coding.specs.Item.{CellAllowed}
use Rattle.image.specs.Words.{cell_in, cells_of, numbers_of}
use Rattle.imaging.specs.Claims.{OneText}
use Rattle.imaging.specs.Composed.{NotText, TextOf}
use Rattle.listing.specs.Shown.{cell_line, image_text, number_line, number_record}
use Rattle.imaging.specs.Runs.{RunIs}
use Rattle.imaging.specs.declared.compose.Run.{Run}
use Rattle.listing.proofs.Coded.{cell_line_free, number_line_free}

-- no code is at the front
abbrev NoneAt : {A : Type 0} → (A → List ℕ) → (A → Type 0) → List ℕ → Type 0
NoneAt {A} f Ok u = (a : A) (r : List ℕ) → Ok a → u ≡ f a ++ r → ⊥

-- As many codes as there are: two such runs of one text are the same.
module _ {A : Type 0} (f : A → List ℕ) (Ok : A → Type 0) (free : Free f Ok) where
  same_run : (k l : List A) (u v : List ℕ) → All Ok k → All Ok l → each f k ++ u ≡ each f l ++ v → NoneAt f Ok u → (length l < length k → NoneAt f Ok v) → (k ≡ l) × (u ≡ v)
  unfolding each All
  same_run [] [] u v ok ol e n m = (refl, e)
  same_run [] (b ∷ l) u v ok ol e n m = absurd (n b (each f l ++ v) ol.0 (e ∙ append_assoc (f b) (each f l) v))
  same_run (a ∷ k) [] u v ok ol e n m = absurd (m (omega arith) a (each f k ++ u) ok.0 (sym e ∙ append_assoc (f a) (each f k) u))
  same_run (a ∷ k) (b ∷ l) u v ok ol e n m =
      let s = free a b (each f k ++ u) (each f l ++ v) ok.0 ol.0 (sym (append_assoc (f a) (each f k) u) ∙ e ∙ append_assoc (f b) (each f l) v) in
      let t = same_run k l u v ok.1 ol.1 s.1 n (λ h. m (omega arith)) in
      (ap (λ (x : A). x ∷ k) s.0 ∙ ap (λ (x : List A). b ∷ x) t.0, t.1)

-- a number's line is no cell's, and neither is nothing
pub cell_first : (c : Cell) (r : List ℕ) → get_or (cell_line c ++ r) 0 0 < 110
unfolding answer_line answer_text cell_text record_of
cell_first Blank r = omega arith
cell_first (Count z) r = omega arith
cell_first (Measure x) r = omega arith

cell_some : (c : Cell) (r : List ℕ) → 0 < length (cell_line c ++ r)
unfolding answer_line answer_text cell_text record_of
cell_some Blank r = omega arith
cell_some (Count z) r = omega arith
cell_some (Measure x) r = omega arith

number_first : (k : ℕ) (r : List ℕ) → get_or (number_line k ++ r) 0 0 ≡ 110
unfolding number_line number_record record_of
number_first k r = refl

no_cell : (ns r : List ℕ) (c : Cell) → each number_line ns ≡ cell_line c ++ r → ⊥
unfolding each
no_cell [] r c e = omega (arith, ap length e, cell_some c r)
no_cell (k ∷ ns) r c e = omega (arith, ap (λ (l : List ℕ). get_or l 0 0) e, cell_first c r, number_first k (each number_line ns))

no_number : (k : ℕ) (r : List ℕ) → [] ≡ number_line k ++ r → ⊥
no_number k r e = omega (arith, ap (λ (l : List ℕ). get_or l 0 0) e, number_first k r)

numbers_end : (ns : List ℕ) → each number_line ns ++ [] ≡ each number_line ns
numbers_end ns = append-nil (each number_line ns)

-- What two runs over a text say of it: l and m are the cells and numbers of their lines.
module _ (s : List ℕ) (l : List Cell) (m : List ℕ) (p q : ℕ) (ol : All CellAllowed l) (om : All NumberAllowed m)
    (first : s ≡ each cell_line l ++ drop p s) (then : drop p s ≡ each number_line m ++ drop q s)
    (more-cells : length l < 64 → NoneAt cell_line CellAllowed (drop p s)) (more_numbers : length m < 8 → NoneAt number_line NumberAllowed (drop q s)) where
  runs_are : (cs : List Cell) (ns : List ℕ) → Allowed cs ns → s ≡ image_text cs ns → (cs ≡ l) × (ns ≡ m) × ([] ≡ drop q s)
  unfolding image_text
  runs_are cs ns ok e =
      let c = same_run cell_line CellAllowed cell_line_free cs l (each number_line ns) (drop p s) ok.sheet.every ol (sym e ∙ first) (λ a r _. no_cell ns r a) (λ h. more-cells (omega (arith, ok.sheet.count.1))) in
      let n = same_run number_line NumberAllowed number_line_free ns m [] (drop q s) ok.devices.every om (numbers_end ns ∙ c.1 ∙ then) (λ a r _. no_number a r) (λ h. more_numbers (omega (arith, ok.devices.count.1))) in
      (c.0, n.0, n.1)

-- two images never have one text
pub text_inj : OneText
unfolding image_text
text_inj cs ds ns ms a b e =
    let c = same_run cell_line CellAllowed cell_line_free cs ds (each number_line ns) (each number_line ms) a.sheet.every b.sheet.every e (λ x r _. no_cell ns r x) (λ h x r _. no_cell ms r x) in
    let n = same_run number_line NumberAllowed number_line_free ns ms [] [] a.devices.every b.devices.every (numbers_end ns ∙ c.1 ∙ sym (numbers_end ms)) (λ x r _. no_number x r) (λ h x r _. no_number x r) in
    (c.0, n.0)

-- What `read_text` answers of its two runs.
module _ (s words numbers : List ℕ) (a b : Run)
    (C : RunIs cell_line CellAllowed (cells_of words) (Valid cell_place words 0) 64 s 0 a) (D : RunIs number_line NumberAllowed (numbers_of numbers) (λ n. (k : ℕ) → k < n → Unit {0}) 8 s a.next b) where
  cells_count : length (cells_of words a.count) ≡ a.count
  cells_count = queue_length a.count (cell_in words 0)

  numbers_count : length (numbers_of numbers b.count) ≡ b.count
  numbers_count = queue_length b.count (λ k. get_or numbers k 0)

  read_is : (cs : List Cell) (ns : List ℕ) → Allowed cs ns → s ≡ image_text cs ns → (cs ≡ cells_of words a.count) × (ns ≡ numbers_of numbers b.count) × ([] ≡ drop b.next s)
  read_is = runs_are s (cells_of words a.count) (numbers_of numbers b.count) a.next b.next C.here.1 D.here.1 C.here.2.here D.here.2.here
      (λ h. C.stops (omega (arith, cells_count))) (λ h. D.stops (omega (arith, numbers_count)))

  pub no_cells : a.count ≡ 0 → NotText s
  no_cells z cs ns ok e = let r = read_is cs ns ok e in omega (arith, ap length r.0, cells_count, ok.sheet.count.0)

  pub no_numbers : b.count ≡ 0 → NotText s
  no_numbers z cs ns ok e = let r = read_is cs ns ok e in omega (arith, ap length r.1, numbers_count, ok.devices.count.0)

  pub text_left : (b.next ≡ length s → ⊥) → NotText s
  text_left n cs ns ok e = let r = read_is cs ns ok e in n (omega (arith, D.here.2.within, ap length r.2, length-drop b.next s))

  pub text_of : (a.count ≡ 0 → ⊥) → (b.count ≡ 0 → ⊥) → b.next ≡ length s → TextOf s words numbers a.count b.count
  text_of x y z = record {
    allowed = record {
      sheet = record { count = subst (Within 1 64) (sym cells_count) (omega arith, C.within, omega (arith, C.within)); every = C.here.1 };
      devices = record { count = subst (Within 1 8) (sym numbers_count) (omega arith, D.within, omega (arith, D.within)); every = D.here.1 };
    };
    is = unfold image_text in (C.here.2.here ∙ ap (λ (u : List ℕ). each cell_line (cells_of words a.count) ++ u) (D.here.2.here ∙ ap (λ (u : List ℕ). each number_line (numbers_of numbers b.count) ++ u) end ∙ numbers_end (numbers_of numbers b.count)));
    valid = C.sound;
  }
    where
      end : drop b.next s ≡ []
      end = ap (λ (k : ℕ). drop k s) z ∙ drop-length s
