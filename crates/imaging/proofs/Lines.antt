-- Lines put one after the other. Assumes nothing.
use mathlib.Core.List.{List, ◌++◌}
use mathlib.Core.Path.{◌∙◌, ◌≡◌, ap, sym}
use Prim.Native.Nat.{◌*◌, ◌+◌, ◌≤◌, ℕ}
use native.Mathlib.Omega.{arith}
use lib.ListN.{length}
use Rattle.cbor.specs.Code.{each}
use Rattle.record.specs.Reading.{queue}
use Rattle.text.proofs.PutLaws.{put_as, put_none, put_then}
use Rattle.answers.specs.Answer.{PutUpTo, answer_line}
use Rattle.protocol.specs.declared.Refusal.TheVariants.{NoImage}
use Rattle.protocol.specs.Machine.{refused}
use Rattle.coding.specs.Image.{NotImage}
use Rattle.image.specs.Read.{ImageOf}
use Rattle.image.specs.Words.{cells_of, numbers_of}
use Rattle.image.proofs.Opens.{allowed_sizes}
use Rattle.image.proofs.Queued.{each_queue}
use Rattle.image.proofs.Whole.{image_inj}
use Rattle.listing.specs.Shown.{Shown, image_text}

-- The lines of the first values of g, one more at a time.
module _ {A : Type 0} (f : A → List ℕ) (g : ℕ → A) (before : List ℕ) (from : ℕ) where
  pub lines_none : PutUpTo (34 * 0) before from (each f (queue 0 g)) before from
  unfolding each queue
  lines_none = record { puts = put_none before from; within = omega arith }

  pub lines_more : (mid after : List ℕ) (i at next : ℕ) (a : A) → a ≡ g i → PutUpTo (34 * i) before from (each f (queue i g)) mid at → PutUpTo 34 mid at (f a) after next → PutUpTo (34 * (i + 1)) before from (each f (queue (i + 1) g)) after next
  lines_more mid after i at next a e P N = record {
    puts = put_as before from after next (ap (λ (x : A). each f (queue i g) ++ f x) e ∙ sym (each_queue f g i)) (put_then before from _ mid at _ after next P.puts N.puts);
    within = omega (arith, P.within, N.within);
  }

-- What the bytes decode to is shown.
module _ (bytes words numbers : List ℕ) (cells devices : ℕ) (I : ImageOf bytes words numbers cells devices) (before after : List ℕ) (r : ℕ) (room : 4096 ≤ length before) where
  pub shown_image : PutUpTo (34 * cells + 34 * devices) before 0 (image_text (cells_of words cells) (numbers_of numbers devices)) after r → Shown bytes before after r
  shown_image P = record {
    no_image = λ n. absurd (n (cells_of words cells) (numbers_of numbers devices) I.allowed I.is);
    text = λ cs ns ok e. let q = image_inj (cells_of words cells) cs (numbers_of numbers devices) ns I.allowed ok (sym I.is ∙ e) in rw (q.0, q.1) at P.puts;
    within = let z = allowed_sizes words numbers cells devices I.allowed in omega (arith, P.within, P.puts.long);
  }

pub shown_none : (bytes before after : List ℕ) (r : ℕ) → 4096 ≤ length before → NotImage bytes → PutUpTo 34 before 0 (answer_line (refused NoImage)) after r → Shown bytes before after r
shown_none bytes before after r room n P = record { no_image = λ m. P.puts; text = λ cs ns ok e. absurd (n cs ns ok e); within = omega (arith, P.within, P.puts.long) }
