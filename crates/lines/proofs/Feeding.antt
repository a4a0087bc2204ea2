-- What each answer to a byte says of the lines: what a loop over a chunk of input needs. Assumes nothing.
use Prim.Native.Nat.{ℕ, ◌≤◌, ◌<◌}
use mathlib.Core.Path.{◌≡◌, refl, ap, sym, subst}
use mathlib.Core.List.{List, [], ◌∷◌}
use lib.ListN.{length, take}
use Rattle.lines.specs.declared.Unended.{Unended}
use Rattle.lines.specs.declared.Fed.{Fed}
use Rattle.lines.specs.declared.Fed.TheVariants.{More, Line, Long}
use Rattle.lines.specs.Lines.{Next, more, line, next_of, lines_at, unended_at, unended_after, ended_in}
use Rattle.lines.specs.Held.{Held, FedIs, fed_of, buffer_after}
use Rattle.lines.proofs.Held.{fed_is}

-- the lines that a byte ends, and the line that is left behind it
abbrev pub ended_by : Next → List (List ℕ)
ended_by n = lines_at n (λ q. [])

abbrev pub left_by : Next → List ℕ
left_by n = unended_at n (λ q. q)

-- the line goes on
pub record Goes (n : Next) (buffer : List ℕ) (p : Unended) : Type 0 where
  pub held : Held (left_by n) buffer p
  pub none : ended_by n ≡ []

-- a line has ended, and nothing is left: it stands in the buffer, or is long
pub record Stands (n : Next) (buffer : List ℕ) (m : ℕ) : Type 0 where
  pub ended : ended_by n ≡ take m buffer ∷ []
  pub within : m ≤ 80
  pub empty : left_by n ≡ []

pub record IsLong (n : Next) : Type 0 where
  pub text : List ℕ
  pub ended : ended_by n ≡ text ∷ []
  pub long : 80 < length text
  pub empty : left_by n ≡ []

module _ (buffer : List ℕ) where
  goes : (n : Next) (p : Unended) → FedIs n (More p) buffer → Goes n buffer p
  goes (more q) p h = record { held = h; none = refl }
  goes (line k) p h = absurd h

  stands : (n : Next) (m : ℕ) → FedIs n (Line m) buffer → Stands n buffer m
  stands (more q) m h = absurd h
  stands (line k) m h = record { ended = ap (λ (t : List ℕ). t ∷ []) (sym h.2); within = h.1; empty = refl }

  is_long : (n : Next) → FedIs n Long buffer → IsLong n
  is_long (more q) h = absurd h
  is_long (line k) h = record { text = k; ended = refl; long = h; empty = refl }

-- of the line q that is held before the byte b
module _ (q buffer : List ℕ) (p : Unended) (b : ℕ) (room : 81 ≤ length buffer) (h : Held q buffer p) where
  pub answer_right : (a : Fed) → fed_of p b ≡ a → FedIs (next_of q b) a (buffer_after buffer p b)
  answer_right a e = subst (λ (x : Fed). FedIs (next_of q b) x (buffer_after buffer p b)) e (fed_is q buffer p b room h)

  pub fed_more : (r : Unended) → fed_of p b ≡ More r → Goes (next_of q b) (buffer_after buffer p b) r
  fed_more r e = goes (buffer_after buffer p b) (next_of q b) r (answer_right (More r) e)

  pub fed_line : (m : ℕ) → fed_of p b ≡ Line m → Stands (next_of q b) (buffer_after buffer p b) m
  fed_line m e = stands (buffer_after buffer p b) (next_of q b) m (answer_right (Line m) e)

  pub fed_long : fed_of p b ≡ Long → IsLong (next_of q b)
  fed_long e = is_long (buffer_after buffer p b) (next_of q b) (answer_right Long e)

-- the same of one byte of an input
pub ended_one : (q : List ℕ) (b : ℕ) → ended_in q (b ∷ []) ≡ ended_by (next_of q b)
unfolding ended_in
ended_one q b = refl

pub unended_one : (q : List ℕ) (b : ℕ) → unended_after q (b ∷ []) ≡ left_by (next_of q b)
unfolding unended_after
unended_one q b = refl
