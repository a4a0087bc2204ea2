-- A line held in a buffer (document 01, "Step program"): "at most 80 bytes before it", "a longer line (read past to its end)". Assumes nothing.
use Rattle.std.specs.Prelude.{ℕ, ◌+◌, ◌-◌, ◌≤◌, ◌<◌, ◌≡◌, List, [], cond, length, take, set, eqb, ltb}
use Rattle.lines.specs.Lines.{last_of, ends_line, Next, more, line}
use Rattle.lines.specs.declared.Unended.{Unended}
use Rattle.lines.specs.declared.Fed.{Fed}
use Rattle.lines.specs.declared.Fed.TheVariants.{More, Line, Long}

-- the unended line q is held: its last byte; up to 81 bytes, its length and its bytes in the buffer; of a longer one, that it is longer
pub record Held (q buffer : List ℕ) (p : Unended) : Type 0 where
  pub ends : p.last ≡ last_of q
  pub short : length q ≤ 81 → (p.len ≡ length q) × (take (length q) buffer ≡ q)
  pub long : 81 < length q → p.len ≡ 82

-- what is right to answer to a byte: of an unended line, that it is held; of a line of at most 80 bytes, that it stands in the buffer; of another, that it is long
abbrev pub FedIs : Next → Fed → List ℕ → Type 0
FedIs (more q) (More p) buffer = Held q buffer p
FedIs (line k) (Line n) buffer = (n ≡ length k) × (n ≤ 80) × (take n buffer ≡ k)
FedIs (line k) Long buffer = 80 < length k
FedIs (more q) (Line n) buffer = ⊥
FedIs (more q) Long buffer = ⊥
FedIs (line k) (More p) buffer = ⊥

-- the same at the end of the input
abbrev pub LastIs : List ℕ → Fed → List ℕ → Type 0
LastIs q (More p) buffer = q ≡ []
LastIs q (Line n) buffer = (n ≡ length q) × (0 < n) × (n ≤ 80) × (take n buffer ≡ q)
LastIs q Long buffer = 80 < length q

-- no line is begun
abbrev pub nothing : Unended
nothing = record { len = 0; last = 0 }

-- an ended line of which len bytes, the CR with them, were held
unfoldable pub ended_of : ℕ → Fed
ended_of len = cond (eqb len 0) Long (cond (ltb 81 len) Long (Line (len - 1)))

-- an unended line with the byte b behind it
unfoldable pub more_of : ℕ → ℕ → Fed
more_of len b = cond (ltb len 81) (More (record { len = len + 1; last = b })) (More (record { len = 82; last = b }))

-- the answer to a byte, and the buffer afterwards; `proofs/Held.antt` shows that it is right
unfoldable pub fed_of : Unended → ℕ → Fed
unfolding ended_of more_of
fed_of p b = cond (ends_line p.last b) (ended_of p.len) (more_of p.len b)

unfoldable pub buffer_after : List ℕ → Unended → ℕ → List ℕ
buffer_after buffer p b = cond (ends_line p.last b) buffer (cond (ltb p.len 81) (set buffer p.len b) buffer)

-- the answer at the end of the input
unfoldable pub finish_of : Unended → Fed
finish_of p = cond (eqb p.len 0) (More p) (cond (ltb 80 p.len) Long (Line p.len))
