-- The records of an input (document 01, "Step program"): "CRLF (the last may lack it)". Assumes nothing.
use Rattle.std.specs.Prelude.{ℕ, ◌-◌, List, [], ◌∷◌, ◌++◌, Bool, false, cond, length, get_or, take, eqb}

-- the last byte, 0 where there is none, and what stands before it
unfoldable pub last_of : List ℕ → ℕ
last_of q = get_or q (length q - 1) 0

unfoldable pub init_of : List ℕ → List ℕ
init_of q = take (length q - 1) q

-- whether the byte b ends a line whose last byte so far is `last`: an LF (10) behind a CR (13)
unfoldable pub ends_line : ℕ → ℕ → Bool
ends_line last b = cond (eqb b 10) (eqb last 13) false

-- a line that is not ended yet, or one that is
pub data Next : Type 0 where
  more : List ℕ → Next
  line : List ℕ → Next

-- the unended line q with the byte b behind it
unfoldable pub next_of : List ℕ → ℕ → Next
unfolding last_of init_of ends_line
next_of q b = cond (ends_line (last_of q) b) (line (init_of q)) (more (q ++ (b ∷ [])))

-- the lines that end, and the line that is left, where a byte was read and others follow
abbrev pub lines_at : Next → (List ℕ → List (List ℕ)) → List (List ℕ)
lines_at (more q) go = go q
lines_at (line k) go = k ∷ go []

abbrev pub unended_at : Next → (List ℕ → List ℕ) → List ℕ
unended_at (more q) go = go q
unended_at (line k) go = go []

-- of q ++ input, where q is not ended: the lines that end in the input, and the line that is not ended behind it
unfoldable pub ended_in : List ℕ → List ℕ → List (List ℕ)
unfolding next_of
ended_in q [] = []
ended_in q (b ∷ input) = lines_at (next_of q b) (λ p. ended_in p input)

unfoldable pub unended_after : List ℕ → List ℕ → List ℕ
unfolding next_of
unended_after q [] = q
unended_after q (b ∷ input) = unended_at (next_of q b) (λ p. unended_after p input)

-- "The last may lack it": what is left at the end is a line where it has a byte
abbrev pub last_line : List ℕ → List (List ℕ)
last_line q = cond (eqb (length q) 0) [] (q ∷ [])

-- all lines of an input
unfoldable pub lines_of : List ℕ → List (List ℕ)
unfolding ended_in unended_after
lines_of input = ended_in [] input ++ last_line (unended_after [] input)
