-- The fields of a record (document 01, "Step program": "RFC 4180 records …, no quotes"), which commas (44) separate. Assumes nothing.
use Rattle.std.specs.Prelude.{ℕ, zero, suc, List, [], ◌∷◌, ◌++◌, cond, eqb}

-- the record of a first field and others: a comma between each two
unfoldable pub record_of : List ℕ → List (List ℕ) → List ℕ
record_of field [] = field
record_of field (next ∷ others) = field ++ 44 ∷ record_of next others

unfoldable pub commas_of : List ℕ → ℕ
commas_of [] = 0
commas_of (b ∷ rest) = cond (eqb b 44) (suc (commas_of rest)) (commas_of rest)

-- what stands behind the k-th comma; nothing where there are fewer
unfoldable pub after_commas : ℕ → List ℕ → List ℕ
after_commas zero l = l
after_commas (suc k) [] = []
after_commas (suc k) (b ∷ rest) = cond (eqb b 44) (after_commas k rest) (after_commas (suc k) rest)

unfoldable pub up_to_comma : List ℕ → List ℕ
up_to_comma [] = []
up_to_comma (b ∷ rest) = cond (eqb b 44) [] (b ∷ up_to_comma rest)

-- field k, from 0
unfoldable pub field_of : ℕ → List ℕ → List ℕ
unfolding up_to_comma after_commas
field_of k l = up_to_comma (after_commas k l)
