-- What a loop over places finds: the places that it reads are as they were when it began. Assumes nothing.
use mathlib.Core.Path.{◌≡◌, ◌∙◌}
use mathlib.Core.Bool.{true}
use mathlib.Core.List.{List}
use Prim.Native.Nat.{ℕ, ◌+◌, ◌*◌, ◌<◌}
use native.Mathlib.Nat.{le_refl}
use native.Mathlib.Omega.{arith}
use Rattle.words.specs.Place.{Place, Filled, Valid, Beside}
use Rattle.words.proofs.Places.{Local, ahead, aside}

module _ (P : Place) (L : Local P) (xs ys : List ℕ) (to i : ℕ) (f : ℕ → P.Holds) (F : Filled P xs ys to i f) where
  -- the place that the loop stores to next
  pub target_value : P.value_at ys (to + P.width * i) ≡ P.value_at xs (to + P.width * i)
  target_value = L.value_same xs ys (to + P.width * i) (ahead P L xs to f ys i i F (le_refl i))

  pub target_valid : (n : ℕ) → i < n → Valid P xs to n → P.valid_at ys (to + P.width * i) ≡ true
  target_valid n h ok = L.valid_same xs ys (to + P.width * i) (ahead P L xs to f ys i i F (le_refl i)) ∙ ok i h

  -- a place of a run beside it
  module _ (Q : Place) (K : Local Q) (from n : ℕ) (h : i < n) (B : Beside P Q xs to from n) where
    pub source_value : Q.value_at ys (from + Q.width * i) ≡ Q.value_at xs (from + Q.width * i)
    source_value = K.value_same xs ys (from + Q.width * i) (aside P L xs to f ys i n from Q.width i F (omega arith) h B.apart)

    pub source_valid : Q.valid_at ys (from + Q.width * i) ≡ true
    source_valid = K.valid_same xs ys (from + Q.width * i) (aside P L xs to f ys i n from Q.width i F (omega arith) h B.apart) ∙ B.from_valid i h
