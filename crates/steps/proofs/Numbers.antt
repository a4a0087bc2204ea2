-- Fields that are numbers, both ways. Assumes nothing.
use Prim.Native.Nat.{ℕ, ◌≤◌}
use mathlib.Core.Path.{◌≡◌, ap, ◌∙◌}
use mathlib.Core.List.{List}
use native.Mathlib.Omega.{arith}
use Rattle.text.specs.Field.{field_of}
use Rattle.text.specs.Number.{decimal_of}
use Rattle.text.specs.Text.{decimal_text}
use Rattle.std.specs.Prelude.{Option, Some, None}
use Rattle.std.proofs.lemmas.Option.{some_pair_parts}
use Rattle.text.proofs.DecimalTrip.{decimal_complete, decimal_sound}
use Rattle.wording.specs.Values.{number_at}
use Rattle.steps.specs.Parse.{pair_of}
use Rattle.steps.specs.Grammar.{largest}
use Rattle.text.proofs.Cases.{some_of}

pub number_sound : (k : ℕ) (l : List ℕ) (v : ℕ) → number_at k l ≡ Some v → (field_of k l ≡ decimal_text v) × (v ≤ largest)
unfolding number_at
number_sound k l v e = decimal_sound largest (field_of k l) v e

pub number_is : (k : ℕ) (l : List ℕ) {v : ℕ} → field_of k l ≡ decimal_text v → v ≤ largest → number_at k l ≡ Some v
unfolding number_at
number_is k l {v} e h = ap (decimal_of largest) e ∙ decimal_complete largest v h

-- fields 1 and 2
pub record PairRead (l : List ℕ) (a b : ℕ) : Type 0 where
  pub first : field_of 1 l ≡ decimal_text a
  pub second : field_of 2 l ≡ decimal_text b
  pub small : (a ≤ largest) × (b ≤ largest)

pub pair_sound : (l : List ℕ) (a b : ℕ) → pair_of l ≡ Some (a, b) → PairRead l a b
unfolding pair_of
pair_sound l a b =
    some_of P (number_at 1 l) none λ x p.
    some_of P (number_at 2 l) none λ y q.
    λ e.
    let s = number_sound 1 l x p in
    let t = number_sound 2 l y q in
    let u = some_pair_parts x a y b e in
    record { first = s.0 ∙ ap decimal_text u.0; second = t.0 ∙ ap decimal_text u.1; small = (omega (arith, s.1, u.0), omega (arith, t.1, u.1)) }
  where
    P : Option (ℕ × ℕ) → Type 0
    P m = m ≡ Some (a, b) → PairRead l a b

    none : P None
    none e = let z : ◌≡◌ {A = ℕ} 0 1 = cc in absurd (omega arith)

pub pair_is : (l : List ℕ) (a b : ℕ) → PairRead l a b → pair_of l ≡ Some (a, b)
unfolding pair_of
pair_is l a b r = rw (number_is 1 l r.first r.small.0, number_is 2 l r.second r.small.1)
