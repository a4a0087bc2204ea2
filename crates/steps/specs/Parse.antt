-- How a line is read as a step (document 01, "Step program"); `proofs/Exactly.antt` ties it to `Grammar.antt`. Assumes nothing.
use Rattle.std.specs.Prelude.{ℕ, ◌-◌, List, Bool, true, false, cond, length, eqb, ltb, Option, Some, None}
use Rattle.text.specs.Field.{field_of, commas_of}
use Rattle.text.specs.Number.{on_some}
use Rattle.wording.specs.Names.{kind_of}
use Rattle.wording.specs.Values.{number_at, update_field_at}
use Rattle.wording.specs.declared.names.Kind.{Kind}
use Rattle.steps.specs.declared.parse.Counts.{Counts}
use Rattle.steps.specs.declared.parse.Step.{Step}

-- fields 1 and 2 as numbers, and the step that is made of them
unfoldable pub pair_of : List ℕ → Option (ℕ × ℕ)
pair_of l = on_some None (number_at 1 l) (λ a. on_some None (number_at 2 l) (λ b. Some (a, b)))

abbrev pub on_pair : Option (ℕ × ℕ) → (ℕ → ℕ → Option Step) → Option Step
on_pair p some = on_some None p (λ x. some x.0 x.1)

-- count k of n, which stands in field k; 0 where there are fewer
unfoldable pub count_at : ℕ → ℕ → List ℕ → Option ℕ
count_at n k l = cond (ltb n k) (Some 0) (number_at k l)

unfoldable pub counts_of : ℕ → List ℕ → Option Counts
unfolding count_at
counts_of n l =
    on_some None (count_at n 1 l) (λ a.
    on_some None (count_at n 2 l) (λ b.
    on_some None (count_at n 3 l) (λ c. Some (record { number = n; first = a; second = b; third = c }))))

-- "`batch` and `cut` carry one count per device (before a start, 1 to 3)": never none, never more than 3; before a start `devices` is 0
unfoldable pub counts_fit : ℕ → ℕ → Bool
counts_fit devices n = cond (eqb n 0) false (cond (ltb 3 n) false (cond (eqb devices 0) true (eqb n devices)))

-- n is the number of commas: "A wrong number of fields" is no step
unfoldable pub step_of : Kind → ℕ → ℕ → List ℕ → Option Step
step_of Kind.Start devices n l = cond (eqb n 2) (on_pair (pair_of l) (λ a b. Some (Step.Start a b))) None
step_of Kind.Read devices n l = cond (eqb n 2) (on_pair (pair_of l) (λ a b. Some (Step.Read a b))) None
step_of Kind.Update devices n l = on_pair (pair_of l) (λ a b. on_some None (update_field_at n l) (λ u. Some (Step.Update a b u)))
step_of (Kind.Device act) devices n l = cond (eqb n 1) (on_some None (number_at 1 l) (λ device. Some (Step.Device act device))) None
step_of Kind.Crash devices n l = cond (eqb n 0) (Some Step.Crash) None
step_of Kind.Batch devices n l = cond (counts_fit devices n) (on_some None (counts_of n l) (λ c. Some (Step.Batch c))) None
step_of Kind.Cut devices n l =
    cond (eqb n 0) None
    (cond (counts_fit devices (n - 1))
    (on_some None (counts_of (n - 1) l) (λ c. on_some None (number_at n l) (λ j. Some (Step.Cut c j))))
    None)

-- "A longer line … and an empty one are 13": the step that a line is
unfoldable pub parse_line : ℕ → List ℕ → Option Step
parse_line devices l =
    cond (ltb 80 (length l)) None (on_some None (kind_of (field_of 0 l)) (λ kind. step_of kind devices (commas_of l) l))
