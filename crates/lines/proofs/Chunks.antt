-- The lines of an input do not depend on how it arrives in pieces. Assumes nothing.
use Prim.Native.Nat.{ℕ}
use mathlib.Core.Path.{◌≡◌, refl, ap, sym, ◌∙◌}
use mathlib.Core.List.{List, [], ◌∷◌, ◌++◌, append_assoc, append-nil}
use mathlib.Core.Bool.{Bool, true, false}
use native.Mathlib.Omega.{arith}
use Rattle.lines.specs.Lines.{last_of, init_of, ends_line, Next, more, line, next_of, lines_at, lines_of, unended_at, unended_after, ended_in, last_line}
use Rattle.lines.proofs.Ends.{next_ended, next_line, next_more}

pub unended_append : (q a b : List ℕ) → unended_after q (a ++ b) ≡ unended_after (unended_after q a) b
unfolding unended_after
unended_append q [] b = refl
unended_append q (x ∷ a) b = by (next_of q x) (λ p. unended_append p a b)
  where
    by :
        (n : Next)
        → ((p : List ℕ) → unended_after p (a ++ b) ≡ unended_after (unended_after p a) b)
        → unended_at n (λ p. unended_after p (a ++ b)) ≡ unended_after (unended_at n (λ p. unended_after p a)) b
    by (more p) ih = ih p
    by (line k) ih = ih []

pub ended_append : (q a b : List ℕ) → ended_in q (a ++ b) ≡ ended_in q a ++ ended_in (unended_after q a) b
unfolding unended_after ended_in
ended_append q [] b = refl
ended_append q (x ∷ a) b = by (next_of q x) (λ p. ended_append p a b)
  where
    by :
        (n : Next)
        → ((p : List ℕ) → ended_in p (a ++ b) ≡ ended_in p a ++ ended_in (unended_after p a) b)
        → lines_at n (λ p. ended_in p (a ++ b)) ≡ lines_at n (λ p. ended_in p a) ++ ended_in (unended_at n (λ p. unended_after p a)) b
    by (more p) ih = ih p
    by (line k) ih = ap (λ (l : List (List ℕ)). k ∷ l) (ih [])

-- all lines of an input that arrives in two pieces: those that end in the first, then those of the second behind the line that was left
pub lines_append :
    (a b : List ℕ)
    → lines_of (a ++ b) ≡ ended_in [] a ++ (ended_in (unended_after [] a) b ++ last_line (unended_after (unended_after [] a) b))
unfolding lines_of
lines_append a b =
    ap (λ (l : List (List ℕ)). l ++ last_line (unended_after [] (a ++ b))) (ended_append [] a b)
    ∙ ap (λ (q : List ℕ). (ended_in [] a ++ ended_in (unended_after [] a) b) ++ last_line q) (unended_append [] a b)
    ∙ append_assoc (ended_in [] a) (ended_in (unended_after [] a) b) (last_line (unended_after (unended_after [] a) b))

-- where no line ends in an input, all of it is left
none_ended : (q l : List ℕ) → ended_in q l ≡ [] → unended_after q l ≡ q ++ l
unfolding ended_in unended_after
none_ended q [] e = sym (append-nil q)
none_ended q (b ∷ l) e = by (ends_line (last_of q) b) refl (none_ended (q ++ (b ∷ [])) l)
  where
    by :
        (t : Bool)
        → ends_line (last_of q) b ≡ t
        → (ended_in (q ++ (b ∷ [])) l ≡ [] → unended_after (q ++ (b ∷ [])) l ≡ (q ++ (b ∷ [])) ++ l)
        → unended_at (next_of q b) (λ p. unended_after p l) ≡ q ++ b ∷ l
    by true t ih =
        let f : init_of q ∷ ended_in [] l ≡ [] = ap (λ (n : Next). lines_at n (λ p. ended_in p l)) (sym (next_line q b t)) ∙ e in
        let z : ◌≡◌ {A = ℕ} 0 1 = cc in absurd (omega arith)
    by false t ih =
        let f : ended_in (q ++ (b ∷ [])) l ≡ [] = ap (λ (n : Next). lines_at n (λ p. ended_in p l)) (sym (next_more q b t)) ∙ e in
        ap (λ (n : Next). unended_at n (λ p. unended_after p l)) (next_more q b t) ∙ ih f ∙ append_assoc q (b ∷ []) l

-- a record, and the CR LF that ends it: no line ends before
pub line_first : (k rest : List ℕ) → ended_in [] (k ++ (13 ∷ [])) ≡ [] → lines_of (k ++ 13 ∷ 10 ∷ rest) ≡ k ∷ lines_of rest
unfolding lines_of ended_in unended_after
line_first k rest e =
    let a = k ++ (13 ∷ []) in
    let p : unended_after [] a ≡ a = none_ended [] a e in
    ap lines_of (sym (append_assoc k (13 ∷ []) (10 ∷ rest)))
    ∙ lines_append a (10 ∷ rest)
    ∙ ap (λ (l : List (List ℕ)). l ++ (ended_in (unended_after [] a) (10 ∷ rest) ++ last_line (unended_after (unended_after [] a) (10 ∷ rest)))) e
    ∙ ap (λ (q : List ℕ). ended_in q (10 ∷ rest) ++ last_line (unended_after q (10 ∷ rest))) p
    ∙ ap (λ (n : Next). lines_at n (λ q. ended_in q rest) ++ last_line (unended_at n (λ q. unended_after q rest))) (next_ended k)
