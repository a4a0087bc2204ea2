-- `showing::read_full` meets its contract: what a read gives stands behind what was read before it.
use Rattle.std.proofs.Common.{◌≤◌, ◌+◌, ℕ, List, ◌++◌, length, take, drop, sym, ap, ◌∙◌, subst, append_assoc, rules}
use Rattle.std.proofs.lemmas.List.{take-append-le, length-take-le}
use Rattle.std.proofs.Math.Seq.{take-append-add}
use Rattle.std.specs.declared.option.Option.{Option}
use Rattle.std.specs.Prelude.{None, Some}
use Rattle.std.specs.Io.KnownBytes.{Consumes}
use borrow.Rule.Slice.PartMut.{put_mid}
use Rattle.showing.proofs.read_full.Goals as goal

-- the bytes f, then the first n of rs
joined : (a b c : Option (List ℕ)) (f rs t : List ℕ) (n : ℕ) → n ≤ length rs → Consumes a b f → Consumes b c (take n rs)
    → Consumes a c (take (length f + n) (f ++ (rs ++ t)))
joined None b c f rs t n h p q = tt
joined (Some x) None c f rs t n h p q = absurd p
joined (Some x) (Some y) None f rs t n h p q = absurd q
joined (Some x) (Some y) (Some z) f rs t n h p q =
    p ∙ ap (λ (l : List ℕ). f ++ l) q ∙ sym (append_assoc f (take n rs) z)
    ∙ ap (λ (l : List ℕ). l ++ z) (sym (take-append-add f (rs ++ t) n ∙ ap (λ (l : List ℕ). f ++ l) (take-append-le n rs t h)))

read_on : (a b c : Option (List ℕ)) (xs rs : List ℕ) (at k n : ℕ) → at ≤ length xs → n ≤ length rs → Consumes a b (take at xs)
    → Consumes b c (take n rs) → Consumes a c (take (at + n) (put_mid at k xs rs))
read_on a b c xs rs at k n l h p q =
    subst (λ (m : ℕ). Consumes a c (take (m + n) (put_mid at k xs rs))) (length-take-le at xs l) (joined a b c (take at xs) rs (drop k (drop at xs)) n h p q)

pub loop-done-preserved : goal.loop-done-preserved
loop-done-preserved g c = record {
  within = search rules;
  bytes = read_on _ _ _ c.loop-done.buf c.read.new.buf _ _ _ c.loop-done.invariant.within c.in_ok-n.ensures.bound.0 c.loop-done.invariant.bytes c.in_ok-n.ensures.bytes.0;
}
