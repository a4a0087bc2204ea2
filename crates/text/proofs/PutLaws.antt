-- Text that is put into a buffer, piece behind piece. Assumes nothing.
use Prim.Native.Nat.{ℕ, ◌+◌, ◌-◌, ◌≤◌}
use mathlib.Core.Path.{◌≡◌, refl, ap, sym, subst, ◌∙◌}
use mathlib.Core.List.{List, [], ◌∷◌, ◌++◌, append_assoc, append-nil}
use native.Mathlib.Omega.{arith}
use native.Mathlib.Numerals.{add-one}
use lib.ListN.{take-append-drop, length, take, drop, set, length-set, length-append, length-drop}
use lib.Seq.{length-take-le, take-suc-set, drop-set-lt, drop-drop}
use borrow.Rule.Slice.PartMut.{put_mid, same_len_mid}
use Rattle.std.proofs.lemmas.Slice.{take-put_mid, drop-put_mid}
use Rattle.text.specs.Text.{Put}

module _ (a : List ℕ) (at : ℕ) where
  pub put_none : Put a at [] a at
  put_none = record { behind = omega arith; long = refl; holds = sym (append-nil (take at a)); kept = refl }

  pub put_one : (b : ℕ) → at + 1 ≤ length a → Put a at (b ∷ []) (set a at b) (at + 1)
  put_one b h = record {
    behind = omega arith;
    long = length-set a at b;
    holds = rw add-one (take-suc-set a at b (omega arith));
    kept = drop-set-lt (at + 1) a at b (omega arith);
  }

-- what stands behind is kept by both of two texts
kept_then : (a b d t : List ℕ) (r q : ℕ) → q ≡ r + length t → drop r b ≡ drop r a → drop q d ≡ drop q b → drop q d ≡ drop q a
kept_then a b d t r q e p o =
    o
    ∙ ap (λ (n : ℕ). drop n b) e
    ∙ sym (drop-drop (length t) r b)
    ∙ ap (drop (length t)) p
    ∙ drop-drop (length t) r a
    ∙ ap (λ (n : ℕ). drop n a) (sym e)

pub put_then : (a : List ℕ) (at : ℕ) (s b : List ℕ) (r : ℕ) (t d : List ℕ) (q : ℕ) → Put a at s b r → Put b r t d q → Put a at (s ++ t) d q
put_then a at s b r t d q p o = record {
  behind = omega (arith, p.behind, o.behind, length-append s t);
  long = o.long ∙ p.long;
  holds = o.holds ∙ ap (λ (l : List ℕ). l ++ t) p.holds ∙ append_assoc (take at a) s t;
  kept = kept_then a b d t r q o.behind p.kept o.kept;
}

-- no second outcome fits
pub put_once :
    (a : List ℕ) (at : ℕ) (s b : List ℕ) (r : ℕ) (d : List ℕ) (q : ℕ) → Put a at s b r → Put a at s d q → (b ≡ d) × (r ≡ q)
put_once a at s b r d q p o =
    let e : r ≡ q = p.behind ∙ sym o.behind in (
      sym (take-append-drop r b)
          ∙ ap (λ (l : List ℕ). l ++ drop r b) (p.holds ∙ sym o.holds ∙ ap (λ (n : ℕ). take n d) (sym e))
          ∙ ap (λ (l : List ℕ). take r d ++ l) (p.kept ∙ ap (λ (n : ℕ). drop n a) e ∙ sym o.kept ∙ ap (λ (n : ℕ). drop n d) (sym e))
          ∙ take-append-drop r d,
      e,
    )

pub put_as : (a : List ℕ) (at : ℕ) {s t : List ℕ} (b : List ℕ) (r : ℕ) → s ≡ t → Put a at s b r → Put a at t b r
put_as a at b r e p = subst (λ (l : List ℕ). Put a at l b r) e p

-- a text that is copied into the part of the buffer that it fills
pub put_part :
    (a : List ℕ) (at : ℕ) (s : List ℕ)
    → at + length s ≤ length a
    → Put a at s (put_mid at (at + length s - at) a s) (at + length s)
put_part a at s f = record {
  behind = refl;
  long = same_len_mid at (at + length s - at) a s (omega (arith, length-take-le (at + length s - at) (drop at a) (omega (arith, length-drop at a))));
  holds = take-put_mid at (at + length s - at) a s (at + length s) refl (omega arith);
  kept = drop-put_mid at (at + length s - at) a s (at + length s) (omega arith) (omega arith) (omega arith);
}
