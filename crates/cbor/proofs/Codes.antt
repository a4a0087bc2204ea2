-- Codes one after the other, over any code f of which none begins another. Assumes nothing.
use mathlib.Core.List.{List, [], ◌++◌, ◌∷◌, append_assoc, append-nil}
use mathlib.Core.Path.{◌∙◌, ◌≡◌, ap, refl, sym}
use Prim.Native.Nat.{◌*◌, ◌+◌, ◌<◌, ◌≤◌, suc, zero, ℕ}
use native.Mathlib.Nat.{add-zero}
use native.Mathlib.Omega.{arith}
use lib.ListN.{drop, get_or, length, length-append}
use Rattle.cbor.specs.Bytes.{Got}
use Rattle.cbor.specs.Code.{All, each, Free, Here, HereEach, Nowhere, NowhereEach}

module _ {A : Type 0} (f : A → List ℕ) where
  pub each_snoc : (l : List A) (a : A) → each f (l ++ (a ∷ [])) ≡ each f l ++ f a
  unfolding each
  each_snoc [] a = append-nil (f a)
  each_snoc (b ∷ l) a = ap (λ (x : List ℕ). f b ++ x) (each_snoc l a) ∙ sym (append_assoc (f b) (each f l) (f a))

  -- codes of at most one length
  pub each_bound : (Ok : A → Type 0) (k : ℕ) → ((a : A) → Ok a → length (f a) ≤ k) → (l : List A) → All Ok l → length (each f l) ≤ length l * k
  unfolding each All
  each_bound Ok k h [] v = omega arith
  each_bound Ok k h (a ∷ l) v = omega (arith, length-append (f a) (each f l), h a v.0, each_bound Ok k h l v.1)

pub all_snoc : {A : Type 0} (Ok : A → Type 0) (l : List A) (a : A) → All Ok l → Ok a → All Ok (l ++ (a ∷ []))
unfolding All
all_snoc Ok [] a h k = (k, tt)
all_snoc Ok (b ∷ l) a h k = (h.0, all_snoc Ok l a h.1 k)

pub all_at : {A : Type 0} (Ok : A → Type 0) (l : List A) (i : ℕ) (d : A) → All Ok l → i < length l → Ok (get_or l i d)
unfolding All
all_at Ok [] i d v h = absurd (omega arith)
all_at Ok (a ∷ l) zero d v h = v.0
all_at Ok (a ∷ l) (suc i) d v h = all_at Ok l i d v.1 (omega arith)

length_snoc : {A : Type 0} (l : List A) (a : A) → length (l ++ (a ∷ [])) ≡ length l + 1
length_snoc l a = length-append l (a ∷ [])

-- what was read after what was read
pub got_none : (s : List ℕ) (p : ℕ) → p ≤ length s → Got s p [] p
got_none s p h = record { here = refl; next = sym (add-zero p); within = h }

pub got_then : {s : List ℕ} {p q n : ℕ} {v w : List ℕ} → Got s p v q → Got s q w n → Got s p (v ++ w) n
got_then {v = v} {w = w} a b =
    record {
      here = a.here ∙ ap (λ (l : List ℕ). v ++ l) b.here ∙ sym (append_assoc v w _);
      next = omega (arith, length-append v w, a.next, b.next);
      within = b.within;
    }

module _ {A : Type 0} (f : A → List ℕ) (Ok : A → Type 0) where
  pub each_none : (s : List ℕ) (p : ℕ) → p ≤ length s → HereEach f Ok 0 s p [] p
  unfolding each All
  each_none s p h = (refl, tt, got_none s p h)

  pub each_more : (s : List ℕ) (p i q n : ℕ) (l : List A) (a : A) → HereEach f Ok i s p l q → Here f Ok s q a n → HereEach f Ok (i + 1) s p (l ++ (a ∷ [])) n
  each_more s p i q n l a v h = (
    length_snoc l a ∙ ap (λ (x : ℕ). x + 1) v.0,
    all_snoc Ok l a v.1 h.0,
    rw (each_snoc f l a) (got_then v.2 h.1),
  )

module _ {A : Type 0} (f : A → List ℕ) (Ok : A → Type 0) (free : Free f Ok) where
  -- as many codes: the same ones
  pub each_inj : (k l : List A) (r q : List ℕ) → All Ok k → All Ok l → length k ≡ length l → each f k ++ r ≡ each f l ++ q → (k ≡ l) × (r ≡ q)
  unfolding each All
  each_inj [] [] r q ok ol h e = (refl, e)
  each_inj [] (b ∷ l) r q ok ol h e = absurd (omega arith)
  each_inj (a ∷ k) [] r q ok ol h e = absurd (omega arith)
  each_inj (a ∷ k) (b ∷ l) r q ok ol h e =
      let s = free a b (each f k ++ r) (each f l ++ q) ok.0 ol.0 (sym (append_assoc (f a) (each f k) r) ∙ e ∙ append_assoc (f b) (each f l) q) in
      let t = each_inj k l r q ok.1 ol.1 (omega arith) s.1 in
      (ap (λ (x : A). x ∷ k) s.0 ∙ ap (λ (x : List A). b ∷ x) t.0, t.1)

  -- more codes: after the first ones stands another
  more : (k l : List A) (u r : List ℕ) → All Ok k → All Ok l → length k < length l → each f k ++ u ≡ each f l ++ r → (a : A) × (q : List ℕ) × Ok a × (u ≡ f a ++ q)
  unfolding each All
  more [] [] u r ok ol h e = absurd (omega arith)
  more [] (b ∷ l) u r ok ol h e = (b, each f l ++ r, ol.0, e ∙ append_assoc (f b) (each f l) r)
  more (a ∷ k) [] u r ok ol h e = absurd (omega arith)
  more (a ∷ k) (b ∷ l) u r ok ol h e =
      let s = free a b (each f k ++ u) (each f l ++ r) ok.0 ol.0 (sym (append_assoc (f a) (each f k) u) ∙ e ∙ append_assoc (f b) (each f l) r) in
      more k l u r ok.1 ol.1 (omega arith) s.1

  -- none is at the place after those that were read, so there are not as many as asked
  pub broken : (s : List ℕ) (p q i n : ℕ) (k : List A) → HereEach f Ok i s p k q → i < n → Nowhere f Ok s q → NowhereEach f Ok n s p
  broken s p q i n k v h absent l r e ol d =
      let m = more k l (drop q s) r v.1 ol (omega (arith, v.0)) (sym v.2.here ∙ d) in
      absent m.0 m.1 m.2 m.3
