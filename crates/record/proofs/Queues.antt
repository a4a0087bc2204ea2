-- Laws of queues: their length and their entries. Assumes nothing.
use mathlib.Core.Path.{◌≡◌, refl, sym, ap, ◌∙◌}
use mathlib.Core.Logic.{⊎_elim}
use mathlib.Core.List.{List, [], ◌∷◌, ◌++◌, map, map-append}
use mathlib.Core.Option.{none, some}
use Prim.Native.Nat.{ℕ, zero, suc, ◌+◌, ◌≤◌, ◌<◌}
use native.Mathlib.Omega.{arith}
use native.Mathlib.Nat.{add-suc}
use lib.ListN.{length, get_or, get_elem?, drop, length-append, get_or-append}
use lib.Seq.{get_or-append_seam, drop-length, drop-append-le}
use Rattle.words.proofs.Places.{lt_or_ge}
use Rattle.record.specs.Reading.{queue}

module _ {A : Type 0} where
  pub queue_length : (n : ℕ) (f : ℕ → A) → length (queue n f) ≡ n
  unfolding queue
  queue_length zero f = refl
  queue_length (suc n) f = simp length-append (omega (arith, queue_length n f))

  pub queue_entry : (n : ℕ) (f : ℕ → A) (j : ℕ) (past : A) → j < n → get_or (queue n f) j past ≡ f j
  unfolding queue
  queue_entry zero f j past h = absurd (omega arith)
  queue_entry (suc n) f j past h =
      ⊎_elim (λ l. get_or-append (queue n f) (f n ∷ []) past j (omega (arith, queue_length n f)) ∙ queue_entry n f j past l)
      (λ g. let e : j ≡ n = omega arith in rw e (ap (λ (k : ℕ). get_or (queue n f ++ (f n ∷ [])) k past) (sym (queue_length n f)) ∙ get_or-append_seam (queue n f) (f n) [] past))
      (lt_or_ge j n)

  -- two equal queues have the same length and the same entries
  pub same_lengths : (n m : ℕ) (f g : ℕ → A) → queue n f ≡ queue m g → n ≡ m
  same_lengths n m f g e = sym (queue_length n f) ∙ ap length e ∙ queue_length m g

  pub same_entries : (n m : ℕ) (f g : ℕ → A) → queue n f ≡ queue m g → (j : ℕ) → j < n → f j ≡ g j
  same_entries n m f g e j h =
      let l = same_lengths n m f g e in
      sym (queue_entry n f j (f j) h) ∙ ap (λ (q : List A). get_or q j (f j)) e ∙ queue_entry m g j (f j) (omega arith)

  pub queue_at : (n : ℕ) (f : ℕ → A) (j : ℕ) → j < n → get_elem? (queue n f) j ≡ some (f j)
  queue_at n f j h =
      let l = queue_length n f in
      get_d_at (queue n f) j (f j) (omega arith) ∙ ap some (queue_entry n f j (f j) h)
    where
      get_d_at : (l : List A) (i : ℕ) (past : A) → i < length l → get_elem? l i ≡ some (get_or l i past)
      get_d_at [] i past h = absurd (omega arith)
      get_d_at (a ∷ l) zero past h = refl
      get_d_at (a ∷ l) (suc i) past h = get_d_at l i past (omega arith)

  pub queue_past : (n : ℕ) (f : ℕ → A) (j : ℕ) → n ≤ j → get_elem? (queue n f) j ≡ none
  queue_past n f j h = past (queue n f) j (omega (arith, queue_length n f))
    where
      past : (l : List A) (i : ℕ) → length l ≤ i → get_elem? l i ≡ none
      past [] i h = refl
      past (a ∷ l) zero h = absurd (omega arith)
      past (a ∷ l) (suc i) h = past l i (omega arith)

  -- a queue's end, and its entries taken each by itself
  pub queue_drop : (k m : ℕ) (f : ℕ → A) → drop k (queue (k + m) f) ≡ queue m (λ j. f (k + j))
  unfolding queue
  queue_drop k zero f =
      let e : k + 0 ≡ k = omega arith in
      rw e (ap (λ (n : ℕ). drop n (queue k f)) (sym (queue_length k f)) ∙ drop-length (queue k f))
  queue_drop k (suc m) f =
      rw add-suc (drop-append-le k (queue (k + m) f) (f (k + m) ∷ []) (omega (arith, queue_length (k + m) f)) ∙ ap (λ (q : List A). q ++ (f (k + m) ∷ [])) (queue_drop k m f))

  -- and its first entry
  pub queue_first : (n : ℕ) (f : ℕ → A) → queue (suc n) f ≡ f 0 ∷ queue n (λ j. f (suc j))
  unfolding queue
  queue_first zero f = refl
  queue_first (suc n) f = ap (λ q. q ++ (f (suc n) ∷ [])) (queue_first n f)

pub queue_map : {A B : Type 0} (g : A → B) (n : ℕ) (f : ℕ → A) → map g (queue n f) ≡ queue n (λ j. g (f j))
unfolding queue
queue_map g zero f = refl
queue_map g (suc n) f = map-append g (queue n f) (f n ∷ []) ∙ ap (λ q. q ++ (g (f n) ∷ [])) (queue_map g n f)
