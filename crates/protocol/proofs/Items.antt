-- Items in a row: each leads from one place of the shared list to a later one. Assumes nothing.
use mathlib.Core.Path.{◌≡◌, refl, sym, ap, ◌∙◌, subst}
use mathlib.Core.Bool.{Bool, true, false}
use mathlib.Core.List.{List, [], ◌∷◌, ◌++◌}
use mathlib.Core.Option.{Option, none, some}
use Prim.Native.Nat.{ℕ, suc, ◌≤◌}
use native.Mathlib.Nat.{le_refl, le_trans, le_of_eq}
use lib.Dec.{ltb}
use lib.ListN.{length}
use Rattle.protocol.specs.Model.{Model, Laws}
use Rattle.protocol.specs.Machine.{choose, given, join_last, enqueue, Item, prefix, segment, join_item, buffer}
use Rattle.protocol.proofs.Basics.{choose_by, given_later}
use Rattle.protocol.proofs.Invariant.{end_of, Shared, number_there, Leads, Chain, Got}

pub end_of_snoc : (p : ℕ) (qs : List ℕ) (q : ℕ) → end_of p (qs ++ (q ∷ [])) ≡ q
end_of_snoc p [] q = refl
end_of_snoc p (r ∷ qs) q = end_of_snoc r qs q

end_of_join_last : (p : ℕ) (qs : List ℕ) (q : ℕ) → end_of p (join_last (λ l m. m) qs q) ≡ q
end_of_join_last p [] q = refl
end_of_join_last p (r ∷ []) q = refl
end_of_join_last p (r ∷ r' ∷ qs) q = end_of_join_last r (r' ∷ qs) q

pub end_of_enqueue : (p : ℕ) (qs : List ℕ) (q : ℕ) → end_of p (enqueue (λ l m. m) qs q) ≡ q
end_of_enqueue p qs q = choose_by (λ (l : List ℕ). end_of p l ≡ q) (ltb (length qs) 8) (qs ++ (q ∷ [])) (join_last (λ l m. m) qs q) (λ t. end_of_snoc p qs q) (λ t. end_of_join_last p qs q)

module _ (M : Model) where
  open M use {apply}

  leads_join : Laws M → (g : Shared M) (p q r : ℕ) (i j : Item M) → Leads M g p q i → Leads M g q r j → Leads M g p r (join_item M i j)
  leads_join L g p q r (prefix s ns) (prefix t ms) h k = k
  leads_join L g p q r (segment a ls) (prefix t ms) h k = k
  leads_join L g p q r (prefix s ns) (segment b ms) h k = (ap (apply b) h.0 ∙ k.0, ap (given (ms g.who)) h.1 ∙ k.1)
  leads_join L g p q r (segment a ls) (segment b ms) h k = (
    L.apply_join a b (g.sheets p) ∙ ap (apply b) h.0 ∙ k.0,
    given_later (ls g.who) (ms g.who) (number_there M g p) ∙ ap (given (ms g.who)) h.1 ∙ k.1,
  )

  module _ (g : Shared M) where
    pub chain_from : (S R : ℕ → Type 0) (m : ℕ) → ((q : ℕ) → m ≤ q → S q → R q) → (p : ℕ) (is : List (Item M)) (qs : List ℕ) → m ≤ p → Chain M g S p is qs → Chain M g R p is qs
    chain_from S R m f p [] [] l h = tt
    chain_from S R m f p [] (q ∷ qs) l h = h
    chain_from S R m f p (i ∷ is) [] l h = h
    chain_from S R m f p (i ∷ is) (q ∷ qs) l h = (h.0, h.1, f q (le_trans l h.0) h.2, chain_from S R m f q is qs (le_trans l h.0) h.3)

    pub chain_same : (S R : ℕ → Type 0) → ((q : ℕ) → S q → R q) → (p : ℕ) (is : List (Item M)) (qs : List ℕ) → Chain M g S p is qs → Chain M g R p is qs
    chain_same S R f p is qs h = chain_from S R p (λ q l. f q) p is qs (le_refl p) h

    pub got_same : (S R : ℕ → Type 0) → ((q : ℕ) → S q → R q) → (p : ℕ) (i : Option (Item M)) (q : ℕ) → Got M g S p i q → Got M g R p i q
    got_same S R f p none q h = h
    got_same S R f p (some i) q h = (h.0, h.1, f q h.2)

    module _ (S : ℕ → Type 0) where
      pub got_le : (p : ℕ) (i : Option (Item M)) (q : ℕ) → Got M g S p i q → p ≤ q
      got_le p none q h = le_of_eq (sym h)
      got_le p (some i) q h = h.0

      pub got_stop : (p : ℕ) (i : Option (Item M)) (q : ℕ) → S p → Got M g S p i q → S q
      got_stop p none q s h = subst S (sym h) s
      got_stop p (some i) q s h = h.2

      pub got_buffer : Laws M → (p : ℕ) (i : Option (Item M)) (q r : ℕ) (j : Item M) → Got M g S p i q → q ≤ r → Leads M g q r j → S r → Got M g S p (buffer M i j) r
      got_buffer L p none q r j e l k s = (le_trans (le_of_eq (sym e)) l, subst (λ (m : ℕ). Leads M g m r j) e k, s)
      got_buffer L p (some i) q r j e l k s = (le_trans e.0 l, leads_join L g p q r i j e.1 k, s)

      pub chain_stop : (p : ℕ) (is : List (Item M)) (qs : List ℕ) → S p → Chain M g S p is qs → S (end_of p qs)
      chain_stop p [] [] s h = s
      chain_stop p [] (q ∷ qs) s h = absurd h
      chain_stop p (i ∷ is) [] s h = absurd h
      chain_stop p (i ∷ is) (q ∷ qs) s h = chain_stop q is qs h.2 h.3

      pub chain_snoc : (p : ℕ) (is : List (Item M)) (qs : List ℕ) (i : Item M) (q : ℕ)
          → Chain M g S p is qs → end_of p qs ≤ q → Leads M g (end_of p qs) q i → S q → Chain M g S p (is ++ (i ∷ [])) (qs ++ (q ∷ []))
      chain_snoc p [] [] i q h l k s = (l, k, s, tt)
      chain_snoc p [] (r ∷ qs) i q h l k s = absurd h
      chain_snoc p (j ∷ is) [] i q h l k s = absurd h
      chain_snoc p (j ∷ is) (r ∷ qs) i q h l k s = (h.0, h.1, h.2, chain_snoc r is qs i q h.3 l k s)

      chain_length : (p : ℕ) (is : List (Item M)) (qs : List ℕ) → Chain M g S p is qs → length is ≡ length qs
      chain_length p [] [] h = refl
      chain_length p [] (q ∷ qs) h = absurd h
      chain_length p (i ∷ is) [] h = absurd h
      chain_length p (i ∷ is) (q ∷ qs) h = ap suc (chain_length q is qs h.3)

      chain_join_last : Laws M → (p : ℕ) (is : List (Item M)) (qs : List ℕ) (i : Item M) (q : ℕ)
          → Chain M g S p is qs → end_of p qs ≤ q → Leads M g (end_of p qs) q i → S q → Chain M g S p (join_last (join_item M) is i) (join_last (λ l m. m) qs q)
      chain_join_last L p [] [] i q h l k s = (l, k, s, tt)
      chain_join_last L p [] (r ∷ qs) i q h l k s = absurd h
      chain_join_last L p (j ∷ is) [] i q h l k s = absurd h
      chain_join_last L p (j ∷ []) (r ∷ []) i q h l k s = (le_trans h.0 l, leads_join L g p r q j i h.1 k, s, tt)
      chain_join_last L p (j ∷ []) (r ∷ r' ∷ qs) i q h l k s = absurd h.3
      chain_join_last L p (j ∷ j' ∷ is) (r ∷ []) i q h l k s = absurd h.3
      chain_join_last L p (j ∷ j' ∷ is) (r ∷ r' ∷ qs) i q h l k s = (h.0, h.1, h.2, chain_join_last L r (j' ∷ is) (r' ∷ qs) i q h.3 l k s)

      pub chain_enqueue : Laws M → (p : ℕ) (is : List (Item M)) (qs : List ℕ) (i : Item M) (q : ℕ)
          → Chain M g S p is qs → end_of p qs ≤ q → Leads M g (end_of p qs) q i → S q → Chain M g S p (enqueue (join_item M) is i) (enqueue (λ l m. m) qs q)
      chain_enqueue L p is qs i q h l k s =
          subst (λ (n : ℕ). Chain M g S p (enqueue (join_item M) is i) (choose (ltb n 8) (qs ++ (q ∷ [])) (join_last (λ l m. m) qs q))) (chain_length p is qs h) (go (ltb (length is) 8))
        where
          go : (b : Bool) → Chain M g S p (choose b (is ++ (i ∷ [])) (join_last (join_item M) is i)) (choose b (qs ++ (q ∷ [])) (join_last (λ l m. m) qs q))
          go true = chain_snoc p is qs i q h l k s
          go false = chain_join_last L p is qs i q h l k s
