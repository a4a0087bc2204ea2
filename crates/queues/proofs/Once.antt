-- What is promised of entries and queues leaves one outcome. Assumes nothing.
use mathlib.Core.Path.{◌≡◌, sym, ◌∙◌}
use mathlib.Core.Logic.{◌⊎◌}
use mathlib.Core.List.{List}
use Prim.Native.Nat.{ℕ, ◌+◌, ◌*◌, ◌<◌}
use native.Mathlib.Omega.{arith}
use lib.ListN.{length, get_or}
use Rattle.record.proofs.Queues.{same_lengths, same_entries}
use Rattle.record.proofs.One.{item_words}
use Rattle.record.proofs.OneRecord.{round_words}
use Rattle.record.proofs.Once.{words_once}
use Rattle.queues.specs.Parts.{Entry, round_entry, item_entry, PutEntry, Moved, Requeued}

-- A kind of entry whose valid words are given by its value.
pub record OneEntry (E : Entry) : Type 0 where
  pub words : (xs ys : List ℕ) (o : ℕ) → E.ValidAt xs o → E.ValidAt ys o → E.value_at xs o ≡ E.value_at ys o → (i : ℕ) → E.Uses xs o i → get_or xs i 0 ≡ get_or ys i 0

pub round_one : (cells : ℕ) → OneEntry (round_entry cells)
round_one cells = record { words = λ xs ys o X Y e i u. round_words cells xs ys o X Y e i u.0 u.1 }

pub item_one : (devices cells : ℕ) → OneEntry (item_entry devices cells)
item_one devices cells = record { words = item_words devices cells }

module _ (E : Entry) (W : OneEntry E) (xs : List ℕ) where
  pub put_entry_once : (ys zs : List ℕ) (o : ℕ) (v : E.Holds) → length ys ≡ length zs → PutEntry E xs ys o v → PutEntry E xs zs o v → ys ≡ zs
  put_entry_once ys zs o v l A B = words_once xs ys zs (E.Uses ys o) (E.Uses zs o) l
      (W.words ys zs o A.valid B.valid (A.is ∙ sym B.is))
      (W.words zs ys o B.valid A.valid (B.is ∙ sym A.is))
      A.kept
      B.kept

  -- the words of n entries from o on
  abbrev In : List ℕ → ℕ → ℕ → ℕ → Type 0
  In ys o n i = (j : ℕ) × (j < n) × E.Uses ys (o + E.room * j) i

  pub moved_once : (ys zs : List ℕ) (o n : ℕ) (f : ℕ → E.Holds) → length ys ≡ length zs → Moved E xs ys o n f → Moved E xs zs o n f → ys ≡ zs
  moved_once ys zs o n f l A B = words_once xs ys zs (In ys o n) (In zs o n) l
      (λ i u. W.words ys zs _ (A.valid u.0 u.1) (B.valid u.0 u.1) (A.is u.0 u.1 ∙ sym (B.is u.0 u.1)) i u.2)
      (λ i u. W.words zs ys _ (B.valid u.0 u.1) (A.valid u.0 u.1) (B.is u.0 u.1 ∙ sym (A.is u.0 u.1)) i u.2)
      (λ i n. A.kept i (λ j h u. n (j, h, u)))
      (λ i n. B.kept i (λ j h u. n (j, h, u)))

  -- the words of a queue: its length, and its entries
  abbrev Queued : List ℕ → ℕ → ℕ → ℕ → Type 0
  Queued ys l o i = (i ≡ l) ⊎ In ys o (get_or ys l 0) i

  same_queue : (ys zs : List ℕ) (l o : ℕ) (q : List E.Holds) → Requeued E xs ys l o q → Requeued E xs zs l o q → (i : ℕ) → Queued ys l o i → get_or ys i 0 ≡ get_or zs i 0
  same_queue ys zs l o q A B i (◌⊎◌.inl e) = rw e (same_lengths _ _ _ _ (A.now_is.is ∙ sym B.now_is.is))
  same_queue ys zs l o q A B i (◌⊎◌.inr u) =
      let n = same_lengths _ _ _ _ (A.now_is.is ∙ sym B.now_is.is) in
      let h : u.0 < get_or zs l 0 = omega (arith, u.1) in
      W.words ys zs _ (A.now_is.valid u.0 u.1) (B.now_is.valid u.0 h) (same_entries _ _ _ _ (A.now_is.is ∙ sym B.now_is.is) u.0 u.1) i u.2

  pub requeued_once : (ys zs : List ℕ) (l o : ℕ) (q : List E.Holds) → length ys ≡ length zs → Requeued E xs ys l o q → Requeued E xs zs l o q → ys ≡ zs
  requeued_once ys zs l o q s A B = words_once xs ys zs (Queued ys l o) (Queued zs l o) s
      (same_queue ys zs l o q A B)
      (same_queue zs ys l o q B A)
      (λ i n. A.kept i (λ e. n (◌⊎◌.inl e)) (λ j h u. n (◌⊎◌.inr (j, h, u))))
      (λ i n. B.kept i (λ e. n (◌⊎◌.inl e)) (λ j h u. n (◌⊎◌.inr (j, h, u))))
