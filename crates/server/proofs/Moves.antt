-- batch and cut as the machine's steps of the table. Assumes nothing.
use mathlib.Core.Path.{◌≡◌, refl, sym, ap, ◌∙◌, subst}
use mathlib.Core.Bool.{Bool, true, false}
use mathlib.Core.List.{List}
use Prim.Native.Nat.{ℕ, zero, suc}
use native.Mathlib.Omega.{arith}
use lib.Dec.{eqb}
use borrow.Author.Tests.{ne_eqb}
use lib.ListN.{length, get_or}
use Rattle.protocol.specs.Machine.{Table, choose, moved, moved_by, step, batch, cut, batched, batched_unless0, after_crash}
use Rattle.sheet.specs.Sheet.{sheet}
use Rattle.words.specs.Layout.{DEVICES, CELLS}
use Rattle.table.specs.Table.{reading, IsTable}
use Rattle.table.specs.Promise.{Became, Each, Stepped}
use Rattle.server.specs.Batch.{Took}
use Rattle.link.specs.Ends.{Ended}
use Rattle.table.specs.Known.{TableReady}
use Rattle.server.proofs.Crashes.{crashed}

-- "at 0 nothing changes"
batched_none : (t : Table sheet) (counts : List ℕ) (reach : ℕ) → moved_by sheet t counts ≡ 0 → batched_unless0 sheet t counts reach ≡ t
batched_none t counts reach e = ap (λ (k : ℕ). choose (eqb k 0) t (batched sheet t counts reach)) e

batched_some : (t : Table sheet) (counts : List ℕ) (reach k : ℕ) → k ≡ moved_by sheet t counts → (k ≡ 0 → ⊥) → batched_unless0 sheet t counts reach ≡ batched sheet t counts reach
batched_some t counts reach k e n = ap (λ (b : Bool). choose b t (batched sheet t counts reach)) (ap (λ (m : ℕ). eqb m 0) (sym e) ∙ ne_eqb k 0 n)

-- A table that became another, or stayed.
stayed : (xs ys : List ℕ) → IsTable xs → ys ≡ xs → Became xs ys (reading xs)
stayed xs ys T e = subst (λ (zs : List ℕ). Became xs zs (reading xs)) (sym e) record { says = refl; valid = T.valid; kept = λ i n. refl; size = refl }

module _ (xs ys counts : List ℕ) (T : IsTable xs) (k : ℕ) where
  pub batch_stepped : Took counts (get_or xs DEVICES 0) false xs k ys → Stepped (step sheet (batch counts)) xs (moved k) ys
  batch_stepped W = record {
    no_table = λ n. absurd (n T);
    answer = λ t. unfold step in (ap moved W.many);
    after = λ t. unfold step in (go k refl);
  }
    where
      devices_are : get_or xs DEVICES 0 ≡ (reading xs).devices
      devices_are = unfold reading in refl

      go : (m : ℕ) → k ≡ m → Became xs ys (batched_unless0 sheet (reading xs) counts (reading xs).devices)
      go zero e = subst (Became xs ys) (sym (batched_none (reading xs) counts (reading xs).devices (sym W.many ∙ e))) (stayed xs ys T (W.none e))
      go (suc m) e = subst (Became xs ys) (ap (batched sheet (reading xs) counts) devices_are ∙ sym (batched_some (reading xs) counts (reading xs).devices k W.many some)) (W.one some)
        where
          some : k ≡ 0 → ⊥
          some z = let q : 0 ≡ suc m = sym z ∙ e in omega arith

  module _ (reach : ℕ) where
    pub cut_stepped : (k ≡ 0 → ⊥) → Took counts reach true xs k ys → Stepped (step sheet (cut counts reach)) xs (moved k) ys
    cut_stepped n W = record {
      no_table = λ m. absurd (m T);
      answer = λ t. unfold step in (ap moved W.many);
      after = λ t. unfold step in (subst (λ (u : Table sheet). Became xs ys (after_crash sheet u)) (sym (batched_some (reading xs) counts reach k W.many n)) (W.one n));
    }

    -- no round was taken, and every connection ended
    pub cut_crashed : (mid : List ℕ) → k ≡ 0 → Took counts reach true xs k mid → length ys ≡ length mid → Each (λ d. Ended (get_or xs DEVICES 0) (get_or xs CELLS 0)) mid ys (get_or xs DEVICES 0) → Stepped (step sheet (cut counts reach)) xs (moved 0) ys
    cut_crashed mid e W l E = record {
      no_table = λ m. absurd (m T);
      answer = λ t. unfold step in (ap moved (sym e ∙ W.many));
      after = λ t. unfold step in (subst (λ (u : Table sheet). Became xs ys (after_crash sheet u)) (sym (batched_none (reading xs) counts reach (sym W.many ∙ e))) became);
    }
      where
        became : Became xs ys (after_crash sheet (reading xs))
        became = unfold step in ((crashed xs ys T (l ∙ ap length (W.none e)) (subst (λ (zs : List ℕ). Each (λ d. Ended (get_or xs DEVICES 0) (get_or xs CELLS 0)) zs ys (get_or xs DEVICES 0)) (W.none e) E)).after T)

-- Where nothing was taken, the table is still there.
pub none_ready : (xs mid counts : List ℕ) → IsTable xs → (k reach : ℕ) (crash : Bool) → k ≡ 0 → Took counts reach crash xs k mid → TableReady mid (get_or xs DEVICES 0) (get_or xs CELLS 0)
none_ready xs mid counts T k reach crash e W = rw (W.none e) (record { table = T; devices_are = refl; cells_are = refl })
