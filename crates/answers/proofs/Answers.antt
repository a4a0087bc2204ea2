-- The texts of answers, put into a buffer. Assumes nothing.
use Prim.Native.Nat.{ℕ, ◌+◌, ◌≤◌}
use mathlib.Core.Path.{◌≡◌, sym, ap}
use mathlib.Core.List.{List, [], ◌∷◌, ◌++◌}
use native.Mathlib.Omega.{arith}
use lib.ListN.{length, length-append}
use lib.IntN.{ℤ}
use mir.Syntax.{w64}
use mir.Val.{SFits, to_z, of_z}
use mir.ValLaws.{to_z-of_z}
use Rattle.text.specs.Text.{Put, decimal_text, signed_text}
use Rattle.text.proofs.PutLaws.{put_as, put_then}
use Rattle.text.proofs.Sign.{signed_length}
use Rattle.std.specs.Prelude.{Option, Some}
use Rattle.std.proofs.lemmas.Option.{none-some, some_pair_parts}
use Rattle.protocol.specs.Machine as machine
use Rattle.protocol.specs.Machine.{Answer}
use Rattle.protocol.specs.Refusals.{number_of}
use Rattle.protocol.specs.declared.Refusal.{Refusal}
use Rattle.sheet.specs.Sheet.{sheet}
use Rattle.sheet.specs.Answer.{refusal_of}
use Rattle.text.specs.Field.{record_of}
use Rattle.wording.specs.Names.{refused_text}
use Rattle.answers.specs.Answer.{PutUpTo, answer_text}

-- a text that was put, under its name; two texts, one behind the other
module _ (most : ℕ) (a : List ℕ) (at : ℕ) where
  pub one_text : (s b : List ℕ) (r : ℕ) {t : List ℕ} → t ≡ s → length s ≤ most → Put a at s b r → PutUpTo most a at t b r
  one_text s b r e h p = record { puts = put_as a at b r (sym e) p; within = omega (arith, p.behind) }

  pub two_texts :
      (s b : List ℕ) (m : ℕ) (u d : List ℕ) (r : ℕ) {t : List ℕ}
      → t ≡ s ++ u
      → length s + length u ≤ most
      → Put a at s b m
      → Put b m u d r
      → PutUpTo most a at t d r
  two_texts s b m u d r e h p q = one_text (s ++ u) d r e (omega (arith, length-append s u)) (put_then a at s b m u d r p q)

-- the text of a signed number as the machine has it
pub signed_read : (z : ℤ) → SFits w64 z → signed_text (to_z w64 (of_z w64 z)) ≡ signed_text z
signed_read z h = ap signed_text (to_z-of_z w64 z h)

pub signed_read_length : (z : ℤ) → SFits w64 z → length (signed_text (to_z w64 (of_z w64 z))) ≤ 21
signed_read_length z h = omega (arith, ap length (signed_read z h), signed_length z h)

-- the text of a refusal is its word and its number, whether it has a place or not
pub refused_by : (m : Answer sheet) (r : Refusal) (p : Option ℕ) → refusal_of m ≡ Some (r, p) → answer_text m ≡ record_of refused_text (decimal_text (number_of r) ∷ [])
unfolding answer_text
refused_by machine.done r p e = absurd (none-some _ e)
refused_by (machine.value c) r p e = absurd (none-some _ e)
refused_by machine.says_yes r p e = absurd (none-some _ e)
refused_by machine.says_no r p e = absurd (none-some _ e)
refused_by (machine.moved k) r p e = absurd (none-some _ e)
refused_by (machine.length_is k) r p e = absurd (none-some _ e)
refused_by (machine.refused q) r p e = ap (λ (x : Refusal). record_of refused_text (decimal_text (number_of x) ∷ [])) (some_pair_parts _ _ _ _ e).0
refused_by (machine.refused_at q k) r p e = ap (λ (x : Refusal). record_of refused_text (decimal_text (number_of x) ∷ [])) (some_pair_parts _ _ _ _ e).0
