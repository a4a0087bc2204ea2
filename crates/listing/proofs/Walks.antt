-- The walk of `line_from` over a text: what was fed of the line from a place on. Assumes nothing.
use mathlib.Core.Bool.{Bool, true, false}
use mathlib.Core.List.{List, [], ◌++◌, ◌∷◌}
use mathlib.Core.Path.{◌∙◌, ◌≡◌, ap, refl}
use Prim.Native.Nat.{◌+◌, ◌-◌, ◌<◌, ◌≤◌, suc, ℕ}
use native.Mathlib.Omega.{arith}
use lib.ListN.{drop, get_or, length, length-append, length-drop, take}
use lib.Seq.{drop-drop, get_or-drop, take-suc}
use Rattle.cbor.specs.Code.{Nowhere}
use Rattle.text.specs.Text.{ended}
use Rattle.lines.specs.Held.{Held, buffer_after, fed_of, nothing}
use Rattle.lines.specs.Lines.{ends_line, init_of, last_of}
use Rattle.lines.specs.declared.Fed.TheVariants.{Line, Long, More}
use Rattle.lines.specs.declared.Unended.{Unended}
use Rattle.lines.proofs.Ends.{next_line, next_more}
use Rattle.lines.proofs.Feeding.{answer_right}
use Rattle.lines.proofs.Held.{held_none}
use Rattle.listing.specs.Texts.{EndsAt, LineText}
use Rattle.listing.proofs.Cuts.{NoneEndedBefore, goes_on, line_is, none_ended, only_text, text_length}

-- what an answer to a byte says of the line
module _ (q line : List ℕ) (p : Unended) (b : ℕ) (room : 81 ≤ length line) (H : Held q line p) where
  abbrev MoreSays : Unended → Type 0
  MoreSays r = (ends_line (last_of q) b ≡ false) × Held (q ++ (b ∷ [])) (buffer_after line p b) r

  more_told : (r : Unended) → fed_of p b ≡ More r → MoreSays r
  more_told r e = by (ends_line (last_of q) b) refl
    where
      by : (t : Bool) → ends_line (last_of q) b ≡ t → MoreSays r
      by true f = absurd (rw (next_line q b f) at (answer_right q line p b room H (More r) e))
      by false f = (f, rw (next_more q b f) at (answer_right q line p b room H (More r) e))

  abbrev LineSays : ℕ → Type 0
  LineSays m = (ends_line (last_of q) b ≡ true) × (m ≤ 80) × (take m (buffer_after line p b) ≡ init_of q)

  line_told : (m : ℕ) → fed_of p b ≡ Line m → LineSays m
  line_told m e = by (ends_line (last_of q) b) refl
    where
      by : (t : Bool) → ends_line (last_of q) b ≡ t → LineSays m
      by true f = let h = rw (next_line q b f) at (answer_right q line p b room H (Line m) e) in (f, h.1, h.2)
      by false f = absurd (rw (next_more q b f) at (answer_right q line p b room H (Line m) e))

  long_told : fed_of p b ≡ Long → (ends_line (last_of q) b ≡ true) × (80 < length (init_of q))
  long_told e = by (ends_line (last_of q) b) refl
    where
      by : (t : Bool) → ends_line (last_of q) b ≡ t → (ends_line (last_of q) b ≡ true) × (80 < length (init_of q))
      by true f = (f, rw (next_line q b f) at (answer_right q line p b room H Long e))
      by false f = absurd (rw (next_more q b f) at (answer_right q line p b room H Long e))

-- the bytes from `from` up to i are held, and no line ended there
pub record Seen (s : List ℕ) (from i : ℕ) (line : List ℕ) (p : Unended) : Type 0 where
  pub after : from ≤ i
  pub within : i ≤ length s
  pub holds : Held (take (i - from) (drop from s)) line p
  pub unended : NoneEndedBefore (drop from s) (i - from)

pub seen_none : (s : List ℕ) (from : ℕ) (line : List ℕ) (p : Unended) → from ≤ length s → p ≡ nothing → Seen s from from line p
seen_none s from line p h e =
    let z : from - from ≡ 0 = omega arith in
    record { after = omega arith; within = h; holds = rw (z, e) (held_none line); unended = λ t r n e. omega arith }

module _ (s : List ℕ) (from i : ℕ) (line : List ℕ) (p : Unended) (room : 81 ≤ length line) (S : Seen s from i line p) (below : i < length s) where
  there : i - from < length (drop from s)
  there = omega (arith, length-drop from s, S.after)

  place : from + (i - from) ≡ i
  place = omega (arith, S.after)

  byte : get_or (drop from s) (i - from) 0 ≡ get_or s i 0
  byte = get_or-drop from s (i - from) 0 ∙ ap (λ (n : ℕ). get_or s n 0) place

  next : i + 1 - from ≡ suc (i - from)
  next = omega (arith, S.after)

  tests : {t : Bool} → ends_line (last_of (take (i - from) (drop from s))) (get_or s i 0) ≡ t → ends_line (last_of (take (i - from) (drop from s))) (get_or (drop from s) (i - from) 0) ≡ t
  tests e = ap (ends_line (last_of (take (i - from) (drop from s)))) byte ∙ e

  pub seen_more : (r : Unended) → fed_of p (get_or s i 0) ≡ More r → Seen s from (i + 1) (buffer_after line p (get_or s i 0)) r
  seen_more r e =
      let m = more_told (take (i - from) (drop from s)) line p (get_or s i 0) room S.holds r e in
      let q : take (i + 1 - from) (drop from s) ≡ take (i - from) (drop from s) ++ (get_or s i 0 ∷ []) =
      ap (λ (n : ℕ). take n (drop from s)) next ∙ take-suc (drop from s) (i - from) 0 there ∙ ap (λ (n : ℕ). take (i - from) (drop from s) ++ (n ∷ [])) byte in
      record {
        after = omega (arith, S.after);
        within = omega arith;
        holds = rw q m.1;
        unended = λ t r n d. omega (arith, goes_on (drop from s) (i - from) there S.unended (tests m.0) t r n d, next);
      }

  pub seen_line : (m : ℕ) → fed_of p (get_or s i 0) ≡ Line m → (m ≤ 80) × EndsAt s from (take m (buffer_after line p (get_or s i 0))) (i + 1)
  seen_line m e =
      let l = line_told (take (i - from) (drop from s)) line p (get_or s i 0) room S.holds m e in
      let f = tests l.0 in
      let n = text_length (drop from s) (i - from) there f in (
        l.1,
        rw l.2 (record {
          here = record {
            here = line_is (drop from s) (i - from) there f ∙ ap (λ (x : List ℕ). ended (init_of (take (i - from) (drop from s))) ++ x) (drop-drop (suc (i - from)) from s ∙ ap (λ (x : ℕ). drop x s) behind);
            next = omega (arith, S.after, length-append (init_of (take (i - from) (drop from s))) (13 ∷ 10 ∷ []));
            within = omega arith;
          };
          only = only_text (drop from s) (i - from) there f S.unended;
        }),
      )
    where
      behind : from + suc (i - from) ≡ i + 1
      behind = omega (arith, S.after)

  pub seen_long : fed_of p (get_or s i 0) ≡ Long → Nowhere ended LineText s from
  seen_long e t r ok d =
      let l = long_told (take (i - from) (drop from s)) line p (get_or s i 0) room S.holds e in
      let u = only_text (drop from s) (i - from) there (tests l.0) S.unended t r ok.plain d in
      omega (arith, l.1, ok.short, ap length u)

pub seen_all : (s : List ℕ) (from i : ℕ) (line : List ℕ) (p : Unended) → Seen s from i line p → length s ≤ i → Nowhere ended LineText s from
seen_all s from i line p S h t r ok d = none_ended (drop from s) (i - from) (omega (arith, length-drop from s, S.after)) S.unended t r ok.plain d
