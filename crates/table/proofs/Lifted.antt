-- A step on a device's record is the machine's step on the table. Assumes nothing.
use mathlib.Core.Path.{◌≡◌, refl, sym, ap, ◌∙◌}
use mathlib.Core.Bool.{Bool, true}
use mathlib.Core.List.{List}
use Prim.Native.Nat.{ℕ, ◌≤◌, ◌<◌}
use lib.Dec.{ltb}
use lib.ListN.{get_or}
use borrow.Author.Tests.{lt-ltb, le-ltb}
use Rattle.protocol.specs.declared.Refusal.{Refusal}
use Rattle.protocol.specs.declared.Refusal.TheVariants.{NoTable, NoDevice}
use Rattle.protocol.specs.Machine.{answer_of, device_after, Table, Result, Device, Local, Step, fine, tell, put, settle, at, step, Answer, refused}
use Rattle.sheet.specs.Sheet.{sheet}
use Rattle.words.specs.Layout.{TAKEN, DEVICES, CELLS}
use Rattle.record.specs.Reading.{device_of}
use Rattle.record.specs.Did.{Did}
use Rattle.table.specs.Table.{record_at, reading, IsTable}
use Rattle.table.specs.Known.{NotKnown}
use Rattle.table.specs.Promise.{Stepped}
use Rattle.table.proofs.Part.{Replaced}
use Rattle.table.proofs.Records.{replaced_says, replaced_valid, replaced_kept, put_same}
use Rattle.table.proofs.Tables.{device_at, taken_at}

-- Contents that are no table.
pub no_table : (s : Table sheet → Result sheet) (xs : List ℕ) → (IsTable xs → ⊥) → Stepped s xs (refused NoTable) xs
no_table s xs n = record { no_table = λ m. record { number = refl; untouched = refl }; answer = λ T. absurd (n T); after = λ T. absurd (n T) }

-- A step that leaves the table as it is.
pub unmoved : (s : Table sheet → Result sheet) (xs : List ℕ) (a : Answer sheet) → IsTable xs → s (reading xs) ≡ record { answer = a; table = reading xs } → Stepped s xs a xs
unmoved s xs a T e = record {
  no_table = λ n. absurd (n T);
  answer = λ t. ap (λ (r : Result sheet). r.answer) (sym e);
  after = λ t. record { says = ap (λ (r : Result sheet). r.table) (sym e); valid = T.valid; kept = λ i n. refl; size = refl };
}

-- A step of device d, where there is none: s is what `at` makes of f.
pub no_device : (s : Step sheet) (f : Device sheet → Local sheet) (xs : List ℕ) (d : ℕ) → step sheet s (reading xs) ≡ at sheet (reading xs) d f → IsTable xs → get_or xs DEVICES 0 ≤ d → Stepped (step sheet s) xs (refused NoDevice) xs
no_device s f xs d e T h = unmoved (step sheet s) xs (refused NoDevice) T (e ∙ ap (λ (b : Bool). settle sheet (reading xs) d b (f ((reading xs).device d))) (devices_past ∙ le-ltb d (get_or xs DEVICES 0) h))
  where
    devices_past : ltb d (reading xs).devices ≡ ltb d (get_or xs DEVICES 0)
    devices_past = unfold reading in refl

-- Words that a step of device d is refused at: "1 first, then 3".
pub not_known : (s : Step sheet) (f : Device sheet → Local sheet) (xs : List ℕ) (d : ℕ) → (IsTable xs → step sheet s (reading xs) ≡ at sheet (reading xs) d f) → (e : Refusal) → NotKnown xs d e → Stepped (step sheet s) xs (refused e) xs
not_known s f xs d q e (NotKnown.no_table p n) = rw p (no_table (step sheet s) xs n)
not_known s f xs d q e (NotKnown.no_device p T h) = rw p (no_device s f xs d (q T) T h)

-- What settling does with a device that is there.
settle_answer : (t : Table sheet) (d : ℕ) (l : Local sheet) → (settle sheet t d true l).answer ≡ answer_of sheet l
settle_answer t d (fine y) = refl
settle_answer t d (tell a) = refl

settle_table : (t : Table sheet) (d : ℕ) (l : Local sheet) → (settle sheet t d true l).table ≡ record { devices = t.devices; cells = t.cells; sheet = t.sheet; taken = t.taken; device = put d (device_after sheet (t.device d) l) t.device }
settle_table t d (fine y) = refl
settle_table t d (tell a) = (λ i. record { devices = t.devices; cells = t.cells; sheet = t.sheet; taken = t.taken; device = sym (put_same d (t.device d) t.device refl) i })

-- A step of device d that is there: s is what `at` makes of f.
module _ (s : Step sheet) (f : Device sheet → Local sheet) (xs : List ℕ) (d : ℕ) (e : step sheet s (reading xs) ≡ at sheet (reading xs) d f) (T : IsTable xs) (h : d < get_or xs DEVICES 0) where
  abbrev pub here : Device sheet
  here = device_of (get_or xs DEVICES 0) (get_or xs CELLS 0) (record_at xs d)

  device_is : (reading xs).device d ≡ here
  device_is = device_at xs d h

  step_is : step sheet s (reading xs) ≡ settle sheet (reading xs) d true (f here)
  step_is = e ∙ (λ i. settle sheet (reading xs) d (there i) (f (device_is i)))
    where
      there : ltb d (reading xs).devices ≡ true
      there = unfold reading in (lt-ltb d (get_or xs DEVICES 0) h)

  -- a question: the step only tells
  pub told : (a : Answer sheet) → f here ≡ tell a → Stepped (step sheet s) xs a xs
  told a q = unmoved (step sheet s) xs a T (step_is ∙ ap (settle sheet (reading xs) d true) q)

  module _ (ys rs : List ℕ) (a : Answer sheet) (R : Replaced xs ys d rs) (S : Did (get_or xs DEVICES 0) (get_or xs CELLS 0) f (record_at xs d) a rs) where
    taken_is : get_or rs TAKEN 0 ≡ (reading xs).taken d
    taken_is = S.taken ∙ sym (taken_at xs d h)

    says_is : reading ys ≡ (settle sheet (reading xs) d true (f here)).table
    says_is =
        replaced_says xs ys rs d T.valid h R
        ∙ (λ i. record {
          devices = devices_are i;
          cells = cells_are i;
          sheet = (reading xs).sheet;
          taken = put_same d (get_or rs TAKEN 0) (reading xs).taken taken_is i;
          device = put d (after_is i) (reading xs).device;
        })
        ∙ sym (settle_table (reading xs) d (f here))
      where
        devices_are : get_or xs DEVICES 0 ≡ (reading xs).devices
        devices_are = unfold reading in refl

        cells_are : get_or xs CELLS 0 ≡ (reading xs).cells
        cells_are = unfold reading in refl

        after_is : device_of (get_or xs DEVICES 0) (get_or xs CELLS 0) rs ≡ device_after sheet ((reading xs).device d) (f here)
        after_is = S.after ∙ ap (λ (x : Device sheet). device_after sheet x (f here)) (sym device_is)

    pub lifted : Stepped (step sheet s) xs a ys
    lifted = record {
      no_table = λ n. absurd (n T);
      answer = λ t. answer_is ∙ sym (ap (λ (r : Result sheet). r.answer) step_is);
      after = λ t. record {
        says = says_is ∙ sym (ap (λ (r : Result sheet). r.table) step_is);
        valid = replaced_valid xs ys rs d T.valid h R S.valid;
        kept = replaced_kept xs ys rs d T.valid h R S.kept;
        size = R.same_length;
      };
    }
      where
        answer_is : a ≡ (settle sheet (reading xs) d true (f here)).answer
        answer_is = S.answer ∙ sym (settle_answer (reading xs) d (f here))
