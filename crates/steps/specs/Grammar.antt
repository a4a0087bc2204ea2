-- Which line is which step (document 01, "Step program"). `proofs/Exactly.antt` shows that `parse_line` finds exactly these. Assumes nothing.
use Rattle.std.specs.Prelude.{ℕ, ◌^◌, ◌≤◌, ◌<◌, ◌≡◌, List, [], ◌∷◌, ◌++◌, length, take}
use Rattle.std.specs.Float.Ieee.{of_bits}
use Rattle.std.specs.Float.{binary64}
use Rattle.std.specs.Int.{w64}
use Rattle.std.proofs.Common.{SFits}
use Rattle.text.specs.Field.{record_of}
use Rattle.text.specs.Text.{decimal_text, signed_text, hex_text}
use Rattle.cells.specs.declared.Cell.{Cell}
use Rattle.cells.specs.declared.Update.{Update}
use Rattle.wording.specs.Names.{start_text, update_text, read_text, batch_text, cut_text, crash_text, act_text, blank_text, count_text, measure_text, add_text}
use Rattle.wording.specs.declared.names.Act.{Act}
use Rattle.steps.specs.declared.parse.Counts.{Counts}
use Rattle.steps.specs.declared.parse.Step.{Step}

-- "Decimals … fit 64 signed bits": the largest number without a minus.
abbrev pub largest : ℕ
largest = 9223372036854775807

-- "Updates: `blank`, `count,n`, `measure,` 16 hex digits, `add,n`." A float has the text of each of its patterns; only a NaN has more than one.
abbrev pub UpdateIs : Update → List (List ℕ) → Type 0
UpdateIs (Update.Set Cell.Blank) fields = fields ≡ blank_text ∷ []
UpdateIs (Update.Set (Cell.Count n)) fields = SFits w64 n × (fields ≡ count_text ∷ signed_text n ∷ [])
UpdateIs (Update.Set (Cell.Measure x)) fields =
    (bits : ℕ) × (bits < 2 ^ 64) × (x ≡ of_bits binary64 bits) × (fields ≡ measure_text ∷ hex_text 16 bits ∷ [])
UpdateIs (Update.Add n) fields = SFits w64 n × (fields ≡ add_text ∷ signed_text n ∷ [])

-- "One count per device (before a start, 1 to 3)": `devices` is 0 before a start, and never above 3 in this program.
abbrev pub CountsFit : ℕ → ℕ → Type 0
CountsFit devices n = (1 ≤ n) × (n ≤ 3) × ((devices ≡ 0 → ⊥) → n ≡ devices)

-- "`batch` and `cut` carry one count per device": the counts' fields. A count that is not there is 0.
pub record CountsAre (devices : ℕ) (c : Counts) (fields : List (List ℕ)) : Type 0 where
  pub fits : CountsFit devices c.number
  pub small : (c.first ≤ largest) × (c.second ≤ largest) × (c.third ≤ largest)
  pub unused : (c.number < 2 → c.second ≡ 0) × (c.number < 3 → c.third ≡ 0)
  pub text : fields ≡ take c.number (decimal_text c.first ∷ decimal_text c.second ∷ decimal_text c.third ∷ [])

-- the steps that name a device alone
abbrev pub DeviceLine : Act → ℕ → List ℕ → Type 0
DeviceLine act device l = (device ≤ largest) × (l ≡ record_of (act_text act) (decimal_text device ∷ []))

-- "First field is the step; then devices and cells for start, the device (and cell) elsewhere; `crash` stands alone." "`cut` then j."
abbrev pub LineIs : ℕ → Step → List ℕ → Type 0
LineIs n (Step.Start devices cells) l =
    (devices ≤ largest) × (cells ≤ largest) × (l ≡ record_of start_text (decimal_text devices ∷ decimal_text cells ∷ []))
LineIs n (Step.Read device cell) l =
    (device ≤ largest) × (cell ≤ largest) × (l ≡ record_of read_text (decimal_text device ∷ decimal_text cell ∷ []))
LineIs n (Step.Update device cell update) l =
    (fields : List (List ℕ))
    × UpdateIs update fields
    × (device ≤ largest)
    × (cell ≤ largest)
    × (l ≡ record_of update_text (decimal_text device ∷ decimal_text cell ∷ fields))
LineIs n (Step.Device act device) l = DeviceLine act device l
LineIs n Step.Crash l = l ≡ record_of crash_text []
LineIs n (Step.Batch counts) l = (fields : List (List ℕ)) × CountsAre n counts fields × (l ≡ record_of batch_text fields)
LineIs n (Step.Cut counts j) l =
    (fields : List (List ℕ)) × CountsAre n counts fields × (j ≤ largest) × (l ≡ record_of cut_text (fields ++ (decimal_text j ∷ [])))

-- The line l is the step s, where n is the number of devices since the last start and 0 before one: "at most 80 bytes".
abbrev pub LineOf : ℕ → Step → List ℕ → Type 0
LineOf n s l = LineIs n s l × (length l ≤ 80)
