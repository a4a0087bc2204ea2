use Rattle.std.proofs.Common.{ℕ, length, [], ◌∷◌, ◌++◌, sym, ap, ◌∙◌, arith}
use Rattle.text.specs.Text.{decimal_text}
use Rattle.text.proofs.PutLaws.{put_as, put_then}
use Rattle.text.proofs.Sign.{sign_read, magnitude_read, signed_below, signed_above}
use Rattle.text.proofs.put.put_signed.Goals as goal

pub put_byte-m-requires : goal.put_byte-m-requires
put_byte-m-requires c =
    let z = c.args.z in
    omega (arith, ap length (signed_below z (sign_read z c.ranges.z c.if-z-lt0.true)))

pub put_decimal-requires : goal.put_decimal-requires
put_decimal-requires c =
    let z = c.args.z in
    let m = magnitude_read z c.ranges.z c.unsigned_abs-digits.ensures.value in
    let p = c.put_byte-m.ensures in
    omega (arith, p.behind, p.long, ap length (signed_below z (sign_read z c.ranges.z c.if-z-lt0.true)), ap (λ (k : ℕ). length (decimal_text k)) m)

pub put_decimal-requires-else-z-lt0 : goal.put_decimal-requires-else-z-lt0
put_decimal-requires-else-z-lt0 c =
    let z = c.args.z in
    let m = magnitude_read z c.ranges.z c.unsigned_abs-digits.ensures.value in
    omega (arith, ap length (signed_above z (sign_read z c.ranges.z c.if-z-lt0.false)), ap (λ (k : ℕ). length (decimal_text k)) m)

pub returns-then-z-lt0 : goal.returns-then-z-lt0
returns-then-z-lt0 c =
    let z = c.args.z in
    let m = magnitude_read z c.ranges.z c.unsigned_abs-digits.ensures.value in
    put_as _ _ _ _ (ap (λ (k : ℕ). (45 ∷ []) ++ decimal_text k) m ∙ sym (signed_below z (sign_read z c.ranges.z c.if-z-lt0.true)))
    (put_then _ _ _ _ _ _ _ _ c.put_byte-m.ensures c.put_decimal.ensures)

pub returns-else-z-lt0 : goal.returns-else-z-lt0
returns-else-z-lt0 c =
    let z = c.args.z in
    let m = magnitude_read z c.ranges.z c.unsigned_abs-digits.ensures.value in
    put_as _ _ _ _ (ap decimal_text m ∙ sym (signed_above z (sign_read z c.ranges.z c.if-z-lt0.false))) c.put_decimal-else-z-lt0.ensures
