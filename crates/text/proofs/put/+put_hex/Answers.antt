-- `put_hex` meets its contract: no digit is no text, and more digits are those of the number's sixteenth with a digit behind them.
use Rattle.std.proofs.Common.{ℕ, ◌-◌, ◌/◌, [], ◌∷◌, ◌++◌, sym, ap, ◌∙◌, arith}
use Rattle.text.specs.Text.{hex_text}
use Rattle.text.proofs.PutLaws.{put_none, put_as, put_then}
use Rattle.text.proofs.HexText.{hex_none, hex_more, hex_length}
use Rattle.text.proofs.put.+put_hex.Goals as goal

pub put_byte-requires : goal.put_byte-requires
put_byte-requires t c =
    let p = c.put_hex-m.ensures in
    omega (arith, p.behind, p.long, hex_length (c.args.k - 1) (c.args.n / 16))

pub returns-then-k-eq0 : goal.returns-then-k-eq0
returns-then-k-eq0 t c = put_as _ _ _ _ (sym (hex_none _ _ c.if-k-eq0.true)) (put_none _ _)

pub returns-else-k-eq0 : goal.returns-else-k-eq0
returns-else-k-eq0 t c =
    put_as _ _ _ _ (ap (λ (d : ℕ). hex_text (c.args.k - 1) (c.args.n / 16) ++ (d ∷ [])) c.digit_byte.ensures ∙ sym (hex_more _ _ c.if-k-eq0.false))
    (put_then _ _ _ _ _ _ _ _ c.put_hex-m.ensures c.put_byte.ensures)
