-- `put_decimal` meets its contract: a number below ten is its digit, and another one is the text of its tenth with a digit behind it.
use Rattle.std.proofs.Common.{length, sym, ap, arith}
use Rattle.text.proofs.PutLaws.{put_as, put_then}
use Rattle.text.proofs.DecimalText.{decimal_small, decimal_more, decimal_more_length}
use Rattle.text.proofs.put.+put_decimal.Goals as goal

pub put_byte-requires : goal.put_byte-requires
put_byte-requires t c = omega (arith, ap length (decimal_small c.args.n (omega arith)))

pub put_decimal-m-requires : goal.put_decimal-m-requires
put_decimal-m-requires t c = (omega arith, omega (arith, decimal_more_length c.args.n (omega arith)))

pub put_byte-requires-else-n-lt10 : goal.put_byte-requires-else-n-lt10
put_byte-requires-else-n-lt10 t c =
    let p = c.put_decimal-m.ensures in
    omega (arith, p.behind, p.long, decimal_more_length c.args.n (omega arith))

pub returns-then-n-lt10 : goal.returns-then-n-lt10
returns-then-n-lt10 t c = put_as _ _ _ _ (sym (decimal_small c.args.n (omega arith))) c.put_byte.ensures

pub returns-else-n-lt10 : goal.returns-else-n-lt10
returns-else-n-lt10 t c =
    put_as _ _ _ _ (sym (decimal_more c.args.n (omega arith)))
    (put_then _ _ _ _ _ _ _ _ c.put_decimal-m.ensures c.put_byte-else-n-lt10.ensures)
