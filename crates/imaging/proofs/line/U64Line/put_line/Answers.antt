-- `imaging::line::Line::put_line` of a number meets its contract: the word, the number, the line's end.
use Rattle.text.proofs.DecimalText.{decimal_length}
use Rattle.text.proofs.PutLaws.{put_then}
use Rattle.listing.specs.Shown.{number_line, number_record}
use native.Mathlib.Omega.{arith}
use Rattle.imaging.proofs.line.U64Line.put_line.Goals as goal

pub put_decimal-e-requires : goal.put_decimal-e-requires
put_decimal-e-requires c = let p = c.put-m.ensures in omega (arith, p.behind, p.long, decimal_length c.args.x (omega arith))

pub put-requires : goal.put-requires
put-requires c = let p = c.put-m.ensures in let q = c.put_decimal-e.ensures in omega (arith, p.behind, p.long, q.behind, q.long, decimal_length c.args.x (omega arith))

pub returns : goal.returns
unfolding number_line number_record
returns c =
    let p = c.put-m.ensures in
    let q = c.put_decimal-e.ensures in
    let e = c.put.ensures in
    record {
      puts = put_then _ _ _ _ _ _ _ _ (put_then _ _ _ _ _ _ _ _ p q) e;
      within = omega (arith, p.behind, q.behind, e.behind, decimal_length c.args.x (omega arith));
    }
