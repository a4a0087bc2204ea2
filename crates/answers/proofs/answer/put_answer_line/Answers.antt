use native.Mathlib.Omega.{arith}
use Rattle.text.proofs.PutLaws.{put_then}
use Rattle.answers.specs.Answer.{answer_line}
use Rattle.answers.proofs.answer.put_answer_line.Goals as goal

pub returns : goal.returns
unfolding answer_line
returns g c =
    let p = c.put_answer-m.ensures in
    record {
      puts = put_then _ _ _ _ _ _ _ _ p.puts c.put.ensures;
      within = omega (arith, p.within, c.put.ensures.behind);
    }
