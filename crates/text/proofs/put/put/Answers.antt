use Rattle.std.proofs.Common.{subst, sym}
use borrow.Rule.Slice.PartMut.{put_mid}
use Rattle.text.specs.Text.{Put}
use Rattle.text.proofs.PutLaws.{put_part}
use Rattle.std.proofs.Common.{arith, List, ℕ, length, ◌+◌, ◌-◌}
use Rattle.text.proofs.put.put.Goals as goal

pub returns : goal.returns
returns c =
    let a = c.args in
    let n = length a.s.now in
    subst (λ (l : List ℕ). Put a.out.now a.at a.s.now (put_mid a.at (a.at + n - a.at) a.out.now l) (a.at + n)) (sym c.copy_from_slice.ensures.after) (put_part a.out.now a.at a.s.now (omega arith))
