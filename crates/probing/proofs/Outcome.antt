-- No second outcome fits a call by its number. Assumes nothing.
use Rattle.table.specs.Promise.{Started}
use Rattle.sheet.specs.Answer.{block_meaning}
use Rattle.table.proofs.Once.{block_given_once, one_start, does_once}
use Rattle.probing.specs.Probe.{calls, numbered, OneProbe, OneProbeGiven}

pub one_probe : OneProbe
one_probe call a b u ws xs r s ys zs A B = does_once Started xs ys zs r s (λ devices cells. one_start devices cells xs ys zs r s) (numbered (calls a b u ws) call) A.holds B.holds

pub one_probe_given : OneProbeGiven
one_probe_given call a b u ws xs r q ys zs A B = block_given_once r q ys zs (one_probe call a b u ws xs (block_meaning r) (block_meaning q) ys zs A B)
