use Rattle.std.proofs.Common.{◌≡◌, drop, map}
use Rattle.mlp_fold.specs.Mix.{at, presented_fold6}
use Rattle.mlp_fold.specs.Sums.{sum_of}
use Rattle.mlp_fold.proofs.checking.sum_stereo6.Given as goal

abbrev pub invariant-loop-i : goal.invariant-loop-i
invariant-loop-i l = sum_of l.sum (map (λ x. at (presented_fold6 l.q 0 x) l.channel) (drop l.i l.frames)) ≡ sum_of 0 (map (λ x. at (presented_fold6 l.q 0 x) l.channel) l.frames)
