use Rattle.std.proofs.Common.{◌≡◌, take, map}
use Rattle.std.specs.Prelude.{if◌then◌else◌}
use Rattle.mlp_output.specs.Output.{check_of}
use Rattle.mlp_fold.specs.Mix.{presented_of}
use Rattle.mlp_encode.specs.Numbers.{low_zeros}
use Rattle.mlp_encode.proofs.unit.check_behind.Given as goal

abbrev pub invariant-loop-c : goal.invariant-loop-c
invariant-loop-c l =
    l.check ≡ check_of (if l.sync then 0 else l.running) (map (λ x. take l.c (presented_of l.profile.mix (low_zeros l.profile.depth) l.profile.channels l.k x)) l.frames)
