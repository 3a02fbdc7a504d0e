use Rattle.std.proofs.Common.{◌≡◌, take, replicate, length, None}
use Rattle.mlp_encode.proofs.progress.forget.Given as goal

abbrev pub invariant-loop-j : goal.invariant-loop-j
invariant-loop-j l = record { so_far : take l.j l.states ≡ replicate l.j None; count : length l.states ≡ 3 }
