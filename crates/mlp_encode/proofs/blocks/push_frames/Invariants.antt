use Rattle.std.proofs.Common.{◌≡◌, ◌++◌, replicate, []}
use Rattle.mlp_encode.proofs.blocks.push_frames.Given as goal

abbrev pub invariant-loop-i : goal.invariant-loop-i
invariant-loop-i l = l.codes.items ≡ l.initial.codes.items ++ replicate l._i (record { bypass = 0; codes = record { items = [] } })
