use Rattle.std.proofs.Common.{◌≡◌, ◌++◌, take, drop}
use Rattle.mlp_channels.specs.Columns.{with_column}
use Rattle.mlp_channels.proofs.scatter.scatter.Given as goal

-- the frames so far, and what putting the other values beside the others gives
abbrev pub invariant-loop-i : goal.invariant-loop-i
invariant-loop-i l = take l.i l.frames ++ with_column l.channel (drop l.i l.values) (drop l.i l.frames) ≡ with_column l.channel l.values l.initial.frames
