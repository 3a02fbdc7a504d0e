use Rattle.std.proofs.Common.{◌≡◌, ◌≤◌, ◌<◌, ◌^◌, ◌-◌, [], length}
use Rattle.mlp_layout.specs.Combined.{series}
use Rattle.mlp_layout.proofs.Loops.{SeriesContinues}
use Rattle.mlp_residual.specs.Frames.{bypass_bit, unpacked}
use Rattle.mlp_residual.proofs.frames.read_bypass.Given as goal

abbrev pub invariant-loop-i : goal.invariant-loop-i
invariant-loop-i l = record {
  moved : l.fn.r.place ≤ l.r.place;
  so_far : SeriesContinues (bypass_bit l.rows) (length l.rows - l.i) (unpacked l.i l.bypass) l.r.all l.r.place ((series (bypass_bit l.rows) (length l.rows) []).read l.fn.r.all l.fn.r.place);
  same_bits : l.r.all ≡ l.fn.r.all;
  small : l.bypass < 2 ^ l.i;
}
