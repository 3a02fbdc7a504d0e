use Rattle.std.proofs.Common.{◌≡◌, ◌≤◌, ◌-◌, [], length, take}
use Rattle.mlp_layout.specs.Combined.{series}
use Rattle.mlp_layout.proofs.Loops.{SeriesContinues}
use Rattle.mlp_residual.specs.Frames.{code_at}
use Rattle.mlp_residual.proofs.frames.codes_by_fields.Given as goal

abbrev pub invariant-loop-i : goal.invariant-loop-i
invariant-loop-i l = record {
  moved : l.fn.r.place ≤ l.r.place;
  so_far : SeriesContinues (code_at l.channels) (length l.channels - l.i) (take l.i l.codes) l.r.all l.r.place ((series (code_at l.channels) (length l.channels) []).read l.fn.r.all l.fn.r.place);
  same_bits : l.r.all ≡ l.fn.r.all;
}
