use Rattle.std.proofs.Common.{◌≡◌, ◌≤◌, ◌-◌, [], length, take}
use Rattle.mlp_layout.specs.Combined.{series}
use Rattle.mlp_layout.proofs.Loops.{SeriesContinues}
use Rattle.mlp_residual.specs.Frames.{frame}
use Rattle.mlp_residual.proofs.frames.read_over.Given as goal

abbrev pub invariant-loop-done : goal.invariant-loop-done
invariant-loop-done l = record {
  within : l.done ≤ length l.fn.out;
  moved : l.fn.r.place ≤ l.r.place;
  so_far : SeriesContinues (λ _. frame l.coding) (length l.fn.out - l.done) (take l.done l.out) l.r.all l.r.place ((series (λ _. frame l.coding) (length l.fn.out) []).read l.fn.r.all l.fn.r.place);
  same_bits : l.r.all ≡ l.fn.r.all;
}

abbrev pub decreases-loop-done : goal.decreases-loop-done
decreases-loop-done l = length l.fn.out - l.done
