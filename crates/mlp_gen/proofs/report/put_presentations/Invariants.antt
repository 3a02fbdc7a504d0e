use Rattle.std.proofs.Common.{◌≡◌, ◌≤◌, ◌+◌, ◌*◌, ◌++◌, length, drop}
use Rattle.mlp_gen.specs.Report.{presentation_lines}
use Rattle.mlp_gen.proofs.report.put_presentations.Given as goal

abbrev pub invariant-loop-k : goal.invariant-loop-k
invariant-loop-k l = record {
  text : l.out.items ++ presentation_lines l.k (drop l.k l.shown) ≡ l.fn.out.items ++ presentation_lines 0 l.shown;
  short : length l.out.items ≤ length l.fn.out.items + 200 * l.k;
}
