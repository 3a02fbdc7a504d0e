use Rattle.std.proofs.Common.{◌≡◌, ◌+◌, ◌≤◌, List, ℕ, length}
use Rattle.std.specs.Io.KnownBytes.{Consumes}
use Rattle.mlp_io.specs.Limit.{limit}
use Rattle.mlp_pcm.proofs.wave_bytes.skip.Given as goal

abbrev pub invariant-loop-left : goal.invariant-loop-left
invariant-loop-left g l = record {
  counted : l.at + l.left ≡ l.taken + l.count;
  within : l.at ≤ limit;
  most : l.left ≤ l.count;
  bytes : (xs : List ℕ) × Consumes (g.S.Source.left l.fn.source) (g.S.Source.left l.source) xs × (length xs + l.left ≡ l.count);
  faults : g.S.Source.faults l.source ≡ g.S.Source.faults l.fn.source;
}

abbrev pub decreases-loop-left : goal.decreases-loop-left
decreases-loop-left g l = l.left
