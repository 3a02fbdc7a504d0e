use Rattle.std.proofs.Common.{◌≡◌, ◌+◌, ◌-◌, ◌≤◌, List, ℕ, None, ◌++◌, length}
use Rattle.std.specs.Io.KnownBytes.{Consumes}
use Rattle.mlp_io.specs.Limit.{limit}
use Rattle.mlp_pcm.specs.WaveScan.{chunks}
use Rattle.mlp_pcm.proofs.wave_reader.take_chunks.Given as goal

abbrev pub invariant-loop-format : goal.invariant-loop-format
invariant-loop-format g l = record {
  within : l.at ≤ limit;
  bytes : (xs : List ℕ) × Consumes (g.S.Source.left l.fn.source) (g.S.Source.left l.source) xs × (l.at ≡ 12 + length xs) × (k : ℕ) × ((n : ℕ) (rest : List ℕ) → chunks (k + n) None (xs ++ rest) ≡ chunks n l.seen rest);
  faults : g.S.Source.faults l.source ≡ g.S.Source.faults l.fn.source;
}

abbrev pub decreases-loop-format : goal.decreases-loop-format
decreases-loop-format g l = limit - l.at
