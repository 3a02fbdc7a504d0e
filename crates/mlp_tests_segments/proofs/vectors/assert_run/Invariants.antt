use Rattle.std.proofs.Common.{IfSome}
use Rattle.mlp_substream.specs.Blocks.{FitsPlace, IsPlace}
use Rattle.mlp_tests_segments.proofs.vectors.assert_run.Given as goal

abbrev pub invariant-loop-whole : goal.invariant-loop-whole
invariant-loop-whole g l = IsPlace l.place × IfSome l.state (λ s. FitsPlace l.place.format l.place.unit_frames s)
