use Rattle.std.specs.Prelude.{IfSome}
use Rattle.mlp_substream.specs.Blocks.{FitsPlace}
use Rattle.bench_segments.proofs.read.Given as goal

abbrev pub invariant-loop : goal.invariant-loop
invariant-loop l = IfSome l.state (λ s. FitsPlace l.place.format l.place.unit_frames s)
