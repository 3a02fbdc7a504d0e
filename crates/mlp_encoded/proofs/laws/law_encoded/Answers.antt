use Rattle.std.proofs.Common.{Ok, refl, None}
use Rattle.mlp_encoded.proofs.WholeStreams.{whole_stream, wave_stream, lossless}
use Rattle.mlp_encoded.proofs.laws.law_encoded.Goals as goal

pub returns : goal.returns
returns c = record {
  raw = λ p bytes output ok are x. whole_stream p ok None _ bytes output are x;
  wave = λ kind mix bytes output format size rest says are x. wave_stream kind mix bytes format size rest says are (Ok tt) output refl x;
  lossless = lossless;
}
