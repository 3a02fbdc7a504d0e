use Rattle.std.proofs.Common.{ap, ◌∙◌}
use Rattle.std.specs.Int.{w32}
use Rattle.std.proofs.lemmas.Int.{int_wrap_fits}
use Rattle.mlp_arith.specs.Words.{wrap}
use Rattle.mlp_residual.proofs.Counting.{same_code, spelled_fits, same_bits}
use Rattle.mlp_residual.proofs.laws.law_codes.Goals as goal

pub returns : goal.returns
returns c = record {
  one = λ book b step offset residual x y s t. same_code book b step offset residual x y s t;
  back = λ book b step offset residual x f s. ap wrap s.value ∙ int_wrap_fits w32 residual f;
  spelled = λ book b step offset residual x s. spelled_fits book b step offset residual x s;
  bits = λ book b step offset rs m n h k. same_bits book b offset step rs m n h k;
}
