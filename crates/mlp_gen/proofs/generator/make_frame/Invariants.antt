use Rattle.std.proofs.Common.{◌≡◌, ◌+◌, ◌++◌, ℕ, length, drop, map}
use Rattle.std.specs.List.{range_with_len}
use Rattle.mlp_gen.specs.Generator.{state_after, sample}
use Rattle.mlp_gen.proofs.generator.make_frame.Given as goal

abbrev pub invariant-loop-c : goal.invariant-loop-c
invariant-loop-c l = record {
  row : l.row ≡ map (λ (c : ℕ). sample l.low (state_after l.state (c + 1)) l.frame c) (range_with_len 0 l.c) ++ drop l.c l.fn.row;
  eight : length l.row ≡ 8;
  last : l.last ≡ state_after l.state l.c;
}
