use Rattle.std.proofs.Common.{◌≡◌, ◌+◌, ◌*◌, ℕ, length, map}
use Rattle.std.specs.List.{range_with_len}
use Rattle.mlp_gen.specs.Generator.{state_after, frame_at}
use Rattle.mlp_gen.proofs.generator.make_unit.Given as goal

abbrev pub invariant-loop-i : goal.invariant-loop-i
invariant-loop-i l = record {
  rows : (seed : ℕ) → l.fn.state ≡ state_after seed (l.first * l.profile.channels)
      → l.out.rows.items ≡ map (frame_at l.profile seed) (range_with_len l.first l.i);
  last : (seed : ℕ) → l.fn.state ≡ state_after seed (l.first * l.profile.channels)
      → l.last ≡ state_after seed ((l.first + l.i) * l.profile.channels);
  count : length l.out.rows.items ≡ l.i;
}
