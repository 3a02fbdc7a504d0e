use Rattle.std.proofs.Common.{◌≡◌, ◌≤◌, ◌*◌, length}
use Rattle.mlp_fifo.specs.Pace.{unit_of}
use Rattle.mlp_fold.specs.Substreams.{substreams_of}
use Rattle.mlp_gen.specs.Generator.{state_after}
use Rattle.mlp_gen.proofs.Underway.{Goes}
use Rattle.mlp_gen.proofs.making.send_units.Given as goal

abbrev pub invariant-loop-number : goal.invariant-loop-number
invariant-loop-number l = record {
  goes : Goes l.profile l.seed l.units l.number l.encoder l.players l.size;
  first : l.first ≡ l.number * unit_of l.profile.rate;
  few : l.first ≤ 160 * l.number;
  state : l.state ≡ state_after l.seed (l.first * l.profile.channels);
  count : length l.players ≡ substreams_of l.profile.channels;
  small : l.size ≤ 8190 * l.number;
}
