use Rattle.std.proofs.Common.{◌≡◌, ◌++◌, length, drop, All}
use Rattle.std.specs.Prelude.{IsTrue}
use Rattle.mlp_residual.specs.Frames.{channel_codes, steps_within, IsCoded}
use Rattle.mlp_params.specs.States.{IsChannelState}
use Rattle.mlp_residual.proofs.in_force.coded_channels.Given as goal

abbrev pub invariant-loop-i : goal.invariant-loop-i
invariant-loop-i l = record {
  so_far : l.codes.items ++ channel_codes (drop l.i l.channels) (drop l.i l.steps) ≡ channel_codes l.channels l.steps;
  below : IsTrue (steps_within (drop l.i l.steps) (drop l.i l.channels));
  states : All IsChannelState (drop l.i l.channels);
  coded : All IsCoded l.codes.items;
  count : length l.codes.items ≡ l.i;
}
