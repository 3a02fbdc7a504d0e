use Rattle.std.proofs.Common.{◌≡◌, true}
use Rattle.mlp_substream.specs.Restarts.{all_covered}
use Rattle.mlp_substream.proofs.restarts.all_covered.Given as goal

abbrev pub invariant-loop-channel : goal.invariant-loop-channel
invariant-loop-channel l = all_covered l.covered l.min l.max l.channel ≡ true
