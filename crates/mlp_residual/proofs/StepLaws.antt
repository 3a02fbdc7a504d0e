-- Where the channels end, no step is above its low bits.
use Rattle.std.proofs.Common.{◌≡◌, ℕ, ◌≤◌, true, List, [], ◌∷◌, length, drop, refl}
use Rattle.std.proofs.lemmas.List.{drop_all}
use Rattle.mlp_params.specs.declared.state.ChannelState.{ChannelState}
use Rattle.mlp_residual.specs.Frames.{steps_within}

no_channels : (steps : List ℕ) → steps_within steps [] ≡ true
no_channels [] = refl
no_channels (s ∷ ss) = refl

pub channels_end : (steps : List ℕ) (channels : List ChannelState) (i : ℕ) → length channels ≤ i → steps_within (drop i steps) (drop i channels) ≡ true
channels_end steps channels i h = rw (drop_all i channels h) (no_channels (drop i steps))
