-- One more block is one step.
use Rattle.std.proofs.Common.{◌≡◌, ℕ, zero, suc, ◌+◌, ◌-◌, List, [], ◌∷◌, ◌++◌, take, drop, replicate, map, Option, Some, None, pos, refl, sym, ap, ◌∙◌, arith}
use Rattle.std.specs.Prelude.{slice_index_or, unwrap_or, option_map, option_and_then}
use Rattle.std.specs.List.{range_with_len}
use Rattle.std.proofs.lemmas.List.{take_at, drop_at, drop-drop, get_or-drop, length-replicate}
use Rattle.mlp_syntax.specs.declared.major.Kind.{Kind}
use Rattle.mlp_syntax.specs.declared.restart.Restart.{Restart}
use Rattle.mlp_syntax.specs.declared.params.ChannelParams.{ChannelParams}
use Rattle.mlp_syntax.specs.declared.params.Params.{Params}
use Rattle.mlp_params.specs.declared.state.ChannelState.{ChannelState}
use Rattle.mlp_params.specs.InForce.{in_force, channel_in_force, restarted_channel, latest, of_channel, stateless}
use Rattle.mlp_params.specs.Filters.{absent}
use Rattle.mlp_params.specs.Applied.{applied, channel_applied, channels_applied}
use Rattle.mlp_params.proofs.ApplyLaws.{nothing_applied}

first_applied : (s : ChannelState) (later : List ChannelState) (given : List (Option ChannelParams)) → channels_applied (s ∷ later) given ≡ channel_applied s (slice_index_or given 0 None) ∷ channels_applied later (drop 1 given)
first_applied s later [] = ap (λ (ss : List ChannelState). s ∷ ss) (sym (nothing_applied later))
first_applied s later (c ∷ given) = refl

-- the channel's item, as it is looked up
with_given : List Params → ℕ → Option ChannelParams → ChannelState
with_given given i o = record {
  fir = unwrap_or (option_and_then (λ c. option_map stateless c.fir) o) (latest (of_channel i (λ c. option_map stateless c.fir)) given absent);
  iir = unwrap_or (option_and_then (λ c. option_map stateless c.iir) o) (latest (of_channel i (λ c. option_map stateless c.iir)) given absent);
  offset = unwrap_or (option_and_then (λ c. c.offset) o) (latest (of_channel i (λ c. c.offset)) given (pos 0));
  book = unwrap_or (option_and_then (λ c. Some c.book) o) (latest (of_channel i (λ c. Some c.book)) given 0);
  low = unwrap_or (option_and_then (λ c. Some c.low) o) (latest (of_channel i (λ c. Some c.low)) given 24);
}

one_channel : (given : List Params) (i : ℕ) (o : Option ChannelParams) → channel_applied (channel_in_force given i) o ≡ with_given given i o
unfolding with_given
one_channel given i None = refl
one_channel given i (Some c) = refl

channel_step : (p : Params) (given : List Params) (i : ℕ) → channel_applied (channel_in_force given i) (slice_index_or p.channels.items i None) ≡ channel_in_force (p ∷ given) i
unfolding with_given
channel_step p given i = one_channel given i (slice_index_or p.channels.items i None)

channel_steps : (p : Params) (given : List Params) (n a : ℕ) → channels_applied (map (channel_in_force given) (range_with_len a n)) (drop a p.channels.items) ≡ map (channel_in_force (p ∷ given)) (range_with_len a n)
channel_steps p given zero a = refl
channel_steps p given (suc n) a =
    let ps = p.channels.items in
    let here : slice_index_or (drop a ps) 0 None ≡ slice_index_or ps a None = get_or-drop a ps 0 None ∙ ap (λ (i : ℕ). slice_index_or ps i None) (let e : a + 0 ≡ a = omega arith in e) in
    let more : drop 1 (drop a ps) ≡ drop (a + 1) ps = drop-drop 1 a ps in
    first_applied (channel_in_force given a) (map (channel_in_force given) (range_with_len (a + 1) n)) (drop a ps)
    ∙ rw (here, more, channel_step p given a, channel_steps p given n (a + 1)) refl

pub one_step : (format : Kind) (unit_frames : ℕ) (r : Restart) (given : List Params) (p : Params) → in_force format unit_frames r (p ∷ given) ≡ applied (in_force format unit_frames r given) p
one_step format unit_frames r given p =
    let low = replicate r.min restarted_channel in
    let rest = map (channel_in_force given) (range_with_len 0 (r.max + 1 - r.min)) in
    let front : take r.min (low ++ rest) ≡ low = take_at low rest r.min (length-replicate r.min restarted_channel) in
    let back : drop r.min (low ++ rest) ≡ rest = drop_at low rest r.min (length-replicate r.min restarted_channel) in
    rw (front, back, channel_steps p given (r.max + 1 - r.min) 0) refl
