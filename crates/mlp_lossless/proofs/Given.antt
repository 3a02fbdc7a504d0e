-- What parameters that were sent give to a channel.
use Rattle.std.proofs.Common.{◌≡◌, ℕ, zero, suc, ◌+◌, ◌<◌, Bool, true, false, List, [], ◌∷◌, ◌++◌, length, take, drop, get_or, Option, Some, None, refl, sym, ap, ◌∙◌, subst, arith}
use Rattle.std.specs.Prelude.{is_some, ◌||◌, if◌then◌else◌}
use Rattle.std.specs.List.{list_any}
use Rattle.std.proofs.lemmas.Bool.{or_parts}
use Rattle.std.proofs.lemmas.List.{length-take-le, length-drop, get_or-append-add, get_or-drop}
use Rattle.mlp_syntax.specs.declared.params.ChannelParams.{ChannelParams}
use Rattle.mlp_syntax.specs.declared.params.Params.{Params}
use Rattle.mlp_params.specs.declared.state.ChannelState.{ChannelState}
use Rattle.mlp_params.specs.declared.state.State.{State}
use Rattle.mlp_params.specs.InForce.{restarted_channel}
use Rattle.mlp_params.specs.Applied.{channel_applied, channels_applied}
use Rattle.mlp_substream.specs.Blocks.{given}
use Rattle.mlp_channels.specs.Channels.{channel_at, state_of_channel, state_given}
use Rattle.mlp_encode.specs.Blocks.{gives, params_with}
use Rattle.mlp_lossless.specs.Chosen.{given_to}

pub state_given_is : (o : Option Params) (i : ℕ) → state_given o i ≡ state_of_channel (given_to o i)
state_given_is None i = refl
state_given_is (Some p) i = refl

-- ---- parameters that give nothing are left out

none_given : (cs : List (Option ChannelParams)) (i : ℕ) → list_any is_some cs ≡ false → get_or cs i None ≡ None
none_given [] i e = refl
none_given (None ∷ cs) zero e = refl
none_given (Some c ∷ cs) zero e = absurd cc
none_given (None ∷ cs) (suc i) e = none_given cs i e
none_given (Some c ∷ cs) (suc i) e = absurd cc

pub with_channel : (restarts : Bool) (p : Params) (i : ℕ) → given_to (params_with restarts p) i ≡ get_or p.channels.items i None
with_channel restarts p i = pick (restarts || gives p) refl
  where
    pick : (t : Bool) → (restarts || gives p) ≡ t → given_to (if t then Some p else None) i ≡ get_or p.channels.items i None
    pick true e = refl
    pick false e =
        let a = or_parts restarts (gives p) e in
        let b = or_parts (is_some p.block_size || is_some p.matrices || is_some p.steps) (list_any is_some p.channels.items) a.1 in
        sym (none_given p.channels.items i b.1)

-- ---- what is in force in a channel behind them

applied_at : (ss : List ChannelState) (gs : List (Option ChannelParams)) (i : ℕ) → i < length ss → i < length gs → get_or (channels_applied ss gs) i restarted_channel ≡ channel_applied (get_or ss i restarted_channel) (get_or gs i None)
applied_at [] gs i a b = absurd (omega arith)
applied_at (s ∷ ss) [] i a b = absurd (omega arith)
applied_at (s ∷ ss) (g ∷ gs) zero a b = refl
applied_at (s ∷ ss) (g ∷ gs) (suc i) a b = applied_at ss gs i (omega arith) (omega arith)

channels_at : (first : ℕ) (ss : List ChannelState) (gs : List (Option ChannelParams)) (i : ℕ) → first + i < length ss → i < length gs
    → get_or (take first ss ++ channels_applied (drop first ss) gs) (first + i) restarted_channel ≡ channel_applied (get_or ss (first + i) restarted_channel) (get_or gs i None)
channels_at first ss gs i a b =
    let n : length (take first ss) ≡ first = length-take-le first ss (omega arith) in
    ap (λ (k : ℕ). get_or (take first ss ++ channels_applied (drop first ss) gs) (k + i) restarted_channel) (sym n)
    ∙ get_or-append-add (take first ss) (channels_applied (drop first ss) gs) i restarted_channel
    ∙ applied_at (drop first ss) gs i (omega (arith, length-drop first ss)) b
    ∙ ap (λ (x : ChannelState). channel_applied x (get_or gs i None)) (get_or-drop first ss i restarted_channel)

pub channel_behind : (o : Option Params) (s : State) (first i : ℕ) → s.restart.min ≡ first → first + i < length s.channels.items → (p : Params) → o ≡ Some p → i < length p.channels.items
    → channel_at (given o s) (first + i) ≡ channel_applied (channel_at s (first + i)) (given_to o i)
channel_behind o s first i m lt p e some =
    subst (λ (o : Option Params). channel_at (given o s) (first + i) ≡ channel_applied (channel_at s (first + i)) (given_to o i)) (sym e)
    (subst (λ (k : ℕ). channel_at (given (Some p) s) (k + i) ≡ channel_applied (channel_at s (k + i)) (get_or p.channels.items i None)) m
    (channels_at s.restart.min s.channels.items p.channels.items i (omega (arith, m, lt)) some))

-- .. whether they are sent or left out
pub behind_with : (restarts : Bool) (p : Params) (s : State) (first i : ℕ) → s.restart.min ≡ first → first + i < length s.channels.items → i < length p.channels.items
    → channel_at (given (params_with restarts p) s) (first + i) ≡ channel_applied (channel_at s (first + i)) (given_to (params_with restarts p) i)
behind_with restarts p s first i m lt some = pick (restarts || gives p)
  where
    pick : (t : Bool) → channel_at (given (if t then Some p else None) s) (first + i) ≡ channel_applied (channel_at s (first + i)) (given_to (if t then Some p else None) i)
    pick true = channel_behind (Some p) s first i m lt p refl some
    pick false = refl
