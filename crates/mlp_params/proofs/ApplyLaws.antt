-- Parameters put in force channel by channel, as a loop does.
use Rattle.std.proofs.Common.{◌≡◌, ℕ, zero, suc, ◌+◌, ◌-◌, ◌<◌, ◌≤◌, List, [], ◌∷◌, ◌++◌, length, take, drop, set, get_or, Option, refl, sym, ap, ◌∙◌, arith}
use Rattle.std.proofs.lemmas.List.{length-take, length-drop, set-append_right, get_or-append-add, take-append-drop}
use Rattle.mlp_syntax.specs.declared.params.ChannelParams.{ChannelParams}
use Rattle.mlp_params.specs.declared.state.ChannelState.{ChannelState}
use Rattle.mlp_params.specs.Applied.{channel_applied, channels_applied}

pub nothing_applied : (ss : List ChannelState) → channels_applied ss [] ≡ ss
nothing_applied [] = refl
nothing_applied (s ∷ ss) = refl

pub applied_count : (ss : List ChannelState) (given : List (Option ChannelParams)) → length (channels_applied ss given) ≡ length ss
applied_count [] given = refl
applied_count (s ∷ ss) [] = refl
applied_count (s ∷ ss) (c ∷ given) = ap suc (applied_count ss given)

applied_next : (ss : List ChannelState) (given : List (Option ChannelParams)) (i : ℕ) (x : ChannelState) (c : Option ChannelParams) → i < length given → i < length ss → x ≡ get_or (channels_applied ss (take i given)) i x
    → c ≡ get_or given i c
    → set (channels_applied ss (take i given)) i (channel_applied x c) ≡ channels_applied ss (take (suc i) given)
applied_next [] given i x c lt room at is = absurd (omega arith)
applied_next (s ∷ ss) [] i x c lt room at is = absurd (omega arith)
applied_next (s ∷ ss) (d ∷ given) zero x c lt room at is = rw (at, is) (ap (λ (later : List ChannelState). channel_applied s d ∷ later) (sym (nothing_applied ss)))
applied_next (s ∷ ss) (d ∷ given) (suc i) x c lt room at is = ap (λ (later : List ChannelState). channel_applied s d ∷ later) (applied_next ss given i x c (omega arith) (omega arith) at is)

-- what a loop over the given items keeps
abbrev pub so_far : ℕ → List ChannelState → List (Option ChannelParams) → ℕ → List ChannelState
so_far first old given i = take first old ++ channels_applied (drop first old) (take i given)

module _ (first : ℕ) (old : List ChannelState) (given : List (Option ChannelParams)) where
  pub apply_begins : old ≡ so_far first old given 0
  apply_begins = sym (ap (λ (later : List ChannelState). take first old ++ later) (nothing_applied (drop first old)) ∙ take-append-drop first old)

  pub apply_goes_on : (now : List ChannelState) (i : ℕ) (x : ChannelState) (c : Option ChannelParams) → first + length given ≤ length old → i < length given → now ≡ so_far first old given i → x ≡ get_or now (first + i) x
      → c ≡ get_or given i c
      → set now (first + i) (channel_applied x c) ≡ so_far first old given (i + 1)
  apply_goes_on now i x c room lt is at from =
      let front : length (take first old) ≡ first = omega (arith, length-take first old) in
      let later = channels_applied (drop first old) (take i given) in
      let here : get_or (take first old ++ later) (first + i) x ≡ get_or later i x = ap (λ (n : ℕ). get_or (take first old ++ later) (n + i) x) (sym front) ∙ get_or-append-add (take first old) later i x in
      let x_is : x ≡ get_or later i x = at ∙ ap (λ (cs : List ChannelState). get_or cs (first + i) x) is ∙ here in
      let at_i : first + i - first ≡ i = omega arith in
      let one : i + 1 ≡ suc i = omega arith in
      ap (λ (cs : List ChannelState). set cs (first + i) (channel_applied x c)) is
      ∙ set-append_right (take first old) later first (first + i) (channel_applied x c) front (omega arith)
      ∙ ap (λ (n : ℕ). take first old ++ set later n (channel_applied x c)) at_i
      ∙ ap (λ (cs : List ChannelState). take first old ++ cs) (applied_next (drop first old) given i x c lt (omega (arith, length-drop first old)) x_is from)
      ∙ ap (λ (n : ℕ). so_far first old given n) (sym one)
