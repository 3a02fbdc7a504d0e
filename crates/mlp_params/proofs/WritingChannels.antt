-- The text of channels.
use Rattle.std.proofs.Common.{◌≡◌, ℕ, zero, suc, true, List, [], ◌∷◌, length, Option, Some, None, refl, arith}
use Rattle.std.specs.Prelude.{All, IfSome}
use Rattle.mlp_syntax.specs.declared.params.ChannelParams.{ChannelParams}
use Rattle.mlp_params.specs.declared.state.ChannelState.{ChannelState}
use Rattle.mlp_layout.specs.Layout.{Layout, seen, number_of, ruled, tested, part, made, item}
use Rattle.mlp_layout.specs.Combined.{chosen, present, group, times, each}
use Rattle.mlp_layout.specs.Allowed.{Allowed}
use Rattle.mlp_params.specs.Groups.{ChannelParts}
use Rattle.mlp_params.specs.Parameters.{channel, filters_tested}
use Rattle.mlp_params.specs.InForce.{restarted_channel}
use Rattle.mlp_layout.proofs.WritingGroups.{some_allowed}
use Rattle.mlp_layout.proofs.WritingLoops.{text}

pub channel_parts : (flags : ℕ) (s : ChannelState) (g : ChannelParams) → Allowed (channel flags s) g → ChannelParts flags g
unfolding channel part filters_tested tested ruled number_of made
channel_parts flags s g a =
    let f = a.fits in
    let m = a.meets in
    record {
      fir = record { fits = f.0; meets = m.0 };
      iir = record { fits = f.1.0; meets = m.1.0 };
      offset = record { fits = f.1.1.0; meets = m.1.1.1.1.0 };
      book = f.1.1.1.0;
      low = f.1.1.1.1.0;
    }

-- what is in force doesn't show in the text
same_text : (flags : ℕ) (s t : ChannelState) (o : Option ChannelParams) → (group true (channel flags s)).spelling o ≡ (group true (channel flags t)).spelling o
unfolding group chosen part present seen made channel filters_tested tested ruled number_of
same_text flags s t None = refl
same_text flags s t (Some g) = refl

abbrev pub any_channel : ℕ → Layout (Option ChannelParams)
any_channel flags = group true (channel flags restarted_channel)

pub channels_text : (flags : ℕ) (ss : List ChannelState) (xs : List (Option ChannelParams)) → length xs ≡ length ss → text (any_channel flags) xs ≡ (each (λ c. group true (channel flags c)) ss).spelling xs
unfolding each item made times
channels_text flags [] [] e = refl
channels_text flags [] (x ∷ xs) e = absurd (omega (arith, e))
channels_text flags (s ∷ ss) [] e = absurd (omega (arith, e))
channels_text flags (s ∷ ss) (x ∷ xs) e = rw (same_text flags restarted_channel s x, channels_text flags ss xs (omega (arith, e))) refl

pub channels_parts : (flags : ℕ) (ss : List ChannelState) (xs : List (Option ChannelParams)) → Allowed (each (λ c. group true (channel flags c)) ss) xs → All (λ o. IfSome o (λ c. ChannelParts flags c)) xs
unfolding each item made
channels_parts flags [] [] a = λ k d lt. absurd (omega arith)
channels_parts flags [] (x ∷ xs) a = absurd (let e = a.fits in cc)
channels_parts flags (s ∷ ss) [] a = λ k d lt. absurd (omega arith)
channels_parts flags (s ∷ ss) (x ∷ xs) a = cons x xs (one x (record { fits = a.fits.0; meets = a.meets.0 })) (channels_parts flags ss xs (record { fits = a.fits.1; meets = a.meets.1 }))
  where
    one : (o : Option ChannelParams) → Allowed (group true (channel flags s)) o → IfSome o (λ c. ChannelParts flags c)
    one None b = tt
    one (Some g) b = channel_parts flags s g (some_allowed true (channel flags s) g b)

    cons : (o : Option ChannelParams) (os : List (Option ChannelParams)) → IfSome o (λ c. ChannelParts flags c) → All (λ o. IfSome o (λ c. ChannelParts flags c)) os → All (λ o. IfSome o (λ c. ChannelParts flags c)) (o ∷ os)
    cons o os h all zero d lt = h
    cons o os h all (suc k) d lt = all k d (omega arith)
