-- What an encoder can be asked for.
use Rattle.std.specs.Prelude.{◌≡◌, ◌≢◌, ◌≤◌, ℕ, ◌==◌, nat_lt, ◌&&◌, ◌||◌, not, Bool, true, Result, Ok, Err, if◌then◌else◌}
use Rattle.mlp_syntax.specs.declared.major.Kind.{Kind}
use Rattle.mlp_syntax.specs.declared.major.Kind.TheVariants.{Fbb, Fba}
use Rattle.mlp_syntax.specs.declared.refusal.ProfileFault.{ProfileFault}
use Rattle.mlp_syntax.specs.declared.refusal.ProfileFault.TheVariants as fault
use Rattle.mlp_fold.specs.declared.profile.Mix.{Mix}
use Rattle.mlp_fold.specs.declared.profile.Mix.TheVariants.{Split, Fold, Bypass, Side}
use Rattle.mlp_fold.specs.declared.profile.Profile.{Profile}

-- does a mix suit so many channels of so many bits?
abbrev pub suits : Mix → ℕ → ℕ → Bool
suits Split channels depth = true
suits Fold channels depth = (channels == 6) || (channels == 8)
suits Bypass channels depth = (channels == 6) && (depth == 24)
suits Side channels depth = channels == 2

-- 2, 6 or 8 channels, 8 in TrueHD alone
abbrev pub has_channels : Kind → ℕ → Bool
has_channels Fbb channels = (channels == 2) || (channels == 6)
has_channels Fba channels = (channels == 2) || (channels == 6) || (channels == 8)

-- one of the six rates, at most 96 kHz with 8 channels
abbrev pub has_rate : ℕ → ℕ → Bool
has_rate rate channels =
    ((rate == 44100) || (rate == 48000) || (rate == 88200) || (rate == 96000) || (rate == 176400) || (rate == 192000))
    && not ((channels == 8) && nat_lt 96000 rate)

abbrev pub has_depth : ℕ → Bool
has_depth depth = (depth == 16) || (depth == 20) || (depth == 24)

-- the first of these that isn't so
abbrev pub checked : Profile → Result Unit ProfileFault
checked p =
    if has_channels p.kind p.channels then
    (if has_rate p.rate p.channels then
    (if has_depth p.depth then
    (if suits p.mix p.channels p.depth then Ok tt else Err fault.MixShape)
    else Err fault.Depth)
    else Err fault.Rate)
    else Err fault.Channels

-- what a mix wants of the channels and of the depth
abbrev pub IsShape : Mix → ℕ → ℕ → Type 0
IsShape Split channels depth = channels ≤ 8
IsShape Fold channels depth = (6 ≤ channels) × (channels ≢ 6 → channels ≡ 8)
IsShape Bypass channels depth = (channels ≡ 6) × (depth ≡ 24)
IsShape Side channels depth = channels ≡ 2

-- channels, depth and mix of a profile that passes
pub record AreMixed (mix : Mix) (depth channels : ℕ) : Type 0 where
  pub depth_least : 16 ≤ depth
  pub depth_most : depth ≤ 24
  pub shape : IsShape mix channels depth
