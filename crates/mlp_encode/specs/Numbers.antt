-- The numbers of the streams that are written.
use Rattle.std.specs.Prelude.{ℕ, ◌+◌, ◌-◌, ◌%◌, ◌==◌, Bool, List, if◌then◌else◌}
use Rattle.std.specs.List.{range_with_len}
use Rattle.mlp_fold.specs.Substreams.{first_channel, last_channel}

-- every 16th unit has a major sync, the first one too
abbrev pub has_sync : ℕ → Bool
has_sync n = n % 16 == 0

-- the frames of the first block of a unit with a major sync
abbrev pub first_frames : ℕ
first_frames = 8

-- the channels that substream j codes
abbrev pub coded_channels : ℕ → List ℕ
coded_channels j = range_with_len (first_channel j) (last_channel j - first_channel j + 1)

-- the noise kind of the restarts of substream j
abbrev pub noise_kind : ℕ → ℕ
noise_kind j = if j == 2 then 1 else 0

-- the code of a rate
abbrev pub rate_code : ℕ → ℕ
rate_code rate =
    if rate == 48000 then 0
    else if rate == 96000 then 1
    else if rate == 192000 then 2
    else if rate == 44100 then 8
    else if rate == 88200 then 9
    else 10

-- the code of a word length in MLP
abbrev pub word_length_code : ℕ → ℕ
word_length_code depth = if depth == 16 then 0 else if depth == 20 then 1 else 2

-- the low bits of a sample of 24 bits that are 0
abbrev pub low_zeros : ℕ → ℕ
low_zeros depth = 24 - depth
