-- The major sync and the restart headers of the streams that are written.
use Rattle.std.specs.Prelude.{ℕ, ◌+◌, ◌==◌, true, false, [], if◌then◌else◌}
use Rattle.std.specs.List.{range_with_len}
use Rattle.mlp_syntax.specs.declared.major.Kind.{Kind}
use Rattle.mlp_syntax.specs.declared.major.Kind.TheVariants.{Fbb, Fba}
use Rattle.mlp_syntax.specs.declared.major.FormatInfo.{FormatInfo}
use Rattle.mlp_syntax.specs.declared.major.FormatInfo.TheVariants as format
use Rattle.mlp_syntax.specs.declared.major.MajorSync.{MajorSync}
use Rattle.mlp_syntax.specs.declared.restart.Restart.{Restart}
use Rattle.mlp_fifo.specs.Pace.{peak_of}
use Rattle.mlp_fold.specs.declared.profile.Profile.{Profile}
use Rattle.mlp_fold.specs.Substreams.{substreams_of, first_channel, last_channel}
use Rattle.mlp_encode.specs.Numbers.{rate_code, word_length_code, noise_kind}

-- ---- the major sync, which is the same in all units that have one

-- the channel arrangement of MLP: stereo, or three front, two surround channels and an LFE
abbrev pub arrangement : ℕ → ℕ
arrangement channels = if channels == 2 then 1 else 12

-- the channel assignments of TrueHD, of the six-channel and of the eight-channel presentation
abbrev pub six_assignment : ℕ → ℕ
six_assignment channels = if channels == 2 then 1 else 15

abbrev pub eight_assignment : ℕ → ℕ
eight_assignment channels = if channels == 2 then 1 else if channels == 6 then 15 else 79

abbrev pub format_of : Kind → ℕ → ℕ → ℕ → FormatInfo
format_of Fbb rate channels depth = format.Fbb (record {
  quant1 = word_length_code depth;
  quant2 = 15;
  rate1 = rate_code rate;
  rate2 = 15;
  carried = 0;
  arrangement = arrangement channels;
})
format_of Fba rate channels depth = format.Fba (record {
  rate = rate_code rate;
  carried = 0;
  mod2 = 0;
  mod6 = 0;
  assign6 = six_assignment channels;
  mod8 = 0;
  assign8 = eight_assignment channels;
})

abbrev pub sync_of : Profile → MajorSync
sync_of p = record {
  format = format_of p.kind p.rate p.channels p.depth;
  flags = 0;
  reserved = 0;
  variable = true;
  peak = peak_of p.kind p.rate;
  substreams = substreams_of p.channels;
  carried = 0;
  extended = 0;
  info = 0;
  meaning = 0;
  extension = record { items = [] };
}

-- ---- a restart header

-- of substream j, with its output timing and the lossless check of the interval that ends
abbrev pub restart_of : ℕ → ℕ → ℕ → Restart
restart_of j timing check = record {
  kind = noise_kind j;
  output_timing = timing;
  min = first_channel j;
  max = last_channel j;
  max_matrix = last_channel j;
  noise_shift = 0;
  seed = 0;
  carried_a = 0;
  data_check = false;
  lossless = check;
  carried_b = 0;
  assign = record { items = range_with_len 0 (last_channel j + 1) };
}
