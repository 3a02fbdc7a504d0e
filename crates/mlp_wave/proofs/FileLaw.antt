-- Of a stream the file has the samples of its presentation.
use Rattle.std.proofs.Common.{◌≡◌, ℕ, ◌<◌, ◌≤◌, List, [], length, Ok, Err, Option, Some, None, refl, ap, subst, ◌∙◌, arith}
use Rattle.mlp_syntax.specs.declared.major.MajorSync.{MajorSync}
use Rattle.mlp_syntax.specs.declared.restart.Restart.{Restart}
use Rattle.mlp_params.specs.declared.state.State.{State}
use Rattle.mlp_bits.specs.Bits.{bits_of}
use Rattle.mlp_layout.specs.Streams.{Begins}
use Rattle.mlp_stream.specs.declared.stop.Stop.TheVariants.{TooLong}
use Rattle.mlp_pcm.specs.WaveHeader.{padded}
use Rattle.mlp_contents.specs.Inner.{channels_of}
use Rattle.mlp_contents.specs.Units.{Unit_of, start, whole}
use Rattle.mlp_samples.specs.Leaving.{matrix_of, matrix_in_force}
use Rattle.mlp_samples.proofs.Streams.{left_is}
use Rattle.mlp_sessions.specs.Playing.{places}
use Rattle.mlp_unit.specs.AccessUnit.{stream_rate}
use Rattle.mlp_decoded.specs.Decoded.{channels_in, channels, decoded}
use Rattle.mlp_decoded.proofs.DecodedLaw.{writes}
use Rattle.mlp_wave.specs.WaveFile.{wave_file, most_of_samples, stated_channels, stated_rate}
use Rattle.mlp_wave.specs.Saved.{Saves, fits, too_many}
use Rattle.mlp_wave.specs.Laws.{IsHeld, stream_file}

-- what is in force has the channels of the first restart
as_first : (force : Option State) (first : Option Restart) → matrix_in_force force ≡ matrix_of first → channels_of force ≡ channels_in first
as_first None None e = refl
as_first None (Some r) e = absurd cc
as_first (Some s) None e = absurd cc
as_first (Some s) (Some r) e = cc

module _ (k bits : ℕ) (bytes : List ℕ) (us : List Unit_of) where
  file_is : Begins (whole k) (start k) (bits_of bytes) us [] → wave_file (stated_channels k us) (stated_rate k us) bits (decoded k bits us) ≡ stream_file k bits us
  file_is b =
      let left = left_is k (bits_of bytes) [] us b in
      ap (λ (n : ℕ). wave_file (places n) (stated_rate k us) bits (decoded k bits us)) (as_first _ _ (left.max_matrix k (omega arith)))
      ∙ ap (λ (m : Option MajorSync). wave_file (channels k us) (stream_rate m) bits (decoded k bits us)) left.sync

  pub saves_stream : IsHeld k bits bytes us → padded (length (decoded k bits us)) ≤ most_of_samples → Saves k bits bytes (Ok tt) (stream_file k bits us)
  saves_stream h few =
      subst (Saves k bits bytes (Ok tt)) (file_is h.stream.units.begins)
      (fits us (decoded k bits us) h.stream (writes k bits bytes us h.few h.stream h.none_low).is few)

  pub saves_none : IsHeld k bits bytes us → most_of_samples < padded (length (decoded k bits us)) → Saves k bits bytes (Err TooLong) []
  saves_none h many = too_many (decoded k bits us) (writes k bits bytes us h.few h.stream h.none_low).is many
