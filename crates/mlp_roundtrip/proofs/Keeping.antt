-- What is encoded well keeps its PCM.
use Rattle.std.proofs.Common.{◌≡◌, ℕ, ◌*◌, ◌<◌, ◌≤◌, true, List, [], ◌∷◌, length, Option, None, Ok, ℤ, sym, ap, subst, ◌∙◌, arith}
use Rattle.std.proofs.lemmas.List.{length-append}
use Rattle.mlp_bits.specs.Bits.{bits_of}
use Rattle.mlp_io.specs.Limit.{limit}
use Rattle.mlp_layout.specs.Streams.{Stream}
use Rattle.mlp_layout.proofs.StreamLaws.{has_one}
use Rattle.mlp_contents.specs.Units.{Unit_of, start, whole}
use Rattle.mlp_contents.proofs.FormatLaws.{whole_is}
use Rattle.mlp_samples.specs.Samples.{samples}
use Rattle.mlp_pcm.specs.Samples.{packed, is_packable, first_low, AreFrames}
use Rattle.mlp_pcm.proofs.FirstFailing.{first_failing_is}
use Rattle.mlp_pcm.proofs.PackedBack.{packed_back, packable}
use Rattle.mlp_decoded.specs.Decoded.{channels, decoded, Writes}
use Rattle.mlp_decoded.proofs.DecodedLaw.{writes}
use Rattle.mlp_extracted.specs.Extracted.{extracted_units}
use Rattle.mlp_extracted.proofs.ExLaw.{plays_same}
use Rattle.mlp_fold.specs.declared.profile.Profile.{Profile}
use Rattle.mlp_fold.specs.Profile.{checked}
use Rattle.mlp_fold.specs.Substreams.{substreams_of}
use Rattle.mlp_encoding.specs.Pcm.{sample_size, frames_in, data_in}
use Rattle.mlp_encoding.specs.Encoded.{Encoded}
use Rattle.mlp_encoding.specs.Sizes.{AreSizes, sizes}
use Rattle.mlp_lossless.specs.Streams.{all_frames, AreUnits}
use Rattle.mlp_lossless.specs.Lossless.{GivesBack}
use Rattle.mlp_unit.specs.Laws.{AreBytes}
use Rattle.mlp_encoded.specs.Encoded.{IsStreamOf}
use Rattle.mlp_encoded.proofs.WholeStreams.{whole_stream, lossless}
use Rattle.mlp_roundtrip.specs.Kept.{IsPcmOf, top_of, GivesAll, GivesBackExtracted, Keeps}
use Rattle.mlp_roundtrip.proofs.Whole.{pcm_of}
use Rattle.mlp_roundtrip.proofs.Top.{top_exists, top_frames, top_channels}

-- an extraction of units that give back frames gives them back too
extraction_gives : (p : Profile) (j k : ℕ) (frames : List (List ℤ)) (bytes : List ℕ) → j ≤ k → GivesBack p j frames bytes → GivesBackExtracted p k j frames bytes
extraction_gives p j k frames bytes le g us s =
    let same = plays_same k bytes us s j le g.units g.stream in
    record { units = extracted_units k g.units; stream = same.stream; samples_are = same.samples ∙ g.samples_are }

some_frames : (p : Profile) (units : List (List (List ℤ))) → 0 < length units → AreUnits p units → 0 < length (all_frames units)
some_frames p [] some are = absurd (omega (arith, some))
some_frames p (frames ∷ units) some are = omega (arith, are.0.some, length-append frames (all_frames units))

module _ (p : Profile) (ok : checked p ≡ Ok tt) (pcm bytes : List ℕ) (w : IsStreamOf p pcm bytes) (pcm_is : IsPcmOf p pcm) (small : AreBytes pcm) where
  abbrev is : AreSizes p
  is = sizes p ok

  abbrev top : ℕ
  top = top_of p

  pcm_frames : AreFrames (sample_size p.depth) p.channels pcm
  pcm_frames = record { small = small; whole = pcm_is.whole }

  gives : (j : ℕ) → j < substreams_of p.channels → GivesBack p j (frames_in p pcm) bytes
  gives j lt = (lossless p pcm bytes j w lt).back

  gives_top : GivesAll top (frames_in p pcm) bytes
  gives_top =
      let g = gives top (top_exists p ok) in
      record { units = g.units; stream = g.stream; samples_are = g.samples_are ∙ top_frames p ok pcm }

  -- there is a unit
  some_units : (us : List Unit_of) → samples top us ≡ frames_in p pcm → 0 < length us
  some_units [] e = absurd (omega (arith, ap length (e ∙ sym w.all), some_frames p w.frames w.sent.some w.sent.frames_are))
  some_units (u ∷ us) e = omega arith

  all_channels : channels top gives_top.units ≡ p.channels
  all_channels =
      let chosen = (lossless p pcm bytes top w (top_exists p ok)).chosen in
      let stream = subst (λ (xs : List ℕ). Stream (whole top) (start top) top (bits_of xs) chosen.units) (sym w.stream_is) chosen.stream in
      let same : chosen.units ≡ gives_top.units = (has_one (whole top) (whole_is top) (start top) top (bits_of bytes)).one_list chosen.units gives_top.units stream gives_top.stream in
      ap (channels top) (sym same)
      ∙ top_channels p ok chosen.units chosen.chosen (some_units chosen.units (ap (samples top) same ∙ gives_top.samples_are))

  written : length bytes ≤ limit → Writes top (8 * sample_size p.depth) bytes (Ok tt) pcm
  written few =
      let g = gives_top in
      let bits = 8 * sample_size p.depth in
      let clear : first_low bits (channels top g.units) (samples top g.units) ≡ None =
      ap (λ (n : ℕ). first_low bits n (samples top g.units)) all_channels ∙ ap (first_low bits p.channels) g.samples_are
      ∙ (first_failing_is (is_packable bits p.channels) (frames_in p pcm)).none.1 (packable (sample_size p.depth) p.depth p.channels is.form is.some_channels is.few_channels pcm pcm_frames) in
      let same : decoded top bits g.units ≡ pcm =
      ap (λ (n : ℕ). packed bits n (samples top g.units)) all_channels ∙ ap (packed bits p.channels) g.samples_are
      ∙ packed_back (sample_size p.depth) p.depth p.channels is.form is.some_channels is.few_channels pcm pcm_frames in
      subst (Writes top bits bytes (Ok tt)) same (writes top bits bytes g.units few g.stream clear)

  pub keeps : Keeps p pcm bytes
  keeps = record {
    passes = ok;
    pcm_is = pcm_is;
    gives_back = gives;
    gives_all = gives_top;
    decodes = written;
    extracted = λ j k le lt. extraction_gives p j k (frames_in p pcm) bytes le (gives j (omega (arith, le, lt)));
    units = w.units;
    units_are = w.stream_is;
    earliest = λ j lt. (lossless p pcm bytes j w lt).earliest;
    in_time = λ j lt. (lossless p pcm bytes j w lt).in_time;
  }

pub all_kept : (p : Profile) (size : Option ℕ) (all output : List ℕ) → checked p ≡ Ok tt → AreBytes (data_in size all) → Encoded p size true all (Ok tt) output → Keeps p (data_in size all) output
all_kept p size all output ok small e =
    keeps p ok (data_in size all) output (whole_stream p ok size true all output small e) (pcm_of p ok size all output small e) small
