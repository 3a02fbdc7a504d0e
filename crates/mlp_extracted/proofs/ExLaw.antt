-- What an extraction keeps: it is a stream for the same presentations, with the same samples.
use Rattle.std.proofs.Common.{◌≡◌, ◌≢◌, ℕ, ◌+◌, ◌≤◌, ◌<◌, min, Bool, List, [], ◌∷◌, ◌++◌, Option, Some, None, refl, sym, ap, subst, ◌∙◌, arith}
use Rattle.std.proofs.lemmas.List.Folds.{flat_map-map}
use Rattle.std.specs.Prelude.{map, option_map}
use Rattle.mlp_syntax.specs.declared.major.MajorSync.{MajorSync}
use Rattle.mlp_bits.specs.Bits.{bits_of}
use Rattle.mlp_layout.specs.Streams.{Begins, Stream}
use Rattle.mlp_layout.proofs.StreamLaws.{more_left, one_has}
use Rattle.mlp_major.specs.MajorSync.{smaller}
use Rattle.mlp_unit.specs.AccessUnit.{substreams_of}
use Rattle.mlp_unit.specs.Extracted.{extracted}
use Rattle.mlp_unit.specs.Written.{unit_text}
use Rattle.mlp_contents.specs.Units.{Unit_of, start, whole}
use Rattle.mlp_contents.proofs.FormatLaws.{whole_is}
use Rattle.mlp_samples.proofs.Streams.{samples_are}
use Rattle.mlp_cut.specs.Cut.{unit_bytes, units_bytes}
use Rattle.mlp_likeness.proofs.OwnText.{texts, bytes_are}
use Rattle.mlp_extract.specs.Extract.{extract}
use Rattle.mlp_extracted.specs.Lower.{lowered}
use Rattle.mlp_extracted.specs.Extracted.{extracted_unit, extracted_units, PlaysSame, IsExtractedFrom}
use Rattle.mlp_extracted.proofs.Lower.{lower_units}
use Rattle.mlp_extracted.proofs.Extraction.{Tells, each_outer, frames_from_kept, steps_kept, units_kept, units_back}
use Rattle.mlp_extracted.proofs.Again.{extracted_again, extract_again}

-- ---- the presentation is told

pub told : (k : ℕ) (all : List Bool) (us : List Unit_of) → Stream (whole k) (start k) k all us → (k < 3) × Tells k None us
unfolding Begins
told k all us s = go us s.units.some s.units.begins
  where
    go : (us : List Unit_of) → all ≢ [] → Begins (whole k) (start k) all us [] → (k < 3) × Tells k None us
    go [] some b = absurd (some b)
    go (u ∷ us) some b =
        let n = min 3 (substreams_of u.outer.major) in
        let same : s.exists.0 ≡ n = one_has (whole k) (whole_is k) (start k) all s.exists.0 n s.exists.1 (u.outer, b.0.outer, refl) in
        (omega (arith, s.exists.2, same), omega (arith, s.exists.2, same))

tells_lower : (j k : ℕ) (us : List Unit_of) → Tells k None us → Tells k None (map (lowered j) us)
tells_lower j k [] told = tt
tells_lower j k (u ∷ us) told = told

texts_lower : (j k : ℕ) (us : List Unit_of) → texts (extracted_units k (map (lowered j) us)) ≡ texts (extracted_units k us)
texts_lower j k [] = refl
texts_lower j k (u ∷ us) = ap (λ (t : List Bool). unit_text (extracted k u.outer) ++ t) (texts_lower j k us)

-- ---- an extraction for one of the presentations

smaller_count : (k : ℕ) (o : Option MajorSync) → k < substreams_of o → substreams_of (option_map (smaller k) o) ≡ k + 1
smaller_count k None lt = absurd (omega (arith, lt))
smaller_count k (Some m) lt = refl

stream_kept : (j k : ℕ) → j ≤ k → k < 3 → (here all : List Bool) (us : List Unit_of) → here ≢ [] → Begins (whole j) (start j) here us [] → Tells k None us
    → Begins (whole j) (start j) all (extracted_units k us) [] → Stream (whole j) (start j) j all (extracted_units k us)
unfolding Begins
stream_kept j k le few here all [] some none tells b = absurd (some none)
stream_kept j k le few here all (u ∷ us) some own tells b = record {
  units = record { begins = b; some = more_left (whole j) (whole_is j) (start j) all (extracted_unit k u) b.0 };
  exists = (min 3 (substreams_of (option_map (smaller k) u.outer.major)), ((extracted_unit k u).outer, b.0.outer, refl), omega (arith, le, few, smaller_count k u.outer.major tells));
}

-- ---- the bytes of an extraction

extract_bytes : (k : ℕ) (us : List Unit_of) → extract k us ≡ units_bytes (extracted_units k us)
extract_bytes k us = sym (flat_map-map (λ (v : Unit_of). unit_bytes v.outer) (extracted_unit k) us)

module _ (k : ℕ) (bytes : List ℕ) (us : List Unit_of) (s : Stream (whole k) (start k) k (bits_of bytes) us) where
  tells : Tells k None us
  tells = (told k (bits_of bytes) us s).1

  bits_are : bits_of (extract k us) ≡ texts (extracted_units k us)
  bits_are =
      let b = units_kept k k (omega arith) (start k) (bits_of bytes) us [] tt tells s.units.begins in
      ap bits_of (extract_bytes k us) ∙ bytes_are k (start k) (texts (extracted_units k us)) (extracted_units k us) [] b

  module _ (j : ℕ) (le : j ≤ k) where
    pub plays_same : (vs : List Unit_of) → Stream (whole j) (start j) j (bits_of bytes) vs → PlaysSame k j (extract k us) vs
    plays_same vs t =
        let lower : vs ≡ map (lowered j) us = lower_units j k (bits_of bytes) us vs le s t in
        let tells_vs : Tells k None vs = subst (Tells k None) (sym lower) (tells_lower j k us tells) in
        let text : texts (extracted_units k vs) ≡ bits_of (extract k us) = ap (λ (ws : List Unit_of). texts (extracted_units k ws)) lower ∙ texts_lower j k us ∙ sym bits_are in
        let b = subst (λ (all : List Bool). Begins (whole j) (start j) all (extracted_units k vs) []) text (units_kept k j le (start j) (bits_of bytes) vs [] tt tells_vs t.units.begins) in
        record {
          stream = stream_kept j k le (told k (bits_of bytes) us s).0 (bits_of bytes) (bits_of (extract k us)) vs t.units.some t.units.begins tells_vs b;
          frames = frames_from_kept k j (start j) vs;
          samples = sym (samples_are j (bits_of (extract k us)) [] (extracted_units k vs) b) ∙ steps_kept k j (start j) vs ∙ samples_are j (bits_of bytes) [] vs t.units.begins;
          extract = extract_again j k vs (each_outer k j (λ o. extracted j (extracted k o) ≡ extracted j o) (extracted_again j k le) (start j) (bits_of bytes) vs [] tt tells_vs t.units.begins);
        }

    pub was_there : (ws : List Unit_of) → Stream (whole j) (start j) j (bits_of (extract k us)) ws → IsExtractedFrom k j bytes ws
    was_there ws t =
        let back = units_back k j le (start j) (start k) (bits_of bytes) us ws refl tt tells s.units.begins (subst (λ (all : List Bool). Begins (whole j) (start j) all ws []) bits_are t.units.begins) in
        record {
          units = back.units;
          stream = record { units = record { begins = back.begins; some = s.units.some }; exists = (s.exists.0, s.exists.1, omega (arith, s.exists.2, le)) };
          same = back.same;
        }

pub kept_stream : (k : ℕ) (bytes : List ℕ) (us : List Unit_of) → Stream (whole k) (start k) k (bits_of bytes) us → Stream (whole k) (start k) k (bits_of (extract k us)) (extracted_units k us)
kept_stream k bytes us s = (plays_same k bytes us s k (omega arith) us s).stream
