-- A stream that is retimed is one for the same presentations, with the same samples.
use Rattle.std.proofs.Common.{◌≡◌, ◌≢◌, ℕ, ◌%◌, ◌<◌, ◌≤◌, Bool, false, List, [], ◌∷◌, length, map, Option, Some, None, is_none, refl, sym, ap, subst, ◌∙◌, arith}
use Rattle.std.proofs.lemmas.List.{length-map}
use Rattle.std.proofs.lemmas.List.Folds.{flat_map-map}
use Rattle.mlp_syntax.specs.declared.major.MajorSync.{MajorSync}
use Rattle.mlp_bits.specs.Bits.{bits_of}
use Rattle.mlp_layout.specs.Streams.{Begins, Stream}
use Rattle.mlp_unit.specs.AccessUnit.{substreams_of}
use Rattle.mlp_contents.specs.Units.{Unit_of, start, whole}
use Rattle.mlp_fifo.specs.declared.pace.Pace.{Pace}
use Rattle.mlp_fifo.specs.Schedule.{out_of}
use Rattle.mlp_samples.specs.Samples.{frames_by_steps}
use Rattle.mlp_samples.proofs.Streams.{samples_are}
use Rattle.mlp_likeness.specs.Cut.{frames_from}
use Rattle.mlp_cut.specs.Cut.{unit_bytes, units_bytes, first_sync}
use Rattle.mlp_likeness.proofs.OwnText.{texts, bytes_are}
use Rattle.mlp_likeness.proofs.CutLaw.{stream_of}
use Rattle.mlp_extracted.specs.Lower.{lowered}
use Rattle.mlp_extracted.proofs.Lower.{lower_units}
use Rattle.mlp_extracted.proofs.Extraction.{Tells}
use Rattle.mlp_extracted.proofs.ExLaw.{told}
use Rattle.mlp_retime.specs.Retimed.{length_of, retimed_unit, retimed_from, pace_in, IsRetimed}
use Rattle.mlp_retime.specs.Laws.{IsHighest}
use Rattle.mlp_retimed.specs.Plays.{PlaysAs}
use Rattle.mlp_retimed.proofs.Times.{AllFit}
use Rattle.mlp_retimed.proofs.Units.{Begun, AllRetimed, all_retimed}

-- ---- the first unit

record Told (k : ℕ) (us : List Unit_of) : Type 0 where
  there : is_none (first_sync us) ≡ false
  few : k < 3
  told : k < substreams_of (first_sync us)

none_tells : (k : ℕ) (o : Option MajorSync) → k < substreams_of o → is_none o ≡ false
none_tells k None lt = absurd (omega (arith, lt))
none_tells k (Some m) lt = refl

told_by : (k : ℕ) (all : List Bool) (us : List Unit_of) → all ≢ [] → Begins (whole k) (start k) all us [] → k < 3 → Tells k None us → Told k us
unfolding Begins
told_by k all [] some b few tells = absurd (some b)
told_by k all (u ∷ us) some b few tells = record { there = none_tells k u.outer.major tells; few = few; told = tells }

told_first : (k : ℕ) (all : List Bool) (us : List Unit_of) → Stream (whole k) (start k) k all us → Told k us
told_first k all us s = let t = told k all us s in told_by k all us s.units.some s.units.begins t.0 t.1

begun_first : (us : List Unit_of) → Begun (first_sync us) None us
begun_first [] = tt
begun_first (u ∷ us) = refl

-- ---- all units

bytes_lower : (j : ℕ) (vs : List Unit_of) → units_bytes vs ≡ units_bytes (map (lowered j) vs)
bytes_lower j vs = sym (flat_map-map (λ (v : Unit_of). unit_bytes v.outer) (lowered j) vs)

as_stream : (j k : ℕ) → j ≤ k → k < 3 → (sync : Option MajorSync) (p : Pace) (times : List ℕ) (us : List Unit_of) → length times ≡ length us → us ≢ [] → k < substreams_of (first_sync us)
    → (all : List Bool) → (let vs = map (lowered j) (retimed_from sync p 0 times us) in Begins (whole j) (start j) all vs [] → Stream (whole j) (start j) j all vs)
as_stream j k le few sync p times [] count some told all b = absurd (some refl)
as_stream j k le few sync p [] (u ∷ us) count some told all b = absurd (omega (arith, count))
as_stream j k le few sync p (t ∷ times) (u ∷ us) count some told all b =
    stream_of j all (lowered j (retimed_unit sync (t % 65536) (out_of p 0 % 65536) u)) (map (lowered j) (retimed_from sync p 1 times us)) (omega (arith, le, few, told)) b

some_units : (k : ℕ) (all : List Bool) (us : List Unit_of) → all ≢ [] → Begins (whole k) (start k) all us [] → us ≢ []
unfolding Begins
some_units k all [] some b e = some b
some_units k all (u ∷ us) some b e = absurd cc

module _ (j k : ℕ) (bytes : List ℕ) (us vs ws : List Unit_of) (le : j ≤ k) (h : IsHighest k bytes us) (r : IsRetimed us vs) (s : Stream (whole j) (start j) j (bits_of bytes) ws) where
  abbrev all : List Bool
  all = bits_of bytes

  abbrev sync : Option MajorSync
  sync = first_sync us

  abbrev these : List Unit_of
  these = retimed_from sync (pace_in sync) 0 r.times us

  first : Told k us
  first = told_first k all us h.stream

  lower : ws ≡ map (lowered j) us
  lower = lower_units j k all us ws le h.stream s

  count : length r.times ≡ length us
  count = r.begin.as_many ∙ length-map us length_of

  kept : AllRetimed j (start j) (start j) (pace_in sync) 0 r.times us these
  kept =
      all_retimed j k le sync first.there first.told (pace_in sync) 0 r.times us count (start k) (start j) (start j) refl refl tt (begun_first us) all all h.stream.units.begins
      (subst (λ (xs : List Unit_of). Begins (whole j) (start j) all xs []) lower s.units.begins)

  bits_are : texts (map (lowered j) these) ≡ bits_of (units_bytes these)
  bits_are = sym (ap bits_of (bytes_lower j these) ∙ bytes_are j (start j) (texts (map (lowered j) these)) (map (lowered j) these) [] kept.begins)

  stream : Stream (whole j) (start j) j (bits_of (units_bytes these)) (map (lowered j) these)
  stream =
      as_stream j k le first.few sync (pace_in sync) r.times us count (some_units k all us h.stream.units.some h.stream.units.begins) first.told (bits_of (units_bytes these))
      (subst (λ (t : List Bool). Begins (whole j) (start j) t (map (lowered j) these) []) bits_are kept.begins)

  plays_these : PlaysAs j (units_bytes these) (map (lowered j) these) ws
  plays_these = record {
    stream = stream;
    frames = sym kept.frames ∙ sym (ap (frames_from j (start j)) lower);
    samples = sym (samples_are j (bits_of (units_bytes these)) [] (map (lowered j) these) stream.units.begins) ∙ sym kept.steps ∙ sym (ap (frames_by_steps j (start j)) lower)
        ∙ samples_are j all [] ws s.units.begins;
  }

  pub plays_retimed : PlaysAs j (units_bytes vs) (map (lowered j) vs) ws
  plays_retimed = subst (λ (xs : List Unit_of). PlaysAs j (units_bytes xs) (map (lowered j) xs) ws) (sym r.units_are) plays_these

  pub fit_retimed : AllFit (pace_in sync) 0 r.times us these
  fit_retimed = kept.fit
