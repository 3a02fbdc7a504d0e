-- A stream from its first unit on.
use Rattle.std.proofs.Common.{◌≡◌, ℕ, zero, suc, ◌+◌, ◌*◌, ◌%◌, ◌^◌, ◌<◌, ◌≤◌, ℤ, List, [], ◌∷◌, map, length, replicate, get_or, Some, None, Result, Ok, refl, sym, ap, ◌∙◌, subst, arith}
use Rattle.std.specs.Prelude.{All, min}
use Rattle.std.proofs.lemmas.List.{length-map, length-replicate, get_or-replicate}
use Rattle.mlp_syntax.specs.declared.refusal.NoRoom.{NoRoom}
use Rattle.mlp_bits.specs.Bits.{bits_of}
use Rattle.mlp_layout.specs.Layout.{tested}
use Rattle.mlp_layout.specs.Streams.{Begins, Stream}
use Rattle.mlp_unit.specs.AccessUnit.{substreams_of as told}
use Rattle.mlp_unit.proofs.UnitLaws.{access_unit_size}
use Rattle.mlp_fifo.specs.LeftFifo.{LeftFifo}
use Rattle.mlp_fifo.specs.Pace.{pace_of}
use Rattle.mlp_fifo.specs.Placed.{AllPlacedMean}
use Rattle.mlp_fifo.specs.Schedule.{IsEarliest}
use Rattle.mlp_fifo.specs.Timed.{TimedUnit, unit_at, IsTimed}
use Rattle.mlp_fifo.specs.Fitting.{first_timing}
use Rattle.mlp_fifo.proofs.FittingLaws.{fitting_timed}
use Rattle.mlp_fifo.proofs.Schedules.{same_earliest}
use Rattle.mlp_fifo.proofs.PlacedLaws.{all_placed}
use Rattle.mlp_channels.specs.Channels.{Coded, nothing_coded}
use Rattle.mlp_channels.specs.Playing.{past_of_channel}
use Rattle.mlp_contents.specs.Units.{Unit_of, whole, start}
use Rattle.mlp_samples.specs.Samples.{first_sync}
use Rattle.mlp_samples.proofs.Streams.{samples_are}
use Rattle.mlp_fold.specs.declared.profile.Profile.{Profile}
use Rattle.mlp_fold.specs.Substreams.{substreams_of}
use Rattle.mlp_encode.specs.Sync.{sync_of}
use Rattle.mlp_encode.specs.Left.{Left, going}
use Rattle.mlp_encode.specs.Unit.{output_timing, joined}
use Rattle.mlp_lossless.specs.Streams.{all_frames, IsSent}
use Rattle.mlp_lossless.specs.Following.{Follows}
use Rattle.mlp_lossless.specs.Lossless.{GivesBack, ArrivesEarliest, ArrivesInTime}
use Rattle.mlp_lossless.specs.Chosen.{IsChosenStream}
use Rattle.mlp_lossless.specs.Timings.{output_timings, timings_of, timings_at}
use Rattle.mlp_encode.proofs.SyncAllowed.{passes}
use Rattle.mlp_lossless.proofs.Shapes.{presentation}
use Rattle.mlp_lossless.proofs.Streams.{AllCanSend, AreOutput, all_taken}

-- before the first unit a decoder follows
pub follows_start : (p : Profile) (j : ℕ) → j < substreams_of p.channels → Follows j (going p) (start j)
follows_start p j lt =
    let at : (i : ℕ) → i ≤ j → get_or (replicate (j + 1) nothing_coded) i nothing_coded ≡ nothing_coded = λ i le. get_or-replicate (j + 1) i nothing_coded nothing_coded (omega (arith, le)) in
    record {
      sync = refl;
      going_on = refl;
      count = length-replicate (j + 1) nothing_coded;
      force = λ i le. ap (λ (x : Coded). x.force) (at i le) ∙ sym (get_or-replicate (substreams_of p.channels) i None None (omega (arith, le, lt)));
      pasts = λ i c le from to. ap (λ (x : Coded). past_of_channel x.pasts c) (at i le);
      check = sym (get_or-replicate (substreams_of p.channels) j 0 0 lt);
    }

-- what a first unit with a major sync tells
module _ (j : ℕ) (p : Profile) (bytes : List ℕ) (few : j ≤ 2) (lt : j < substreams_of p.channels) where
  is_stream : (us : List Unit_of) → Begins (whole j) (start j) (bits_of bytes) us [] → first_sync us ≡ Some (sync_of p) → Stream (whole j) (start j) j (bits_of bytes) us
  unfolding Begins tested
  is_stream [] b e = absurd (let z : None ≡ Some (sync_of p) = e in cc)
  is_stream (u ∷ us) b e =
      let subs : told u.outer.major ≡ substreams_of p.channels = ap told e in
      let size = access_unit_size None u.outer b.0.outer.fits in
      let within = b.0.outer.stands.within in
      record {
        units = record { begins = b; some = λ none. absurd (let z = ap length none in omega (arith, z, size, within)) };
        exists = (min 3 (told u.outer.major), (u.outer, b.0.outer, refl), omega (arith, subs, few, lt));
      }

-- ---- what is sent of PCM gives it back

pub gives_back : (p : Profile) (j : ℕ) (frames : List (List (List ℤ))) (units : List (List ℕ)) (left : Left) → IsSent p frames units left → j < substreams_of p.channels
    → AllCanSend (Ok (going p)) frames → GivesBack p j (all_frames frames) (joined units)
gives_back p j frames units left h lt can =
    let t = all_taken j p lt frames (going p) (start j) units left refl h.some can (follows_start p j lt) h.sent_is in
    let shows = presentation p j (passes p h.profile) lt in
    record {
      units = t.us;
      stream = is_stream j p (joined units) shows.few lt t.us t.begins t.major;
      samples_are = sym (samples_are j (bits_of (joined units)) [] t.us t.begins) ∙ t.frames;
    }

-- each block of it is chosen
pub is_chosen : (p : Profile) (j : ℕ) (frames : List (List (List ℤ))) (units : List (List ℕ)) (left : Left) → IsSent p frames units left → j < substreams_of p.channels → AllCanSend (Ok (going p)) frames → IsChosenStream p j units
is_chosen p j frames units left h lt can =
    let t = all_taken j p lt frames (going p) (start j) units left refl h.some can (follows_start p j lt) h.sent_is in
    let shows = presentation p j (passes p h.profile) lt in
    record { units = t.us; stream = is_stream j p (joined units) shows.few lt t.us t.begins t.major; chosen = t.chosen }

-- ---- .. at the times of the earliest schedule

get_or_map : {A B : Type 0} (f : A → B) (xs : List A) (d : A) (i : ℕ) → get_or (map f xs) i (f d) ≡ f (get_or xs i d)
get_or_map f [] d i = refl
get_or_map f (x ∷ xs) d zero = refl
get_or_map f (x ∷ xs) d (suc i) = get_or_map f xs d i

bytes_at : (us : List Unit_of) (i : ℕ) → (timings_at us i).bytes ≡ get_or (map (λ u. 2 * u.outer.head.words) us) i 0
bytes_at [] i = refl
bytes_at (u ∷ us) zero = refl
bytes_at (u ∷ us) (suc i) = bytes_at us i

input_at : (us : List Unit_of) (i : ℕ) → (timings_at us i).input ≡ get_or (map (λ u. u.outer.head.timing) us) i 0
input_at [] i = refl
input_at (u ∷ us) zero = refl
input_at (u ∷ us) (suc i) = input_at us i

outputs_at : (p : Profile) (us : List Unit_of) (n i : ℕ) → AreOutput p n us → i < length us → All (λ o. o ≡ output_timing p (n + i)) (timings_at us i).outputs
unfolding AreOutput
outputs_at p [] n i h lt = absurd (omega (arith, lt))
outputs_at p (u ∷ us) n zero h lt = let z : n ≡ n + 0 = omega arith in subst (λ (m : ℕ). All (λ o. o ≡ output_timing p m) (output_timings u.contents)) z h.0
outputs_at p (u ∷ us) n (suc i) h lt = let z : n + 1 + i ≡ n + suc i = omega arith in subst (λ (m : ℕ). All (λ o. o ≡ output_timing p m) (timings_at us i).outputs) z (outputs_at p us (n + 1) i h.1 (omega (arith, lt)))

pub arrives : (p : Profile) (j : ℕ) (frames : List (List (List ℤ))) (units : List (List ℕ)) (left : Left) → IsSent p frames units left → j < substreams_of p.channels → AllCanSend (Ok (going p)) frames → ArrivesEarliest p j units
arrives p j frames units left h lt can =
    let t = all_taken j p lt frames (going p) (start j) units left refl h.some can (follows_start p j lt) h.sent_is in
    let shows = presentation p j (passes p h.profile) lt in
    let lengths : List ℕ = map (λ unit. length unit) units in
    let means = subst (λ (r : Result (List ℕ × LeftFifo) NoRoom). AllPlacedMean p.kind p.rate (map (λ (unit : List ℕ). length unit) units) r) t.placed_are (all_placed p.kind p.rate (map (λ (unit : List ℕ). length unit) units)) in
    let count : length t.us ≡ length lengths = sym (length-map t.us (λ (u : Unit_of). 2 * u.outer.head.words)) ∙ ap (λ (xs : List ℕ). length xs) t.lengths in
    record {
      units = t.us;
      stream = is_stream j p (joined units) shows.few lt t.us t.begins t.major;
      lengths = t.lengths;
      fitting = record {
        times = λ i. get_or t.times i 0;
        earliest = subst (IsEarliest (pace_of p.kind p.rate) (λ i. (timings_at t.us i).bytes) (λ i. get_or t.times i 0)) (sym count)
            (same_earliest (pace_of p.kind p.rate) (λ i. get_or lengths i 0) (λ i. (timings_at t.us i).bytes) (λ i. get_or t.times i 0) (λ i. get_or t.times i 0) (length lengths)
            (λ i l. bytes_at t.us i ∙ ap (λ (xs : List ℕ). get_or xs i 0) t.lengths) (λ i l. refl) means.0.earliest);
        inputs = λ i l. input_at t.us i ∙ ap (λ (xs : List ℕ). get_or xs i 0) t.inputs ∙ get_or_map (λ (time : ℕ). time % 2 ^ 16) t.times 0 i;
        outputs = λ i l. let z : 0 + i ≡ i = omega arith in subst (λ (m : ℕ). All (λ o. o ≡ output_timing p m) (timings_at t.us i).outputs) z (outputs_at p t.us 0 i t.outputs l);
      };
    }

-- ---- .. which are those of a stream

first_at : (us : List Unit_of) (i : ℕ) → first_timing (timings_at us i) ≡ unit_at (map (λ u. first_timing (timings_of u)) us) i
first_at [] i = refl
first_at (u ∷ us) zero = refl
first_at (u ∷ us) (suc i) = first_at us i

pub in_time : (p : Profile) (j : ℕ) (units : List (List ℕ)) → ArrivesEarliest p j units → ArrivesInTime p j units
in_time p j units h =
    let timed = fitting_timed p.kind p.rate (timings_at h.units) (length h.units) h.fitting in
    let same : (λ (i : ℕ). first_timing (timings_at h.units i)) ≡ unit_at (map (λ u. first_timing (timings_of u)) h.units) = λ k i. first_at h.units i k in
    record {
      units = h.units;
      stream = h.stream;
      timed = subst (IsTimed (pace_of p.kind p.rate) (unit_at (map (λ u. first_timing (timings_of u)) h.units))) (sym (length-map h.units (λ (u : Unit_of). first_timing (timings_of u))))
          (subst (λ (f : ℕ → TimedUnit). IsTimed (pace_of p.kind p.rate) f (length h.units)) same timed);
    }
