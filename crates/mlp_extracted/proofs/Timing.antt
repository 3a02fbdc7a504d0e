-- The units of an extraction have the timings of those of the stream, and are no longer.
use Rattle.std.proofs.Common.{◌≡◌, ◌≢◌, ℕ, zero, suc, ◌+◌, ◌*◌, ◌≤◌, ◌<◌, Bool, List, [], ◌∷◌, length, Option, Some, None, refl, sym, ap, subst, subst₂, ◌∙◌, arith}
use Rattle.std.proofs.lemmas.List.{length-take, length-map}
use Rattle.std.specs.Prelude.{map, option_map}
use Rattle.mlp_syntax.specs.declared.major.MajorSync.{MajorSync}
use Rattle.mlp_bits.specs.Bits.{bits_of}
use Rattle.mlp_layout.specs.Layout.{Found, tested}
use Rattle.mlp_layout.specs.Allowed.{Allowed}
use Rattle.mlp_layout.specs.Streams.{left_after, Begins, Stream}
use Rattle.mlp_major.specs.MajorSync.{smaller, rate_in_hertz}
use Rattle.mlp_unit.specs.AccessUnit.{AccessUnit, access_unit, substreams_of, stream_kind, stream_rate}
use Rattle.mlp_unit.specs.Extracted.{extracted}
use Rattle.mlp_unit.specs.Shape.{end_at}
use Rattle.mlp_unit.specs.Written.{FirstUsable}
use Rattle.mlp_unit.proofs.Reread.{parts_of}
use Rattle.mlp_unit.proofs.Fewer.{size_fewer, size_smaller}
use Rattle.mlp_fifo.specs.declared.pace.Pace.{Pace}
use Rattle.mlp_fifo.specs.Pace.{pace_of}
use Rattle.mlp_fifo.specs.Timed.{IsShorter, IsTimed, unit_at}
use Rattle.mlp_fifo.proofs.Paces.{usual}
use Rattle.mlp_fifo.proofs.ShorterLemmas.{shorter_timed}
use Rattle.mlp_contents.specs.Units.{Left, Unit_of, start, after, whole}
use Rattle.mlp_samples.specs.Samples.{first_sync}
use Rattle.mlp_samples.proofs.SyncLaws.{unit_usable}
use Rattle.mlp_samples.proofs.Streams.{left_is}
use Rattle.mlp_check.specs.Checking.{timed_unit, KeepTiming}
use Rattle.mlp_samples.specs.Behind.{left_behind}
use Rattle.mlp_check.proofs.Rates.{rate_is}
use Rattle.mlp_extracted.specs.Extracted.{extracted_unit, extracted_units}
use Rattle.mlp_extracted.proofs.Extraction.{Tells, EachOuter, each_outer, fewer_left, left_kept}
use Rattle.mlp_extracted.proofs.ExLaw.{told}

-- ---- a unit gets no longer

abbrev IsNoLonger : ℕ → AccessUnit → Type 0
IsNoLonger k o = (extracted k o).head.words ≤ o.head.words

no_longer : (k : ℕ) (first : Option MajorSync) (o : AccessUnit) → FirstUsable first → Allowed (access_unit first) o → k < length o.entries → IsNoLonger k o
no_longer k first o usable a lt =
    let size = (parts_of first o (λ none. usable) a.fits a.meets).size in
    omega (arith, size, size_smaller k o.major, size_fewer (k + 1) o.entries, length-take (2 * end_at o.entries k) o.body)

each_shorter : (k : ℕ) (us : List Unit_of) → EachOuter (IsNoLonger k) us → (i : ℕ) → i < length us → IsShorter (unit_at (map timed_unit (extracted_units k us)) i) (unit_at (map timed_unit us) i)
each_shorter k [] each i lt = absurd (omega (arith, lt))
each_shorter k (u ∷ us) each zero lt = record { same_input = refl; same_output = refl; shorter = omega (arith, each.0) }
each_shorter k (u ∷ us) each (suc i) lt = each_shorter k us each.1 i (omega (arith, lt))

-- ---- the pace stays

pace_by : Option MajorSync → Pace
pace_by sync = pace_of (stream_kind sync) (stream_rate sync)

pace_same : (k : ℕ) (sync : Option MajorSync) → pace_by (option_map (smaller k) sync) ≡ pace_by sync
unfolding pace_by
pace_same k None = refl
pace_same k (Some m) = refl

usual_peak : (sync : Option MajorSync) → FirstUsable sync → 0 < substreams_of sync → 0 < (pace_by sync).peak
unfolding pace_by
usual_peak None usable some = absurd (omega (arith, some))
usual_peak (Some m) usable some = (usual (stream_kind (Some m)) (rate_in_hertz m) (rate_is m usable.rate)).peak_least

-- ---- all units

left_kept_all : (k : ℕ) (l : Left) (us : List Unit_of) → left_after (whole k) (fewer_left k l) (extracted_units k us) ≡ fewer_left k (left_after (whole k) l us)
left_kept_all k l [] = refl
left_kept_all k l (u ∷ us) = ap (λ (m : Left). left_after (whole k) m (extracted_units k us)) (left_kept k k l u) ∙ left_kept_all k (after k l u) us

first_peak : (k : ℕ) (all : List Bool) (us : List Unit_of) → all ≢ [] → Begins (whole k) (start k) all us [] → Tells k None us → 0 < (pace_by (first_sync us)).peak
unfolding Begins tested
first_peak k all [] some b tells = absurd (some b)
first_peak k all (u ∷ us) some b tells =
    let found : Found (access_unit None) all 0 u.outer = record { fits = b.0.outer.fits; meets = b.0.outer.meets.1; stands = b.0.outer.stands } in
    usual_peak u.outer.major (unit_usable None all u.outer tt found) (omega (arith, tells))

pub stays_timed : (k : ℕ) (bytes : List ℕ) (us : List Unit_of) → Stream (whole k) (start k) k (bits_of bytes) us → KeepTiming (left_behind k us).sync us
    → KeepTiming (left_behind k (extracted_units k us)).sync (extracted_units k us)
unfolding pace_by
stays_timed k bytes us s timed =
    let all = bits_of bytes in
    let tells = (told k all us s).1 in
    let sync = (left_behind k us).sync in
    let others = map timed_unit (extracted_units k us) in
    let each = each_outer k k (IsNoLonger k) (no_longer k) (start k) all us [] tt tells s.units.begins in
    let peak : 0 < (pace_by sync).peak = subst (λ (o : Option MajorSync). 0 < (pace_by o).peak) (sym (left_is k all [] us s.units.begins).sync) (first_peak k all us s.units.some s.units.begins tells) in
    let count : length (map timed_unit us) ≡ length others = length-map us timed_unit ∙ sym (length-map us (extracted_unit k)) ∙ sym (length-map (extracted_units k us) timed_unit) in
    let shorter : IsTimed (pace_by sync) (unit_at others) (length (map timed_unit us)) =
    shorter_timed (pace_by sync) (unit_at (map timed_unit us)) (unit_at others) (length (map timed_unit us)) peak (λ i lt. each_shorter k us each i (omega (arith, lt, length-map us timed_unit))) timed in
    let first : (left_behind k (extracted_units k us)).sync ≡ option_map (smaller k) sync = ap (λ (l : Left). l.sync) (left_kept_all k (start k) us) in
    let pace : pace_by sync ≡ pace_by (left_behind k (extracted_units k us)).sync = sym (ap pace_by first ∙ pace_same k sync) in
    subst₂ (λ (p : Pace) (n : ℕ). IsTimed p (unit_at others) n) pace count shorter
