-- What reading and playing a unit's segments gives.
use Rattle.std.proofs.Common.{◌≡◌, ℕ, zero, suc, ◌+◌, ◌-◌, ◌<◌, ◌≤◌, Bool, true, false, cond, List, [], ◌∷◌, ◌++◌, length, take, replicate, Result, Ok, Err, Option, Some, None, refl, sym, ap, subst, ◌∙◌, arith, ℤ}
use Rattle.std.specs.Prelude.{is_some, OnOk, MatchResult, ◌||◌}
use Rattle.std.proofs.lemmas.List.{length-take, length-drop, take-replicate, take_at}
use Rattle.mlp_syntax.specs.declared.fault.Broken.{Broken}
use Rattle.mlp_syntax.specs.declared.major.MajorSync.{MajorSync}
use Rattle.mlp_syntax.specs.declared.segment.Segment.{Segment}
use Rattle.mlp_syntax.specs.declared.unit.Outer.{Outer}
use Rattle.mlp_bits.specs.Bits.{bits_of}
use Rattle.mlp_bits.proofs.BitLists.{length-bits_of}
use Rattle.mlp_layout.specs.Contents.{Contents, segments}
use Rattle.mlp_params.specs.declared.state.State.{State}
use Rattle.mlp_unit.specs.AccessUnit.{AccessUnit, in_force, substreams_of}
use Rattle.mlp_unit.specs.Shape.{segment_bits, HasCount}
use Rattle.mlp_substream.specs.declared.known.Place.{Place}
use Rattle.mlp_substream.specs.declared.known.Known.{Known}
use Rattle.mlp_substream.specs.Blocks.{force_after}
use Rattle.mlp_substream.specs.Segment.{segment}
use Rattle.mlp_channels.specs.Channels.{Coded, codes_channel, nothing_coded}
use Rattle.mlp_output.specs.Output.{folded}
use Rattle.mlp_contents.specs.declared.fault.SegmentFault.{SegmentFault}
use Rattle.mlp_contents.specs.Frames.{is_coded_by, channel}
use Rattle.mlp_contents.specs.Units.{Left, Unit_of, coded_at, coded_each, top_of, place_by, portion, force_behind, heard_of, after, whole}
use Rattle.mlp_contents.specs.Inner.{Inner, left_of, ForcesFit, is_coded_in, IsCovered, IsKept, unit_fault, unit_with_contents, IsTaken, IsTakenOr}
use Rattle.mlp_contents.specs.Read.{ForcesAre, HasRead, HaveMatrixed, Running, IsGiven, HasTakenContents}
use Rattle.mlp_contents.proofs.ChannelLists.{force_behind as coded_force, length-each}
use Rattle.mlp_contents.proofs.NearSegments.{segment_near}

-- ---- the bytes of a segment

pub bytes_few : (unit part : List ℕ) (o : Outer) (j : ℕ) → bits_of part ≡ segment_bits unit o j → length part ≤ length unit
bytes_few unit part o j e =
    omega (arith, length-bits_of part, length-bits_of unit, ap length e, length-take {A = Bool}, length-drop {A = Bool})

pub fault_near : (place : Place) (known : Known) (force : Option State) (checked : Bool) (bytes : List ℕ) (e : Broken) → length bytes ≤ 8190 → (segment place known force checked).read (bits_of bytes) ≡ Err e → e.bit ≤ 65648
fault_near place known force checked bytes e few h = omega (arith, few, length-bits_of bytes, segment_near place known force checked (bits_of bytes) e h)

-- ---- the channels

or_is : (a b : Bool) → cond {A = Bool} a true b ≡ (a || b)
or_is true b = refl
or_is false b = refl

coded_by_each : (place : Place) (xs : List Coded) (ss : List Segment) (c : ℕ) → length ss ≡ length xs → is_coded_by place xs ss c ≡ is_coded_in (coded_each place xs ss) c
coded_by_each place [] ss c e = refl
coded_by_each place (x ∷ xs) [] c e = absurd (omega arith)
coded_by_each place (x ∷ xs) (s ∷ ss) c e =
    ap (λ (b : Bool). cond {A = Bool} (codes_channel (force_after place x.force s.blocks.items) c) true b) (coded_by_each place xs ss c (omega arith))
    ∙ or_is (codes_channel (force_after place x.force s.blocks.items) c) (is_coded_in (coded_each place xs ss) c)
    ∙ ap (λ (f : Option State). codes_channel f c || is_coded_in (coded_each place xs ss) c) (sym (coded_force place x s))

force_at : (place : Place) (xs : List Coded) (ss : List Segment) (k : ℕ) → length ss ≡ length xs → k < length xs → (coded_at (coded_each place xs ss) k).force ≡ force_after place (coded_at xs k).force (top_of k ss).blocks.items
force_at place [] ss k e lt = absurd (omega arith)
force_at place (x ∷ xs) [] k e lt = absurd (omega arith)
force_at place (x ∷ xs) (s ∷ ss) zero e lt = coded_force place x s
force_at place (x ∷ xs) (s ∷ ss) (suc k) e lt = force_at place xs ss k (omega arith) (omega arith)

module _ (place : Place) (old new : List Coded) (ss : List Segment) (top : Segment) (frames : List (List ℤ)) (h : HasRead place old new ss top frames) where
  abbrev last : Option State
  last = (coded_at new (length old - 1)).force

  matrixed_by : (force : Option State) → last ≡ force → IsCovered force new → HaveMatrixed force (channel place old ss) (length top.codes.items) frames
  matrixed_by None e covered = tt
  matrixed_by (Some s) e covered = λ c le.
      h.frames_have c (coded_by_each place old ss c h.count ∙ ap (λ (xs : List Coded). is_coded_in xs c) (sym h.coded) ∙ covered c le)

  pub matrixed : (force : Option State) → force ≡ last → HaveMatrixed force (channel place old ss) (length top.codes.items) frames
  matrixed force e = matrixed_by force (sym e) (subst (λ (f : Option State). IsCovered f new) (sym e) h.covered)

  pub taken_contents : (force : Option State) → force ≡ last → (ended : Bool) → ended ≡ is_some top.terminator → (before behind : Running) (rows : List (List ℤ))
      → ((channels : ℕ → List ℤ) → HaveMatrixed force channels (length top.codes.items) frames → IsGiven place channels top force before behind rows) → HasTakenContents place ss old new ended before behind rows
  taken_contents force e ended ended_is before behind rows given = record {
    count = h.count;
    coded = h.coded;
    forces = h.forces;
    covered = h.covered;
    ended_is = ended_is ∙ sym h.ended;
    given = subst (λ (t : Segment). IsGiven place (channel place old ss) t last before behind rows) h.top_is
        (subst (λ (f : Option State). IsGiven place (channel place old ss) top f before behind rows) e (given (channel place old ss) (matrixed force e)));
  }

-- ---- a whole unit

left_is : (sync : Option MajorSync) (e f : Bool) (xs ys : List Coded) (m n c d : ℕ) → e ≡ f → xs ≡ ys → m ≡ n → c ≡ d
    → (let a : Left = record { sync = sync; ended = e; substreams = xs; seed = m; check = c } in let b : Left = record { sync = sync; ended = f; substreams = ys; seed = n; check = d } in a ≡ b)
left_is sync e f xs ys m n c d p q r s = cc

abbrev running : Inner → Running
running x = record { seed = x.seed; check = x.check }

pub forces_behind : (sync : Option MajorSync) (major : Option MajorSync) (m : MajorSync) (xs : List Coded) → in_force sync major ≡ Some m → ForcesAre (place_by sync major) xs → ForcesFit (in_force sync major) xs
forces_behind None None m xs e h = absurd cc
forces_behind None (Some here) m xs e h = h
forces_behind (Some first) major m xs e h = h

module _ (sync : Option MajorSync) (o : AccessUnit) (text : List Bool) (old new : Inner) (rows : List (List ℤ)) (ss : List Segment) (count : length old.substreams ≡ old.last + 1) (last_is : new.last ≡ old.last)
    (h : HasTakenContents (place_by sync o.major) ss old.substreams new.substreams new.ended (running old) (running new) rows) where
  abbrev place : Place
  place = place_by sync o.major

  abbrev u : Unit_of
  u = unit_with_contents o ss

  at_last : length old.substreams - 1 ≡ old.last
  at_last = omega (arith, count)

  force_is : (coded_at new.substreams (length old.substreams - 1)).force ≡ force_behind old.last (left_of sync old) u
  force_is =
      ap (λ (n : ℕ). (coded_at new.substreams n).force) at_last ∙ ap (λ (xs : List Coded). (coded_at xs old.last).force) h.coded
      ∙ force_at place old.substreams ss old.last h.count (omega (arith, count))

  given : IsGiven place (channel place old.substreams ss) (top_of old.last ss) (force_behind old.last (left_of sync old) u) (running old) (running new) rows
  given =
      subst (λ (f : Option State). IsGiven place (channel place old.substreams ss) (top_of old.last ss) f (running old) (running new) rows) force_is
      (subst (λ (n : ℕ). IsGiven place (channel place old.substreams ss) (top_of n ss) (coded_at new.substreams (length old.substreams - 1)).force (running old) (running new) rows) at_last h.given)

  pub taken : ((whole old.last).contents (left_of sync old) o).read text ≡ Ok ss → IsTaken sync o text old new rows
  unfolding after heard_of
  taken read = record {
    contents = ss;
    read = read;
    left = left_is (in_force sync o.major) new.ended _ new.substreams _ new.seed _ new.check _ h.ended_is h.coded given.seed given.check;
    rows_are = given.rows_are;
  }

  pub kept_behind : (m : MajorSync) → in_force sync o.major ≡ Some m → IsKept (in_force sync o.major) new
  kept_behind m e = record {
    count = ap length h.coded ∙ length-each place old.substreams ss ∙ count ∙ ap (λ (n : ℕ). n + 1) (sym last_is);
    forces = forces_behind sync o.major m new.substreams e h.forces;
    covered = subst (λ (n : ℕ). IsCovered (coded_at new.substreams n).force new.substreams) (at_last ∙ sym last_is) h.covered;
  }

-- ---- before the first unit

-- three substreams of which nothing is known
pub starts_with : (k : ℕ) (a b c : Coded) → k ≤ 2 → a ≡ nothing_coded → b ≡ nothing_coded → c ≡ nothing_coded → take (k + 1) (a ∷ b ∷ c ∷ []) ≡ replicate (k + 1) nothing_coded
starts_with k a b c few ea eb ec =
    let three : a ∷ b ∷ c ∷ [] ≡ replicate 3 nothing_coded = rw (ea, eb, ec) refl in
    ap (take (k + 1)) three ∙ take-replicate (k + 1) 3 nothing_coded (omega (arith, few))

-- ---- what an object for the substreams keeps

abbrev contents_of : AccessUnit → Place → List Coded → ℕ → Contents (List Segment)
contents_of o place xs check = segments (portion (length xs - 1) place xs (folded check) o) (length xs - 1 + 1) []

-- the segments of these substreams were read and played, or this rule fails
abbrev pub IsAnswered : AccessUnit → List Bool → Place → List Coded → List Coded → Bool → ℕ → ℕ → ℕ → ℕ → List (List ℤ) → Result (Unit {0}) SegmentFault → Type 0
IsAnswered o text place xs ys later seed check seed' check' rows r =
    MatchResult r
    (λ _. (ss : List Segment) × ((contents_of o place xs check).read text ≡ Ok ss) × HasTakenContents place ss xs ys later (record { seed = seed; check = check }) (record { seed = seed'; check = check' }) rows)
    (λ e. (contents_of o place xs check).read text ≡ Err (unit_fault e))

module _ (sync : Option MajorSync) (o : AccessUnit) (text : List Bool) (place : Place) (xs ys rest : List Coded) (last : ℕ) (ended later : Bool) (seed check seed' check' : ℕ) (rows : List (List ℤ))
    (place_is : place ≡ place_by sync o.major) (count : length xs ≡ last + 1) where
  abbrev old : Inner
  old = record { last = last; ended = ended; substreams = xs; seed = seed; check = check }

  abbrev pub inside_new : Inner
  inside_new = record { last = last; ended = later; substreams = take (last + 1) (ys ++ rest); seed = seed'; check = check' }

  abbrev contents : Contents (List Segment)
  contents = contents_of o place xs check

  -- of these segments
  abbrev Taken : List Segment → Type 0
  Taken ss = HasTakenContents place ss xs ys later (record { seed = seed; check = check }) (record { seed = seed'; check = check' }) rows

  at_end : length xs - 1 ≡ last
  at_end = omega (arith, count)

  contents_are : contents ≡ (whole last).contents (left_of sync old) o
  contents_are = ap (λ (n : ℕ). segments (portion n place xs (folded check) o) (n + 1) []) at_end ∙ ap (λ (p : Place). segments (portion last p xs (folded check) o) (last + 1) []) place_is

  same_list : (ss : List Segment) → Taken ss → take (last + 1) (ys ++ rest) ≡ ys
  same_list ss h = take_at ys rest (last + 1) (ap length h.coded ∙ length-each place xs ss ∙ count)

  taken_here : (ss : List Segment) → Taken ss → HasTakenContents (place_by sync o.major) ss old.substreams inside_new.substreams inside_new.ended (running old) (running inside_new) rows
  taken_here ss h =
      subst (λ (zs : List Coded). HasTakenContents (place_by sync o.major) ss xs zs later (running old) (running inside_new) rows) (sym (same_list ss h))
      (subst (λ (p : Place). HasTakenContents p ss xs ys later (running old) (running inside_new) rows) place_is h)

  pub taken_or : (r : Result (Unit {0}) SegmentFault) → IsAnswered o text place xs ys later seed check seed' check' rows r → IsTakenOr sync o text old inside_new rows r
  taken_or (Ok done) h = taken sync o text old inside_new rows h.0 count refl (taken_here h.0 h.2) (subst (λ (k : Contents (List Segment)). k.read text ≡ Ok h.0) contents_are h.1)
  taken_or (Err e) h = subst (λ (k : Contents (List Segment)). k.read text ≡ Err (unit_fault e)) contents_are h

  pub kept_or : (m : MajorSync) → in_force sync o.major ≡ Some m → (r : Result (Unit {0}) SegmentFault) → IsAnswered o text place xs ys later seed check seed' check' rows r → OnOk r (IsKept (in_force sync o.major) inside_new)
  kept_or m e (Ok done) h = kept_behind sync o text old inside_new rows h.0 count refl (taken_here h.0 h.2) m e
  kept_or m e (Err d) h = tt

-- a unit with entries stands behind a major sync
pub sync_there : (sync : Option MajorSync) (o : Outer) (k : ℕ) → HasCount sync o → k < length o.entries.items → (m : MajorSync) × (in_force sync o.major ≡ Some m)
sync_there sync o k count lt = by_case (in_force sync o.major) refl count
  where
    by_case : (s : Option MajorSync) → in_force sync o.major ≡ s → length o.entries.items ≡ substreams_of s → (m : MajorSync) × (in_force sync o.major ≡ Some m)
    by_case None e n = absurd (omega (arith, n, lt))
    by_case (Some m) e n = (m, e)
