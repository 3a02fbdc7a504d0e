-- A cut that begins at a unit with a major sync is a stream with the same frames.
use Rattle.std.proofs.Common.{◌≡◌, ℕ, zero, suc, ◌+◌, ◌<◌, ◌≤◌, min, Bool, true, false, List, [], ◌∷◌, ◌++◌, length, take, drop, Option, Some, None, refl, sym, ap, subst, ◌∙◌, arith, append_assoc}
use Rattle.std.specs.Prelude.{is_some, IsTrue, replicate, ℤ}
use Rattle.std.specs.List.{flat_map}
use Rattle.std.proofs.Math.Seq.{take-add}
use Rattle.std.proofs.lemmas.List.Concat.{flat_map-cons}
use Rattle.std.proofs.lemmas.List.{take-append-drop, length-take, length-drop, take_at, drop_at}
use Rattle.mlp_syntax.specs.declared.major.MajorSync.{MajorSync}
use Rattle.mlp_bits.specs.Bits.{bits_of}
use Rattle.mlp_layout.specs.Streams.{IsNext, rest_of, left_after, Begins, Exists, Stream}
use Rattle.mlp_layout.proofs.StreamLaws.{more_left, one_has, begins_more}
use Rattle.mlp_unit.specs.AccessUnit.{in_force, substreams_of}
use Rattle.mlp_channels.specs.Channels.{nothing_coded}
use Rattle.mlp_contents.specs.Units.{Left, Unit_of, start, place_by, frames_out, after, whole}
use Rattle.mlp_contents.proofs.FormatLaws.{whole_is, whole_bytes}
use Rattle.mlp_contents.proofs.ChannelLists.{length-each}
use Rattle.mlp_samples.specs.Samples.{frames_by_steps, samples}
use Rattle.mlp_samples.proofs.Streams.{samples_are}
use Rattle.mlp_cut.specs.Cut.{units_bytes, first_sync, HasSync}
use Rattle.mlp_cut.proofs.CutLaws.{begins_split}
use Rattle.mlp_likeness.specs.Cut.{frames_from, frames_by_unit, PlaysAlike}
use Rattle.mlp_likeness.proofs.Likeness.{like_units}
use Rattle.mlp_likeness.proofs.Anew.{unit_anew}
use Rattle.mlp_likeness.proofs.OwnText.{texts, begins_alone, bytes_are}

-- ---- the frames of units one after the other

frames_append : (k : ℕ) (l : Left) (us vs : List Unit_of) → frames_from k l (us ++ vs) ≡ frames_from k l us ++ frames_from k (left_after (whole k) l us) vs
frames_append k l [] vs = refl
frames_append k l (u ∷ us) vs = ap (λ (fs : List (List (List ℤ))). frames_out k l u ∷ fs) (frames_append k (after k l u) us vs)

frames_long : (k : ℕ) (l : Left) (us : List Unit_of) → length (frames_from k l us) ≡ length us
frames_long k l [] = refl
frames_long k l (u ∷ us) = ap suc (frames_long k (after k l u) us)

-- .. side by side
frames_joined : (k : ℕ) (l : Left) (us : List Unit_of) → frames_by_steps k l us ≡ flat_map (λ fs. fs) (frames_from k l us)
frames_joined k l [] = refl
frames_joined k l (u ∷ us) = ap (λ (fs : List (List ℤ)). frames_out k l u ++ fs) (frames_joined k (after k l u) us) ∙ sym (flat_map-cons (λ (fs : List (List ℤ)). fs) (frames_out k l u) (frames_from k (after k l u) us))

steps_append : (k : ℕ) (l : Left) (us vs : List Unit_of) → frames_by_steps k l (us ++ vs) ≡ frames_by_steps k l us ++ frames_by_steps k (left_after (whole k) l us) vs
steps_append k l [] vs = refl
steps_append k l (u ∷ us) vs = ap (λ (fs : List (List ℤ)). frames_out k l u ++ fs) (steps_append k (after k l u) us vs)
    ∙ sym (append_assoc (frames_out k l u) (frames_by_steps k (after k l u) us) (frames_by_steps k (left_after (whole k) (after k l u) us) vs))

-- of units that are the same alone as behind others
samples_behind_others : (k : ℕ) (all middle rest : List Bool) (front us : List Unit_of) → Begins (whole k) (start k) all front middle → Begins (whole k) (left_after (whole k) (start k) front) middle us rest
    → Begins (whole k) (start k) middle us rest → frames_from k (left_after (whole k) (start k) front) us ≡ frames_from k (start k) us → samples k (front ++ us) ≡ samples k front ++ samples k us
samples_behind_others k all middle rest front us before behind alone same =
    let left = left_after (whole k) (start k) front in
    let both = begins_more (whole k) (whole_is k) (start k) all front middle us rest before behind in
    let here : frames_by_steps k left us ≡ frames_by_steps k (start k) us = frames_joined k left us ∙ ap (flat_map (λ (fs : List (List ℤ)). fs)) same ∙ sym (frames_joined k (start k) us) in
    sym (samples_are k all rest (front ++ us) both) ∙ steps_append k (start k) front us
    ∙ (λ i. samples_are k all middle front before i ++ (here ∙ samples_are k middle rest us alone) i)

-- ---- what units before a cut leave

-- nothing is taken yet, or the first major sync is this
pub record Knows (k : ℕ) (l : Left) (a : MajorSync) : Type 0 where
  pub sync : l.sync ≡ Some a
  pub long : length l.substreams ≡ k + 1

knows_on : (k : ℕ) (l : Left) (a : MajorSync) (u : Unit_of) → Knows k l a → Knows k (after k l u) a
unfolding after
knows_on k l a u h = record { sync = ap (λ (s : Option MajorSync). in_force s u.outer.major) h.sync; long = length-each (place_by l.sync u.outer.major) l.substreams u.contents ∙ h.long }

knows_behind : (k : ℕ) (l : Left) (a : MajorSync) (us : List Unit_of) → Knows k l a → Knows k (left_after (whole k) l us) a
knows_behind k l a [] h = h
knows_behind k l a (u ∷ us) h = knows_behind k (after k l u) a us (knows_on k l a u h)

long_start : (n : ℕ) → length (replicate n nothing_coded) ≡ n
long_start zero = refl
long_start (suc n) = ap suc (long_start n)

knows_first : (k : ℕ) (a : MajorSync) (u : Unit_of) → u.outer.major ≡ Some a → Knows k (after k (start k) u) a
unfolding after
knows_first k a u e = record { sync = e; long = length-each (place_by None u.outer.major) (start k).substreams u.contents ∙ long_start (k + 1) }

-- ---- the presentation is there

told_by : (k : ℕ) (o : Option MajorSync) → k < min 3 (substreams_of o) → (a : MajorSync) × (o ≡ Some a) × (k < min 3 a.substreams)
told_by k None lt = absurd (omega (arith, lt))
told_by k (Some a) lt = (a, refl, lt)

first_told : (k : ℕ) (all : List Bool) (u : Unit_of) → Exists (whole k) (start k) k all → IsNext (whole k) (start k) all u → k < min 3 (substreams_of u.outer.major)
first_told k all u exists next =
    let same : exists.0 ≡ min 3 (substreams_of u.outer.major) = one_has (whole k) (whole_is k) (start k) all exists.0 (min 3 (substreams_of u.outer.major)) exists.1 (u.outer, next.outer, refl) in
    subst (λ (n : ℕ). k < n) same exists.2

-- ---- units behind a unit with a major sync

-- they are the same as a stream by themselves
pub record Alone (k : ℕ) (l : Left) (all : List Bool) (us : List Unit_of) (rest : List Bool) : Type 0 where
  pub begins : Begins (whole k) (start k) all us rest
  pub frames : frames_from k l us ≡ frames_from k (start k) us
  pub told : k < min 3 (substreams_of (first_sync us))

alone : (k : ℕ) (l : Left) (a m : MajorSync) (all : List Bool) (u : Unit_of) (us : List Unit_of) (rest : List Bool) → Knows k l a → k < min 3 a.substreams → u.outer.major ≡ Some m
    → Begins (whole k) l all (u ∷ us) rest → Alone k l all (u ∷ us) rest
unfolding Begins
alone k l a m all u us rest knows told is_here b =
    let one = unit_anew k l a m all u knows.sync is_here knows.long b.0 in
    let later = like_units k (after k l u) (after k (start k) u) (rest_of (whole k) l all u) us rest one.like b.1 in
    let same : min 3 a.substreams ≡ min 3 (substreams_of u.outer.major) = ap (min 3) (one.alike.substreams ∙ sym (ap substreams_of is_here)) in
    record {
      begins = (one.next, subst (λ (t : List Bool). Begins (whole k) (after k (start k) u) t us rest) one.rest later.begins);
      frames = λ i. one.frames i ∷ later.frames i;
      told = subst (λ (n : ℕ). k < n) same told;
    }

first_alone : (k : ℕ) (all : List Bool) (u : Unit_of) (us : List Unit_of) (rest : List Bool) → Exists (whole k) (start k) k all → Begins (whole k) (start k) all (u ∷ us) rest → Alone k (start k) all (u ∷ us) rest
unfolding Begins
first_alone k all u us rest exists b = record { begins = b; frames = refl; told = first_told k all u exists b.0 }

-- behind these units
alone_behind : (k : ℕ) (all : List Bool) (front : List Unit_of) (middle : List Bool) (u : Unit_of) (us : List Unit_of) (rest : List Bool) (m : MajorSync)
    → Exists (whole k) (start k) k all → Begins (whole k) (start k) all front middle → u.outer.major ≡ Some m
    → Begins (whole k) (left_after (whole k) (start k) front) middle (u ∷ us) rest → Alone k (left_after (whole k) (start k) front) middle (u ∷ us) rest
unfolding Begins
alone_behind k all [] middle u us rest m exists before is_here b = first_alone k middle u us rest (subst (Exists (whole k) (start k) k) before exists) b
alone_behind k all (v ∷ front) middle u us rest m exists before is_here b =
    let first = told_by k v.outer.major (first_told k all v exists before.0) in
    alone k (left_after (whole k) (start k) (v ∷ front)) first.0 m middle u us rest (knows_behind k (after k (start k) v) first.0 front (knows_first k first.0 v first.1)) first.2 is_here b

-- ---- the cut

some_sync : (o : Option MajorSync) → IsTrue (is_some o) → (m : MajorSync) × (o ≡ Some m)
some_sync None e = absurd (let no : false ≡ true = e in cc)
some_sync (Some m) e = (m, refl)

pub stream_of : (k : ℕ) (all : List Bool) (u : Unit_of) (us : List Unit_of) → k < min 3 (substreams_of u.outer.major) → Begins (whole k) (start k) all (u ∷ us) [] → Stream (whole k) (start k) k all (u ∷ us)
unfolding Begins
stream_of k all u us told b = record {
  units = record { begins = b; some = more_left (whole k) (whole_is k) (start k) all u b.0 };
  exists = (min 3 (substreams_of u.outer.major), (u.outer, b.0.outer, refl), told);
}

module _ (k f c : ℕ) (bytes : List ℕ) (us : List Unit_of) (stream : Stream (whole k) (start k) k (bits_of bytes) us) where
  abbrev all : List Bool
  all = bits_of bytes

  abbrev front : List Unit_of
  front = take f us

  abbrev left : Left
  left = left_after (whole k) (start k) front

  -- of units before the cut, those of the cut, and those behind it
  of_parts : (u : Unit_of) (vs back : List Unit_of) → take c (drop f us) ≡ u ∷ vs → us ≡ front ++ ((u ∷ vs) ++ back) → length front ≡ f → length (u ∷ vs) ≡ c → IsTrue (is_some u.outer.major)
      → PlaysAlike k f c us
  of_parts u vs back is_cut is_all at count has =
      let begins = subst (λ (ws : List Unit_of). Begins (whole k) (start k) all ws []) is_all stream.units.begins in
      let one = begins_split (whole k) (whole_is k) (whole_bytes k) (start k) bytes front ((u ∷ vs) ++ back) [] begins in
      let two = begins_split (whole k) (whole_is k) (whole_bytes k) left one.0 (u ∷ vs) back [] one.2 in
      let sync = some_sync u.outer.major has in
      let by = alone_behind k all front (bits_of one.0) u vs (bits_of two.0) sync.0 stream.exists one.1 sync.1 two.1 in
      let own = stream_of k (texts (u ∷ vs)) u vs by.told (begins_alone k (start k) (bits_of one.0) (u ∷ vs) (bits_of two.0) by.begins) in
      let bits = bytes_are k (start k) (bits_of one.0) (u ∷ vs) (bits_of two.0) by.begins in
      let before = frames_from k (start k) front in
      let here = frames_from k left (u ∷ vs) in
      let behind = frames_from k (left_after (whole k) left (u ∷ vs)) back in
      let frames : frames_by_unit k us ≡ before ++ (here ++ behind) =
      ap (frames_from k (start k)) is_all ∙ frames_append k (start k) front ((u ∷ vs) ++ back) ∙ ap (λ (fs : List (List (List ℤ))). before ++ fs) (frames_append k left (u ∷ vs) back) in
      let cut_out : take c (drop f (before ++ (here ++ behind))) ≡ here =
      ap (take c) (drop_at before (here ++ behind) f (frames_long k (start k) front ∙ at)) ∙ take_at here behind c (frames_long k left (u ∷ vs) ∙ count) in
      record {
        stream = subst (λ (ws : List Unit_of). Stream (whole k) (start k) k (bits_of (units_bytes ws)) ws) (sym is_cut)
            (subst (λ (t : List Bool). Stream (whole k) (start k) k t (u ∷ vs)) (sym bits) own);
        samples = ap (samples k) (take-add f c us ∙ ap (λ (ws : List Unit_of). front ++ ws) is_cut)
            ∙ samples_behind_others k all (bits_of one.0) (bits_of two.0) front (u ∷ vs) one.1 two.1 by.begins by.frames
            ∙ ap (λ (ws : List Unit_of). samples k front ++ samples k ws) (sym is_cut);
        frames = ap (frames_from k (start k)) is_cut ∙ sym by.frames ∙ sym cut_out ∙ sym (ap (λ (fs : List (List (List ℤ))). take c (drop f fs)) frames);
      }

  by_first : (n : ℕ) (ds : List Unit_of) → drop f us ≡ ds → c ≡ suc n → f + c ≤ length us → HasSync f us → PlaysAlike k f c us
  by_first n [] e count within has = absurd (omega (arith, ap length e, length-drop f us))
  by_first n (d ∷ ds) e count within has =
      let is_cut : take c (drop f us) ≡ d ∷ take n ds = λ i. take (count i) (e i) in
      let halves : us ≡ front ++ (take c (drop f us) ++ drop c (drop f us)) = sym (take-append-drop f us) ∙ ap (λ (ws : List Unit_of). front ++ ws) (sym (take-append-drop c (drop f us))) in
      let is_all = halves ∙ ap (λ (ws : List Unit_of). front ++ (ws ++ drop c (drop f us))) is_cut in
      let long : length (d ∷ take n ds) ≡ c = sym (ap length is_cut) ∙ omega (arith, length-take c (drop f us), length-drop f us) in
      of_parts d (take n ds) (drop c (drop f us)) is_cut is_all (omega (arith, length-take f us)) long (subst (λ (ws : List Unit_of). IsTrue (is_some (first_sync ws))) e has)

pub plays_alike : (k f c : ℕ) (bytes : List ℕ) (us : List Unit_of) → Stream (whole k) (start k) k (bits_of bytes) us → 1 ≤ c → f + c ≤ length us → HasSync f us → PlaysAlike k f c us
plays_alike k f zero bytes us stream some within has = absurd (omega arith)
plays_alike k f (suc n) bytes us stream some within has = by_first k f (suc n) bytes us stream n (drop f us) refl refl within has
