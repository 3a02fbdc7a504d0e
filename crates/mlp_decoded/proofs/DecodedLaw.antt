-- What a stream's units let come out is its samples, packed.
use Rattle.std.proofs.Common.{◌≡◌, ℕ, ◌+◌, ◌-◌, ◌<◌, ◌≤◌, ◌&&◌, Bool, true, List, [], ◌∷◌, ◌++◌, length, take, Option, Some, None, Result, Ok, Err, refl, sym, ap, subst, ◌∙◌, arith, append_assoc, length-append, ℤ}
use Rattle.std.specs.Prelude.{IsTrue, slice_index_or}
use Rattle.std.specs.List.{list_all}
use Rattle.std.proofs.lemmas.List.Concat.{flat_map-append}
use Rattle.std.proofs.lemmas.Bool.{and_parts}
use Rattle.std.proofs.Math.Seq.{take-append-add}
use Rattle.std.proofs.lemmas.List.{append-nil, take-append-le, get_or-append-add, get_or_append_left}
use Rattle.std.proofs.lemmas.List.Folds.{list_all-append}
use Rattle.mlp_io.specs.Limit.{limit}
use Rattle.mlp_syntax.specs.declared.restart.Restart.{Restart}
use Rattle.mlp_syntax.specs.declared.segment.BlockHead.{BlockHead}
use Rattle.mlp_bits.specs.Bits.{bits_of}
use Rattle.mlp_layout.specs.Streams.{IsNext, Begins, Stream, left_after, rest_of, spelling_of}
use Rattle.mlp_layout.proofs.StreamLaws.{begins_none, begins_one, begins_more, left_more}
use Rattle.mlp_params.specs.declared.state.State.{State}
use Rattle.mlp_stream.specs.declared.refusal.Refusal.{Refusal}
use Rattle.mlp_stream.specs.declared.refusal.Refusal.TheVariants.{LowBits}
use Rattle.mlp_stream.specs.declared.stop.Stop.{Stop}
use Rattle.mlp_answers.specs.Answers.{refusing, Gives, Answers, finished, refuses, Answer}
use Rattle.mlp_pcm.specs.Samples.{first_failing, is_clear, row_bytes, packed, is_packable, first_low}
use Rattle.mlp_pcm.proofs.FirstFailing.{is_first, first_failing_is}
use Rattle.mlp_pcm.proofs.SampleBytes.{clear_24}
use Rattle.mlp_contents.specs.Known.{first_restart}
use Rattle.mlp_contents.specs.Inner.{channels_of}
use Rattle.mlp_contents.specs.Units.{Left, Unit_of, start, coded_at, place_of, top_of, frames_out, after, whole}
use Rattle.mlp_contents.proofs.FormatLaws.{whole_is, whole_bytes}
use Rattle.mlp_samples.specs.Samples.{frames_by_steps, blocks_in, samples}
use Rattle.mlp_samples.specs.Leaving.{matrix_of, matrix_in_force}
use Rattle.mlp_samples.proofs.UnitParts.{unit_segments}
use Rattle.mlp_samples.proofs.FirstRestarts.{some_blocks}
use Rattle.mlp_samples.proofs.Streams.{samples_are, left_is}
use Rattle.mlp_present.specs.Decoding.{channels_by}
use Rattle.mlp_sessions.specs.Playing.{as_bytes, played, frames_given, places, unit_played, playing}
use Rattle.mlp_sessions.proofs.PlayFollows.{decode_has_one}
use Rattle.mlp_cut.proofs.CutLaws.{begins_split}
use Rattle.mlp_decoded.specs.Decoded.{channels_in, channels, decoded, Writes}

-- ---- the number of channels

abbrev up_to : Option ℕ → ℕ
up_to None = 0
up_to (Some m) = m + 1

by_force : (force : Option State) → channels_of force ≡ up_to (matrix_in_force force)
by_force None = refl
by_force (Some s) = refl

by_restart : (o : Option Restart) → up_to (matrix_of o) ≡ channels_in o
by_restart None = refl
by_restart (Some r) = refl

first_before : (hs gs : List BlockHead) → 0 < length hs → first_restart (hs ++ gs) ≡ first_restart hs
first_before [] gs some = absurd (omega arith)
first_before (h ∷ hs) gs some = refl

module _ (k : ℕ) where
  abbrev blocks_of : Unit_of → List BlockHead
  blocks_of u = (top_of k u.contents).blocks.items

  has_blocks : (left : Left) (all : List Bool) (u : Unit_of) → IsNext (whole k) left all u → 0 < length (blocks_of u)
  has_blocks left all u next =
      let segments = unit_segments k left u (spelling_of (whole k) left u) next.contents in
      some_blocks (place_of left u.outer) (segments.knows k) (coded_at left.substreams k).force (segments.checks k) (top_of k u.contents) (segments.allowed k (omega arith))

  -- the first restart is that of the first unit
  in_first : (u : Unit_of) (us vs : List Unit_of) → 0 < length (blocks_of u) → first_restart (blocks_in k (u ∷ us)) ≡ first_restart (blocks_in k (u ∷ vs))
  in_first u us vs some = first_before (blocks_of u) (blocks_in k us) some ∙ sym (first_before (blocks_of u) (blocks_in k vs) some)

  -- .. whatever units come behind the next one
  first_stays : (all : List Bool) (before : List Unit_of) (middle : List Bool) (u : Unit_of) (us : List Unit_of) → Begins (whole k) (start k) all before middle → 0 < length (blocks_of u)
      → first_restart (blocks_in k (before ++ u ∷ [])) ≡ first_restart (blocks_in k (before ++ u ∷ us))
  unfolding Begins
  first_stays all [] middle u us b some = in_first u [] us some
  first_stays all (v ∷ before) middle u us b some = in_first v (before ++ u ∷ []) (before ++ u ∷ us) (has_blocks (start k) all v b.0)

  behind_one : (before : List Unit_of) (left : Left) (u : Unit_of) → left_after (whole k) (start k) before ≡ left → left_after (whole k) (start k) (before ++ u ∷ []) ≡ after k left u
  behind_one before left u same = left_more (whole k) (whole_is k) (start k) before (u ∷ []) ∙ ap (λ (l : Left). after k l u) same

  begin_one : (all : List Bool) (before : List Unit_of) (left : Left) (middle : List Bool) (u : Unit_of) → left_after (whole k) (start k) before ≡ left → Begins (whole k) (start k) all before middle
      → IsNext (whole k) left middle u → Begins (whole k) (start k) all (before ++ u ∷ []) (rest_of (whole k) left middle u)
  begin_one all before left middle u same b next =
      let rest = rest_of (whole k) left middle u in
      begins_more (whole k) (whole_is k) (start k) all before middle (u ∷ []) rest b
      (subst (λ (l : Left). Begins (whole k) l middle (u ∷ []) rest) (sym same) (begins_one (whole k) (whole_is k) left middle u next))

  pub channels_behind : (all : List Bool) (us : List Unit_of) (rest : List Bool) → Begins (whole k) (start k) all us rest → places (channels_by k (left_after (whole k) (start k) us)) ≡ channels k us
  channels_behind all us rest b =
      let left = left_after (whole k) (start k) us in
      ap places (by_force (coded_at left.substreams k).force ∙ ap up_to ((left_is k all rest us b).max_matrix k (omega arith)) ∙ by_restart (first_restart (blocks_in k us)))

  -- behind each unit there are as many as behind the last
  unit_channels : (all : List Bool) (before : List Unit_of) (left : Left) (middle : List Bool) (u : Unit_of) (us : List Unit_of) → left_after (whole k) (start k) before ≡ left → Begins (whole k) (start k) all before middle
      → IsNext (whole k) left middle u → places (channels_by k (after k left u)) ≡ channels k (before ++ u ∷ us)
  unit_channels all before left middle u us same b next =
      let rest = rest_of (whole k) left middle u in
      ap (λ (l : Left). places (channels_by k l)) (sym (behind_one before left u same)) ∙ channels_behind all (before ++ u ∷ []) rest (begin_one all before left middle u same b next)
      ∙ ap (λ (o : Option Restart). places (channels_in o)) (first_stays all before middle u us b (has_blocks left middle u next))

-- ---- low bits

all_parts : (test : List ℤ → Bool) (xs ys : List (List ℤ)) → IsTrue (list_all test (xs ++ ys)) → IsTrue (list_all test xs) × IsTrue (list_all test ys)
all_parts test xs ys h = and_parts (list_all test xs) (list_all test ys) (sym (list_all-append test xs ys) ∙ h)

none_parts : (test : List ℤ → Bool) (xs ys : List (List ℤ)) → first_failing test (xs ++ ys) ≡ None → (first_failing test xs ≡ None) × (first_failing test ys ≡ None)
none_parts test xs ys h =
    let both = all_parts test xs ys ((first_failing_is test (xs ++ ys)).none.0 h) in
    ((first_failing_is test xs).none.1 both.0, (first_failing_is test ys).none.1 both.1)

-- the first low one is one of these in the middle
low_parts : (test : List ℤ → Bool) (xs ys zs : List (List ℤ)) (j : ℕ) → j < length ys → first_failing test (xs ++ (ys ++ zs)) ≡ Some (length xs + j)
    → (first_failing test xs ≡ None) × (first_failing test ys ≡ Some j)
low_parts test xs ys zs j lt e =
    let first = ((first_failing_is test (xs ++ (ys ++ zs))).some (length xs + j)).0 e in
    let taken : take (length xs + j) (xs ++ (ys ++ zs)) ≡ xs ++ take j ys = take-append-add xs (ys ++ zs) j ∙ ap (λ (rows : List (List ℤ)). xs ++ rows) (take-append-le j ys zs (omega arith)) in
    let at : slice_index_or (xs ++ (ys ++ zs)) (length xs + j) [] ≡ slice_index_or ys j [] = get_or-append-add xs (ys ++ zs) j [] ∙ get_or_append_left ys zs [] j lt in
    let both = all_parts test xs (take j ys) (ap (list_all test) (sym taken) ∙ first.before) in (
      (first_failing_is test xs).none.1 both.0,
      is_first test ys j (record { within = lt; before = both.1; here = ap test (sym at) ∙ first.here }),
    )

clear_row : (row : List ℤ) → IsTrue (list_all (is_clear 24) row)
clear_row [] = refl
clear_row (s ∷ row) = ap (λ (b : Bool). b && list_all (is_clear 24) row) (clear_24 s) ∙ clear_row row

packable : (c : ℕ) (rows : List (List ℤ)) → IsTrue (list_all (is_packable 24 c) rows)
packable c [] = refl
packable c (row ∷ rows) = ap (λ (b : Bool). b && list_all (is_packable 24 c) rows) (clear_row (take c row)) ∙ packable c rows

pub none_low : (c : ℕ) (rows : List (List ℤ)) → first_low 24 c rows ≡ None
none_low c rows = (first_failing_is (is_packable 24 c) rows).none.1 (packable c rows)

-- ---- frames of units

module _ (k : ℕ) where
  steps_more : (left : Left) (us vs : List Unit_of) → frames_by_steps k left (us ++ vs) ≡ frames_by_steps k left us ++ frames_by_steps k (left_after (whole k) left us) vs
  steps_more left [] vs = refl
  steps_more left (u ∷ us) vs =
      ap (λ (rows : List (List ℤ)). frames_out k left u ++ rows) (steps_more (after k left u) us vs)
      ∙ sym (append_assoc (frames_out k left u) (frames_by_steps k (after k left u) us) (frames_by_steps k (left_after (whole k) (after k left u) us) vs))

  given_long : (left : Left) (us : List Unit_of) → frames_given k left us ≡ length (frames_by_steps k left us)
  given_long left [] = refl
  given_long left (u ∷ us) =
      ap (λ (n : ℕ). length (frames_out k left u) + n) (given_long (after k left u) us) ∙ sym (length-append (frames_out k left u) (frames_by_steps k (after k left u) us))

-- ---- what comes out

module _ (k bits : ℕ) where
  played_by : (n before : ℕ) (left behind : Left) (u : Unit_of) (first : Option ℕ) → behind ≡ left → places (channels_by k (after k left u)) ≡ n → first_low bits n (frames_out k left u) ≡ first
      → unit_played k bits before behind u ≡ as_bytes bits n before (frames_out k left u) first
  played_by n before left behind u first same count low =
      ap (λ (l : Left). unit_played k bits before l u) same
      ∙ ap (λ (c : ℕ). played bits c before (frames_out k left u)) count
      ∙ ap (as_bytes bits n before (frames_out k left u)) low

  -- of units behind others
  gives_on : (n : ℕ) (all : List Bool) (us before : List Unit_of) (left : Left) (middle rest : List Bool) → left_after (whole k) (start k) before ≡ left → Begins (whole k) (start k) all before middle → Begins (whole k) left middle us rest
      → channels k (before ++ us) ≡ n → first_low bits n (frames_by_steps k left us) ≡ None → Gives (playing k bits) before us (packed bits n (frames_by_steps k left us))
  unfolding Gives Begins
  gives_on n all [] before left middle rest same b c count clear = refl
  gives_on n all (u ∷ us) before left middle rest same b c count clear =
      let here = frames_out k left u in
      let later = frames_by_steps k (after k left u) us in
      let parts = none_parts (is_packable bits n) here later clear in (
        packed bits n here,
        packed bits n later,
        played_by n (frames_given k (start k) before) left (left_after (whole k) (start k) before) u None same (unit_channels k all before left middle u us same b c.0 ∙ count) parts.0,
        gives_on n all us (before ++ u ∷ []) (after k left u) (rest_of (whole k) left middle u) rest (behind_one k before left u same) (begin_one k all before left middle u same b c.0) c.1
            (ap (channels k) (append_assoc before (u ∷ []) us) ∙ count) parts.1,
        flat_map-append (row_bytes bits n) here later,
      )

  gives_all : (all : List Bool) (us : List Unit_of) (rest : List Bool) → Begins (whole k) (start k) all us rest → first_low bits (channels k us) (samples k us) ≡ None → Gives (playing k bits) [] us (decoded k bits us)
  gives_all all us rest b clear =
      let same = samples_are k all rest us b in
      subst (λ (rows : List (List ℤ)). Gives (playing k bits) [] us (packed bits (channels k us) rows)) same
      (gives_on (channels k us) all us [] (start k) all rest refl (begins_none (whole k) (whole_is k) (start k) all) b refl (ap (first_low bits (channels k us)) same ∙ clear))

  -- the first units have the channels of all
  clear_before : (all : List Bool) (before more : List Unit_of) (middle : List Bool) → Begins (whole k) (start k) all before middle → first_low bits (channels k (before ++ more)) (samples k before) ≡ None
      → first_low bits (channels k before) (samples k before) ≡ None
  unfolding Begins first_failing
  clear_before all [] more middle b clear = refl
  clear_before all (v ∷ before) more middle b clear =
      ap (λ (o : Option Restart). first_low bits (places (channels_in o)) (samples k (v ∷ before))) (in_first k v before (before ++ more) (has_blocks k (start k) all v b.0)) ∙ clear

-- ---- the answer

answers : (k bits : ℕ) (bytes : List ℕ) (end : Result Unit Stop) (output : List ℕ) → length bytes ≤ limit → Answers (playing k bits) true bytes end output → Writes k bits bytes end output
answers k bits bytes end output few a =
    let is : Answer (playing k bits) bytes end output = record { within = λ le. a; past = λ lt. absurd (omega arith) } in
    record { is = is; only = λ f other b. (decode_has_one k bits bytes).one f end other output b is }

pub writes : (k bits : ℕ) (bytes : List ℕ) (us : List Unit_of) → length bytes ≤ limit → Stream (whole k) (start k) k (bits_of bytes) us → first_low bits (channels k us) (samples k us) ≡ None
    → Writes k bits bytes (Ok tt) (decoded k bits us)
writes k bits bytes us few stream clear =
    let gives = gives_all k bits (bits_of bytes) us [] stream.units.begins clear in
    answers k bits bytes (Ok tt) (decoded k bits us) few (finished us (decoded k bits us) [] refl stream gives refl (sym (append-nil (decoded k bits us))))

pub writes_all : (k : ℕ) (bytes : List ℕ) (us : List Unit_of) → length bytes ≤ limit → Stream (whole k) (start k) k (bits_of bytes) us → Writes k 24 bytes (Ok tt) (decoded k 24 us)
writes_all k bytes us few stream = writes k 24 bytes us few stream (none_low (channels k us) (samples k us))

-- ---- .. where a frame has low bits

module _ (k bits : ℕ) (bytes : List ℕ) (before us : List Unit_of) (u : Unit_of) (few : length bytes ≤ limit) (stream : Stream (whole k) (start k) k (bits_of bytes) (before ++ u ∷ us)) where
  abbrev all : List Bool
  all = bits_of bytes

  abbrev n : ℕ
  n = channels k (before ++ u ∷ us)

  abbrev left : Left
  left = left_after (whole k) (start k) before

  refused_at : (i : ℕ) → first_low bits n (samples k (before ++ u ∷ us)) ≡ Some i → length (samples k before) ≤ i → i < length (samples k (before ++ u ∷ []))
      → Writes k bits bytes (refusing (LowBits i)) (decoded k bits before)
  unfolding Begins
  refused_at i low from to =
      let one = begins_split (whole k) (whole_is k) (whole_bytes k) (start k) bytes before (u ∷ us) [] stream.units.begins in
      let two = begins_split (whole k) (whole_is k) (whole_bytes k) left one.0 (u ∷ []) us [] one.2 in
      let next : IsNext (whole k) left (bits_of one.0) u = one.2.0 in
      let begun = begins_more (whole k) (whole_is k) (start k) all before (bits_of one.0) (u ∷ []) (bits_of two.0) one.1 two.1 in
      let xs = frames_by_steps k (start k) before in
      let here = frames_out k left u in
      let later = frames_by_steps k (after k left u) us in
      let of_before : xs ≡ samples k before = samples_are k all (bits_of one.0) before one.1 in
      let of_all : samples k (before ++ u ∷ us) ≡ xs ++ (here ++ later) = sym (samples_are k all [] (before ++ u ∷ us) stream.units.begins) ∙ steps_more k (start k) before (u ∷ us) in
      let of_some : samples k (before ++ u ∷ []) ≡ xs ++ (here ++ []) = sym (samples_are k all (bits_of two.0) (before ++ u ∷ []) begun) ∙ steps_more k (start k) before (u ∷ []) in
      let j = i - length xs in
      let there : length xs ≤ i = omega (arith, ap length of_before) in
      let inside : j < length here = omega (arith, ap length of_some, length-append xs (here ++ []), length-append here [], there) in
      let sum : i ≡ length xs + j = omega (arith, there) in
      let parts = low_parts (is_packable bits n) xs here later j inside (ap (first_low bits n) (sym of_all) ∙ low ∙ ap (λ (m : ℕ). some_of m) sum) in
      let clear = clear_before k bits all before (u ∷ us) (bits_of one.0) one.1 (ap (first_low bits n) (sym of_before) ∙ parts.0) in
      let number : frames_given k (start k) before + j ≡ i = ap (λ (m : ℕ). m + j) (given_long k (start k) before) ∙ sym sum in
      let out = played_by k bits n (frames_given k (start k) before) left left u (Some j) refl (unit_channels k all before left (bits_of one.0) u us refl one.1 next) parts.1 ∙ ap (λ (m : ℕ). low_of m) number in
      answers k bits bytes (refusing (LowBits i)) (decoded k bits before) few
      (refuses before one.0 two.0 u (LowBits i)
      (record { taken = record { begins = one.1; there = λ some. stream.exists }; gives = gives_all k bits all before (bits_of one.0) one.1 clear })
      (record { begins = begun; there = λ some. stream.exists }) out)
    where
      some_of : ℕ → Option ℕ
      some_of m = Some m

      low_of : ℕ → Result (List ℕ) Refusal
      low_of m = Err (LowBits m)

pub writes_before : (k bits i : ℕ) (bytes : List ℕ) (before us : List Unit_of) (u : Unit_of) → length bytes ≤ limit → Stream (whole k) (start k) k (bits_of bytes) (before ++ u ∷ us)
    → first_low bits (channels k (before ++ u ∷ us)) (samples k (before ++ u ∷ us)) ≡ Some i → length (samples k before) ≤ i → i < length (samples k (before ++ u ∷ []))
    → Writes k bits bytes (refusing (LowBits i)) (decoded k bits before)
writes_before k bits i bytes before us u few stream low from to = refused_at k bits bytes before us u few stream i low from to
