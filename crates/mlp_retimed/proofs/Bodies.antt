-- The body of a unit in whose restarts another output timing stands.
use Rattle.std.proofs.Common.{◌≡◌, ℕ, zero, suc, ◌+◌, ◌-◌, ◌*◌, ◌/◌, ◌^◌, ◌<◌, ◌≤◌, Bool, List, [], ◌∷◌, ◌++◌, length, take, drop, Option, IsTrue, refl, sym, ap, subst, ◌∙◌, arith, append_assoc, add-one}
use Rattle.std.specs.List.{flat_map}
use Rattle.std.proofs.lemmas.List.{length-append, length-take, length-drop, take_at, drop_at}
use Rattle.std.proofs.lemmas.List.Concat.{flat_map-append}
use Rattle.std.proofs.lemmas.List.Elements.{All-nil, All-cons}
use Rattle.mlp_syntax.specs.declared.major.MajorSync.{MajorSync}
use Rattle.mlp_syntax.specs.declared.segment.Segment.{Segment}
use Rattle.mlp_syntax.specs.declared.unit.DirEntry.{DirEntry}
use Rattle.mlp_bits.specs.Bits.{bits_of}
use Rattle.mlp_bits.proofs.BitLists.{length-bits_of}
use Rattle.mlp_layout.specs.Allowed.{Allowed}
use Rattle.mlp_layout.specs.Tails.{FoundWhole}
use Rattle.mlp_layout.specs.Contents.{FoundIn, bits_in, segments, segment_first, no_segments}
use Rattle.mlp_layout.proofs.Fitting.{Small}
use Rattle.mlp_major.proofs.SyncReading.{bits_of-middle}
use Rattle.mlp_unit.specs.AccessUnit.{AccessUnit, access_unit}
use Rattle.mlp_unit.specs.Shape.{end_at, end_before}
use Rattle.mlp_unit.specs.Laws.{AreBytes, RewrittenMeets}
use Rattle.mlp_unit.specs.Written.{FirstUsable, written_unit}
use Rattle.mlp_unit.proofs.Fewer.{rewritten_meets}
use Rattle.mlp_unit.proofs.Reread.{Parts, parts_of}
use Rattle.mlp_substream.specs.declared.known.Place.{Place}
use Rattle.mlp_substream.specs.Segment.{segment, IsAllowed}
use Rattle.mlp_substream.specs.Timings.{stamped}
use Rattle.mlp_substream.proofs.StampedLaws.{stamped_allowed, stamped_long}
use Rattle.mlp_channels.specs.Channels.{Coded}
use Rattle.mlp_contents.specs.Known.{known}
use Rattle.mlp_contents.specs.Units.{coded_at, is_checked, portion}
use Rattle.mlp_extracted.proofs.Portions.{rises, bits_at, bits_at_is}
use Rattle.mlp_retime.specs.Retimed.{own_text, stamped_body}
use Rattle.mlp_samples.proofs.WholeBytes.{bits_again, bytes_are}
use Rattle.mlp_retimed.proofs.Segments.{spelled_alone}

-- ---- bytes

abbrev IsByte : ℕ → Type 0
IsByte b = b < 256

small_are : (bytes : List ℕ) → Small bytes → AreBytes bytes
small_are [] h = All-nil IsByte
small_are (b ∷ bytes) h = All-cons IsByte b bytes (h 0) (small_are bytes (λ i. h (suc i)))

module _ (first : Option MajorSync) (o : AccessUnit) (usable : FirstUsable first) (a : Allowed (access_unit first) o) where
  abbrev text : List Bool
  text = (access_unit first).spelling o

  abbrev es : List DirEntry
  es = o.entries

  parts : Parts first o (λ none. usable) a.fits a.meets
  parts = parts_of first o (λ none. usable) a.fits a.meets

  -- ---- the body that it has

  pub own_meets : (timing : ℕ) → timing < 65536 → RewrittenMeets first timing o o.body
  own_meets timing clock = rewritten_meets first timing o o.body usable a clock (small_are o.body parts.small) refl

  pub own_stays : (timing : ℕ) → timing < 65536 → (i : ℕ) → i < length es
      → (let new = written_unit timing o.major o.entries o.body in bits_at new i ((access_unit first).spelling new) ≡ bits_at o i text)
  own_stays timing clock i lt =
      let m = own_meets timing clock in
      bits_at_is first (written_unit timing o.major o.entries o.body) i m.allowed.fits m.writable.ends lt ∙ sym (bits_at_is first o i a.fits parts.ends lt)

  -- ---- another one

  module _ (k : ℕ) (place : Place) (major : IsTrue place.major) (xs : List Coded) (check t : ℕ) (small : t < 2 ^ 16) where
    abbrev anew : Segment → List Bool
    anew s = own_text place (stamped t s)

    size_is : (before : List Segment) (s : Segment) → length before < length es
        → FoundWhole (portion k place xs check o before).text (bits_in (portion k place xs check o before) text) s
        → length (anew s) ≡ 16 * (end_at es (length before) - end_before es (length before))
    unfolding portion
    size_is before s lt f =
        let n = length before in
        let force = (coded_at xs n).force in
        let given = known k force check before in
        let checked = is_checked es n in
        let here : IsAllowed (segment place given force checked) s = record { fits = f.fits; meets = f.meets } in
        let own = spelled_alone place given force checked (stamped t s) major (stamped_allowed place given force checked s t small here) in
        let long = stamped_long place given force checked s t small in
        let size = 2 * (end_at es n - end_before es n) in
        let front = 2 * end_before es n in
        omega (
          arith,
          rises (length o.body / 2) es n parts.ends lt,
          ap (λ (x : List Bool). length x) own,
          long,
          ap (λ (x : List Bool). length x) f.text_is,
          ap (λ (x : List Bool). length x) (bits_at_is first o n a.fits parts.ends lt),
          length-bits_of (take size (drop front o.body)),
          length-take size (drop front o.body),
          length-drop front o.body,
        )

    -- each of these segments, from substream i on, has the size of its range
    abbrev Sized : ℕ → List Segment → Type 0
    Sized i [] = Unit {0}
    Sized i (s ∷ ss) = (length (anew s) ≡ 16 * (end_at es i - end_before es i)) × Sized (suc i) ss

    sizes : (count : ℕ) (before ss : List Segment) → length before + count ≤ length es → FoundIn (segments (portion k place xs check o) count before) text ss
        → Sized (length before) ss × (length ss ≡ count)
    unfolding segments segment_first no_segments
    sizes zero before ss le h = (subst (Sized (length before)) (sym h.fits) tt, ap (λ (x : List Segment). length x) h.fits)
    sizes (suc count) before [] le h = absurd h.fits
    sizes (suc count) before (s ∷ ss) le h =
        let on : length (before ++ s ∷ []) ≡ suc (length before) = omega (arith, length-append before (s ∷ [])) in
        let later = sizes count (before ++ s ∷ []) ss (omega (arith, le, on)) (record { fits = h.fits.1; meets = h.meets.1 }) in
        let here = size_is before s (omega (arith, le)) (record { fits = h.fits.0.0; meets = h.meets.0; text_is = h.fits.0.1 }) in
        ((here, subst (λ (n : ℕ). Sized n ss) on later.0), ap suc later.1)

    long_text : (i : ℕ) (ss : List Segment) → Sized i ss → i + length ss ≤ length es → length (flat_map anew ss) + 16 * end_before es i ≡ 16 * end_before es (i + length ss)
    long_text i [] z le = let e : i + 0 ≡ i = omega arith in omega (arith, ap (end_before es) e)
    long_text i (s ∷ ss) z le =
        let on : suc i + length ss ≡ i + length (s ∷ ss) = omega arith in
        let there : end_before es (suc i) ≡ end_at es i = refl in
        omega (
          arith,
          z.0,
          rises (length o.body / 2) es i parts.ends (omega (arith, le)),
          there,
          long_text (suc i) ss z.1 (omega (arith, le)),
          length-append (anew s) (flat_map anew ss),
          ap (end_before es) on,
        )

    -- .. from the first one on
    front_text : (ss : List Segment) → Sized 0 ss → length ss ≤ length es → length (flat_map anew ss) ≡ 16 * end_before es (length ss)
    front_text ss z le =
        let none : end_before es 0 ≡ 0 = refl in
        let e : 0 + length ss ≡ length ss = omega arith in
        omega (arith, long_text 0 ss z (omega (arith, le)), ap (end_before es) e, none)

    sized_at : (i : ℕ) (before : List Segment) (s : Segment) (rest : List Segment) → Sized i (before ++ s ∷ rest)
        → Sized i before × (length (anew s) ≡ 16 * (end_at es (i + length before) - end_before es (i + length before)))
    sized_at i [] s rest z = let e : i ≡ i + 0 = omega arith in (tt, subst (λ (n : ℕ). length (anew s) ≡ 16 * (end_at es n - end_before es n)) e z.0)
    sized_at i (x ∷ before) s rest z =
        let later = sized_at (suc i) before s rest z.1 in
        let e : suc i + length before ≡ i + length (x ∷ before) = omega arith in
        ((z.0, later.0), subst (λ (n : ℕ). length (anew s) ≡ 16 * (end_at es n - end_before es n)) e later.1)

    module _ (ss : List Segment) (h : FoundIn (segments (portion k place xs check o) (k + 1) []) text ss) (there : k < length es) where
      sized : Sized 0 ss × (length ss ≡ k + 1)
      sized = sizes (k + 1) [] ss (omega (arith, there)) h

      abbrev behind : List Bool
      behind = bits_of (drop (2 * end_before es (length ss)) o.body)

      abbrev full : List Bool
      full = flat_map anew ss ++ behind

      abbrev body : List ℕ
      body = stamped_body place t (record { outer = o; contents = ss })

      full_long : length full ≡ 8 * length o.body
      full_long =
          let last : end_before es (length ss) ≡ end_at es k = ap (end_before es) (sized.1 ∙ add-one k) in
          omega (
            arith,
            last,
            rises (length o.body / 2) es k parts.ends there,
            front_text ss sized.0 (omega (arith, there, sized.1)),
            length-append (flat_map anew ss) behind,
            length-bits_of (drop (2 * end_before es (length ss)) o.body),
            length-drop (2 * end_before es (length ss)) o.body,
          )

      body_is : bits_of body ≡ full
      unfolding stamped_body
      body_is = bits_again (length o.body) full full_long

      body_long : length body ≡ length o.body
      body_long = omega (arith, ap (λ (x : List Bool). length x) body_is, full_long, length-bits_of body)

      pub stamped_length : length body ≡ length o.body
      stamped_length = body_long

      body_bytes : AreBytes body
      unfolding stamped_body
      body_bytes = bytes_are full

      module _ (timing : ℕ) (clock : timing < 65536) where
        pub stamped_meets : RewrittenMeets first timing o body
        stamped_meets = rewritten_meets first timing o body usable a clock body_bytes body_long

        abbrev new : AccessUnit
        new = written_unit timing o.major o.entries body

        -- each segment stands in its range
        pub stamped_stand : (before : List Segment) (s : Segment) (rest : List Segment) → ss ≡ before ++ s ∷ rest
            → bits_at new (length before) ((access_unit first).spelling new) ≡ anew s
        stamped_stand before s rest e =
            let n = length before in
            let at = sized_at 0 before s rest (subst (Sized 0) e sized.0) in
            let lt : n < length es = omega (arith, there, sized.1, ap (λ (x : List Segment). length x) e, length-append before (s ∷ rest)) in
            let r = rises (length o.body / 2) es n parts.ends lt in
            let from : 0 + n ≡ n = omega arith in
            let size_here : length (anew s) ≡ 16 * (end_at es n - end_before es n) = subst (λ (m : ℕ). length (anew s) ≡ 16 * (end_at es m - end_before es m)) from at.1 in
            let long : length (flat_map anew before) ≡ 8 * (2 * end_before es n) = omega (arith, front_text before at.0 (omega (arith, lt))) in
            let more = flat_map anew rest ++ behind in
            let split : full ≡ flat_map anew before ++ (anew s ++ more) =
            ap (λ (xs : List Segment). flat_map anew xs ++ behind) e
            ∙ ap (λ (x : List Bool). x ++ behind) (flat_map-append anew before (s ∷ rest))
            ∙ append_assoc (flat_map anew before) (anew s ++ flat_map anew rest) behind
            ∙ ap (λ (x : List Bool). flat_map anew before ++ x) (append_assoc (anew s) (flat_map anew rest) behind) in
            let whole = body_is ∙ split in
            let size = 2 * (end_at es n - end_before es n) in
            let front = 2 * end_before es n in
            bits_at_is first new n stamped_meets.allowed.fits stamped_meets.writable.ends lt
            ∙ sym (bits_of-middle front size body (omega (arith, r, body_long)))
            ∙ ap (λ (x : List Bool). take (8 * size) (drop (8 * front) x)) whole
            ∙ ap (take (8 * size)) (drop_at (flat_map anew before) (anew s ++ more) (8 * front) long)
            ∙ take_at (anew s) more (8 * size) (omega (arith, size_here))
