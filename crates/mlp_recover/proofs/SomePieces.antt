-- Any bytes have pieces: at each byte an interval begins or none does.
use Rattle.std.proofs.Common.{◌≡◌, ◌≢◌, ℕ, zero, suc, ◌+◌, ◌<◌, ◌≤◌, Bool, true, false, List, [], ◌∷◌, ◌++◌, length, drop, Result, Ok, Err, Some, ◌⊎◌, inl, inr, refl, sym, subst, ◌∙◌, arith, length-drop}
use Rattle.std.specs.Prelude.{is_some, All}
use Rattle.std.proofs.lemmas.Bool.{cases_lt}
use Rattle.std.proofs.lemmas.List.{drop-drop}
use Rattle.std.proofs.lemmas.List.Elements.{All-nil, All-cons, All-head, All-tail}
use Rattle.mlp_syntax.specs.declared.segment.Segment.{Segment}
use Rattle.mlp_unit.specs.AccessUnit.{AccessUnit}
use Rattle.mlp_walk.specs.declared.refusal.Refusal.{Refusal}
use Rattle.mlp_walk.specs.Meaning.{HasTaken}
use Rattle.mlp_walk.specs.Next.{Taken as TakenUnit, next_of}
use Rattle.mlp_walk.proofs.NextLaws.{from_unit, unit_within}
use Rattle.mlp_walk.proofs.WalkLaws.{taken_none, takes_one}
use Rattle.mlp_contents.specs.Units.{Unit_of, start, whole}
use Rattle.mlp_contents.proofs.FormatLaws.{whole_is, whole_bytes}
use Rattle.mlp_recover.specs.Interval.{GoesOn, HasNoSync, Interval, NoneAt}
use Rattle.mlp_samples.specs.Behind.{left_behind}
use Rattle.mlp_recover.specs.Recovered.{Piece, Lost, Kept, Tile, Apart, IsRight, AreRecovered}
use Rattle.mlp_recover.proofs.Intervals.{Taken, taken_stream, refused_at}
use Rattle.mlp_recover.proofs.Steps.{alone_more, one_more, none_of}

module _ (k : ℕ) (bytes : List ℕ) where
  -- ---- an interval begins at a byte, or none

  module _ (first : ℕ) where
    abbrev Found : Type 0
    Found = ((past : ℕ) × (us : List Unit_of) × Interval k bytes first past us) ⊎ NoneAt k bytes first

    -- units that were read from there on, and that don't end yet
    record Grows (past : ℕ) (us : List Unit_of) : Type 0 where
      taken : Taken k bytes first us past
      alone : All HasNoSync (drop 1 us)
      from : first ≤ past
      some : us ≢ [] → first < past
      more : past < length bytes
      going : us ≢ [] → (left_behind k us).ended ≡ false

    ends_as : (past : ℕ) (us : List Unit_of) → first < past → past ≤ length bytes → us ≢ [] → Taken k bytes first us past → All HasNoSync (drop 1 us)
        → (past ≡ length bytes) ⊎ (((left_behind k us).ended ≡ true) ⊎ GoesOn k us (drop past bytes)) → Found
    ends_as past us lt le some taken alone ends = inl (past, us, record { some = lt; within = le; stream = taken_stream k bytes first past us lt le some taken; alone = alone; ends = ends })

    module _ (past : ℕ) (us : List Unit_of) (g : Grows past us) (t : TakenUnit AccessUnit (List Segment)) (e : next_of (whole k) (Some k) (length us) (left_behind k us) (drop past bytes) ≡ Ok t) where
      abbrev more : List Unit_of
      more = us ++ t.unit ∷ []

      taken_more : Taken k bytes first more (past + t.size)
      taken_more =
          subst (HasTaken (whole k) (start k) (Some k) (drop first bytes) more) (drop-drop t.size past bytes)
          (takes_one (whole k) (whole_is k) (start k) (whole_bytes k) (Some k) (drop first bytes) us (drop past bytes) t g.taken e)

      inside : (0 < t.size) × (past + t.size ≤ length bytes)
      inside =
          let w = unit_within (whole k) (whole_is k) (whole_bytes k) (Some k) (length us) (left_behind k us) (drop past bytes) t e in
          (w.0, omega (arith, w.1, length-drop past bytes, g.more))

      by_end : ((n : ℕ) (vs : List Unit_of) → Grows n vs → past < n → Found) → All HasNoSync (drop 1 more) → past + t.size < length bytes → (b : Bool) → (left_behind k more).ended ≡ b → Found
      by_end later alone lt true ended =
          ends_as (past + t.size) more (omega (arith, g.from, inside.0)) inside.1 (one_more us t.unit) taken_more alone (inr (inl ended))
      by_end later alone lt false going =
          later (past + t.size) more (record {
            taken = taken_more;
            alone = alone;
            from = omega (arith, g.from);
            some = λ some. omega (arith, g.from, inside.0);
            more = lt;
            going = λ some. going;
          }) (omega (arith, inside.0))

      belongs : ((n : ℕ) (vs : List Unit_of) → Grows n vs → past < n → Found) → (us ≢ [] → HasNoSync t.unit) → Found
      belongs later free =
          let alone = alone_more us t.unit g.alone free in
          elim (cases_lt (past + t.size) (length bytes)) [
            | inl lt ↦ by_end later alone lt (left_behind k more).ended refl
            | inr ge ↦ ends_as (past + t.size) more (omega (arith, g.from, inside.0)) inside.1 (one_more us t.unit) taken_more alone (inl (omega (arith, ge, inside.1)))
          ]

      by_major : ((n : ℕ) (vs : List Unit_of) → Grows n vs → past < n → Found) → us ≢ [] → (b : Bool) → is_some t.unit.outer.major ≡ b → Found
      by_major later some true major =
          let next = from_unit (whole k) (whole_is k) (whole_bytes k) (Some k) (length us) (left_behind k us) (drop past bytes) t e in
          ends_as past us (g.some some) (omega (arith, g.more)) some g.taken g.alone (inr (inr (record { unit = t.unit; next = next.next; major = major })))
      by_major later some false none = belongs later (λ s. none_of t.unit.outer.major none)

      by_units : ((n : ℕ) (vs : List Unit_of) → Grows n vs → past < n → Found) → (vs : List Unit_of) → us ≡ vs → Found
      by_units later [] none = belongs later (λ some. absurd (some none))
      by_units later (v ∷ vs) same = by_major later (λ none. let both = sym same ∙ none in cc) (is_some t.unit.outer.major) refl

    by_next : (past : ℕ) (us : List Unit_of) → Grows past us → ((n : ℕ) (vs : List Unit_of) → Grows n vs → past < n → Found)
        → (r : Result (TakenUnit AccessUnit (List Segment)) Refusal) → next_of (whole k) (Some k) (length us) (left_behind k us) (drop past bytes) ≡ r → Found
    by_next past us g later (Ok t) e = by_units past us g t e later us refl
    by_next past us g later (Err r) e = inr (refused_at k bytes first past us r g.taken g.alone g.more g.going e)

    find : (fuel past : ℕ) (us : List Unit_of) → length bytes ≤ past + fuel → Grows past us → Found
    find zero past us enough g = absurd (omega (arith, g.more, enough))
    find (suc fuel) past us enough g =
        by_next past us g (λ n vs h lt. find fuel n vs (omega arith) h) (next_of (whole k) (Some k) (length us) (left_behind k us) (drop past bytes)) refl

    found : first < length bytes → Found
    found lt = find (length bytes) first [] (omega arith) (record {
      taken = taken_none (whole k) (whole_is k) (start k) (Some k) (drop first bytes);
      alone = All-nil HasNoSync;
      from = omega arith;
      some = λ some. absurd (some refl);
      more = lt;
      going = λ some. absurd (some refl);
    })

  -- ---- pieces from a byte on

  record Laid (from : ℕ) (ps : List Piece) : Type 0 where
    tile : Tile from ps (length bytes)
    right : All (IsRight k bytes) ps
    apart : Apart ps

  Pieces : ℕ → Type 0
  Pieces from = (ps : List Piece) × Laid from ps

  keeps_on : (first past : ℕ) (us : List Unit_of) → Interval k bytes first past us → (ps : List Piece) → Laid past ps → Laid first (Kept first past us ∷ ps)
  keeps_on first past us i [] l = record { tile = (refl, i.some, l.tile); right = All-cons (IsRight k bytes) (Kept first past us) [] i l.right; apart = tt }
  keeps_on first past us i (p ∷ ps) l = record { tile = (refl, i.some, l.tile); right = All-cons (IsRight k bytes) (Kept first past us) (p ∷ ps) i l.right; apart = (refl, l.apart) }

  one_byte : (from : ℕ) → NoneAt k bytes from → IsRight k bytes (Lost from (from + 1))
  one_byte from none place low high = let same : from ≡ place = omega arith in subst (NoneAt k bytes) same none

  joined : (from f p : ℕ) → f ≡ from + 1 → NoneAt k bytes from → IsRight k bytes (Lost f p) → IsRight k bytes (Lost from p)
  joined from f p e none right place low high = elim (cases_lt from place) [
    | inl lt ↦ right place (omega arith) high
    | inr ge ↦ (let same : from ≡ place = omega arith in subst (NoneAt k bytes) same none)
  ]

  same_apart : (f p g : ℕ) (ps : List Piece) → Apart (Lost f p ∷ ps) → Apart (Lost g p ∷ ps)
  same_apart f p g [] a = tt
  same_apart f p g (q ∷ ps) a = a

  -- one more lost byte before them
  loses_one : (from : ℕ) → NoneAt k bytes from → (ps : List Piece) → Laid (from + 1) ps → Pieces from
  unfolding Pieces
  loses_one from none [] l = (
    Lost from (from + 1) ∷ [],
    record {
      tile = (refl, omega arith, l.tile);
      right = All-cons (IsRight k bytes) (Lost from (from + 1)) [] (one_byte from none) l.right;
      apart = tt;
    },
  )
  loses_one from none (Lost f p ∷ ps) l =
      let right = joined from f p l.tile.0 none (All-head (IsRight k bytes) (Lost f p) ps l.right) in (
        Lost from p ∷ ps,
        record {
          tile = (refl, omega (arith, l.tile.1), l.tile.2);
          right = All-cons (IsRight k bytes) (Lost from p) ps right (All-tail (IsRight k bytes) (Lost f p) ps l.right);
          apart = same_apart f p from ps l.apart;
        },
      )
  loses_one from none (Kept f p us ∷ ps) l = (
    Lost from (from + 1) ∷ Kept f p us ∷ ps,
    record {
      tile = (refl, omega arith, l.tile);
      right = All-cons (IsRight k bytes) (Lost from (from + 1)) (Kept f p us ∷ ps) (one_byte from none) l.right;
      apart = (refl, l.apart);
    },
  )

  by_found : (from : ℕ) → ((n : ℕ) → from < n → n ≤ length bytes → Pieces n) → from < length bytes → Found from → Pieces from
  unfolding Pieces
  by_found from later lt (inl i) = let rest = later i.0 i.2.some i.2.within in (Kept from i.0 i.1 ∷ rest.0, keeps_on from i.0 i.1 i.2 rest.0 rest.1)
  by_found from later lt (inr none) = let rest = later (from + 1) (omega arith) (omega (arith, lt)) in loses_one from none rest.0 rest.1

  pieces_from : (fuel from : ℕ) → length bytes ≤ from + fuel → from ≤ length bytes → Pieces from
  unfolding Pieces
  pieces_from zero from enough le = ([], record { tile = omega arith; right = All-nil (IsRight k bytes); apart = tt })
  pieces_from (suc fuel) from enough le = elim (cases_lt from (length bytes)) [
    | inl lt ↦ by_found from (λ n more within. pieces_from fuel n (omega arith) within) lt (found from lt)
    | inr ge ↦ ([], record { tile = omega arith; right = All-nil (IsRight k bytes); apart = tt })
  ]

  pub some_recovery : (ps : List Piece) × AreRecovered k bytes ps
  unfolding Pieces
  some_recovery =
      let p = pieces_from (length bytes) 0 (omega arith) (omega arith) in
      (p.0, record { tile = p.1.tile; right = p.1.right; apart = p.1.apart })
