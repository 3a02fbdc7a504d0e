-- From interval to interval through all bytes.
use Rattle.std.proofs.Common.{◌≡◌, ℕ, ◌+◌, ◌<◌, ◌≤◌, cond, Bool, List, [], ◌∷◌, ◌++◌, length, inl, inr, refl, sym, ap, subst, ◌∙◌, arith}
use Rattle.std.specs.Prelude.{All, map}
use Rattle.std.proofs.lemmas.Bool.{cases_lt, lt-ltb, le-ltb}
use Rattle.std.proofs.lemmas.List.{append-nil, map-append}
use Rattle.std.proofs.lemmas.List.Elements.{All-push}
use Rattle.mlp_recover.specs.declared.span.Span.{Span}
use Rattle.mlp_recover.specs.Interval.{NoneAt}
use Rattle.mlp_recover.specs.Recovered.{Piece, Lost, Kept, Tile, Apart, IsRight}
use Rattle.mlp_recover.specs.Spans.{span_of, HasFewFrames, AreSpans}
use Rattle.mlp_recover.specs.Sync.{NoSyncIn}
use Rattle.mlp_recover.specs.Reading.{IsKeptFrom, lost_between, EndsKept}
use Rattle.mlp_recover.proofs.Pieces.{tile_more, apart_behind, apart_kept, ends_kept}
use Rattle.mlp_recover.proofs.Syncs.{none_without_sync}

-- these spans are those of the bytes up to `told`, of which the last is kept, and between there and `at` no interval begins
pub record IsFound (k : ℕ) (bytes : List ℕ) (told at : ℕ) (spans : List Span) : Type 0 where
  pub pieces : List Piece
  pub tile : Tile 0 pieces told
  pub right : All (IsRight k bytes) pieces
  pub apart : Apart pieces
  pub last : EndsKept pieces
  pub spans_are : spans ≡ map (span_of k) pieces
  pub few : All HasFewFrames spans
  pub none : (place : ℕ) → told ≤ place → place < at → NoneAt k bytes place
  pub order : told ≤ at
  pub within : at ≤ length bytes

module _ (k : ℕ) (bytes : List ℕ) where
  -- nothing begins up to a place before which no sync stands
  none_up_to : (told at to : ℕ) → ((place : ℕ) → told ≤ place → place < at → NoneAt k bytes place) → NoSyncIn bytes at to → (place : ℕ) → told ≤ place → place < to → NoneAt k bytes place
  none_up_to told at to none free place low high = elim (cases_lt place at) [
    | inl lt ↦ none place low lt
    | inr ge ↦ none_without_sync k bytes place (free place ge high)
  ]

  -- pieces of the bytes up to a place
  record Laid (to : ℕ) (spans : List Span) : Type 0 where
    pieces : List Piece
    tile : Tile 0 pieces to
    right : All (IsRight k bytes) pieces
    apart : Apart pieces
    spans_are : spans ≡ map (span_of k) pieces
    few : All HasFewFrames spans

  more_spans : (spans : List Span) (ps : List Piece) (p : Piece) → spans ≡ map (span_of k) ps → spans ++ span_of k p ∷ [] ≡ map (span_of k) (ps ++ p ∷ [])
  more_spans spans ps p e = ap (λ (xs : List Span). xs ++ span_of k p ∷ []) e ∙ sym (map-append (span_of k) ps (p ∷ []))

  with_lost : (told at to : ℕ) (spans : List Span) → IsFound k bytes told at spans → told ≤ to → ((place : ℕ) → told ≤ place → place < to → NoneAt k bytes place) → Laid to (spans ++ lost_between told to)
  with_lost told at to spans f le none = elim (cases_lt told to) [
    | inl lt ↦ (let lost = Lost told to in record {
      pieces = f.pieces ++ lost ∷ [];
      tile = tile_more 0 f.pieces told lost f.tile refl lt;
      right = All-push (IsRight k bytes) f.pieces lost f.right none;
      apart = apart_behind f.pieces lost f.apart f.last;
      spans_are = ap (λ (b : Bool). spans ++ cond b (span_of 0 lost ∷ []) []) (lt-ltb told to lt) ∙ more_spans spans f.pieces lost f.spans_are;
      few = subst (λ (b : Bool). All HasFewFrames (spans ++ cond b (span_of 0 lost ∷ []) [])) (sym (lt-ltb told to lt)) (All-push HasFewFrames spans (span_of 0 lost) f.few (omega arith));
    })
    | inr ge ↦ (let same : told ≡ to = omega arith in record {
      pieces = f.pieces;
      tile = subst (Tile 0 f.pieces) same f.tile;
      right = f.right;
      apart = f.apart;
      spans_are = ap (λ (b : Bool). spans ++ cond b (span_of 0 (Lost told to) ∷ []) []) (le-ltb told to ge) ∙ append-nil spans ∙ f.spans_are;
      few = subst (All HasFewFrames) (sym (ap (λ (b : Bool). spans ++ cond b (span_of 0 (Lost told to) ∷ []) []) (le-ltb told to ge) ∙ append-nil spans)) f.few;
    })
  ]

  -- no interval begins at the next sync
  pub found_lost : (told at first : ℕ) (spans : List Span) → IsFound k bytes told at spans → at ≤ first → first < length bytes → NoSyncIn bytes at first → NoneAt k bytes first → IsFound k bytes told (first + 1) spans
  found_lost told at first spans f le lt free none = record {
    pieces = f.pieces;
    tile = f.tile;
    right = f.right;
    apart = f.apart;
    last = f.last;
    spans_are = f.spans_are;
    few = f.few;
    none = λ place low high. elim (cases_lt place first) [
      | inl less ↦ none_up_to told at first f.none free place low less
      | inr ge ↦ (let same : first ≡ place = omega arith in subst (NoneAt k bytes) same none)
    ];
    order = omega (arith, f.order);
    within = omega arith;
  }

  -- one does
  pub found_kept : (told at first : ℕ) (spans : List Span) (span : Span) → IsFound k bytes told at spans → at ≤ first → NoSyncIn bytes at first → IsKeptFrom k bytes first span
      → IsFound k bytes span.past span.past ((spans ++ lost_between told span.first) ++ span ∷ [])
  found_kept told at first spans span f le free (past, us, i, e, few) =
      let kept = Kept first past us in
      let laid = with_lost told at first spans f (omega (arith, f.order, le)) (none_up_to told at first f.none free) in
      let of_span : (spans ++ lost_between told span.first) ++ span ∷ [] ≡ (spans ++ lost_between told first) ++ span_of k kept ∷ [] =
      ap (λ (s : Span). (spans ++ lost_between told s.first) ++ s ∷ []) e in
      let at_past : IsFound k bytes past past ((spans ++ lost_between told span.first) ++ span ∷ []) = record {
        pieces = laid.pieces ++ kept ∷ [];
        tile = tile_more 0 laid.pieces first kept laid.tile refl i.some;
        right = All-push (IsRight k bytes) laid.pieces kept laid.right i;
        apart = apart_kept laid.pieces kept laid.apart refl;
        last = ends_kept laid.pieces kept refl;
        spans_are = of_span ∙ more_spans (spans ++ lost_between told first) laid.pieces kept laid.spans_are;
        few = All-push HasFewFrames (spans ++ lost_between told span.first) span (subst (λ (n : ℕ). All HasFewFrames (spans ++ lost_between told n)) (sym (ap (λ (s : Span). s.first) e)) laid.few) few;
        none = λ place low high. absurd (omega arith);
        order = omega arith;
        within = i.within;
      } in
      subst (λ (n : ℕ). IsFound k bytes n n ((spans ++ lost_between told span.first) ++ span ∷ [])) (sym (ap (λ (s : Span). s.past) e)) at_past

  -- no sync is left
  pub found_all : (told at : ℕ) (spans : List Span) → IsFound k bytes told at spans → NoSyncIn bytes at (length bytes)
      → AreSpans k bytes (spans ++ lost_between told (length bytes)) × All HasFewFrames (spans ++ lost_between told (length bytes))
  found_all told at spans f free =
      let laid = with_lost told at (length bytes) spans f (omega (arith, f.order, f.within)) (none_up_to told at (length bytes) f.none free) in
      (record { pieces = laid.pieces; recovered = record { tile = laid.tile; right = laid.right; apart = laid.apart }; spans_are = laid.spans_are }, laid.few)
