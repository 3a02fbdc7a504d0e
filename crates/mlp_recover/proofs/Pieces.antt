-- Pieces of bytes: one more at their end, and that there is one list of them.
use Rattle.std.proofs.Common.{◌≡◌, ℕ, ◌<◌, ◌≤◌, ◌&&◌, Bool, true, false, List, [], ◌∷◌, ◌++◌, length, inl, inr, refl, sym, subst, ◌∙◌, arith}
use Rattle.std.specs.Prelude.{All}
use Rattle.std.proofs.lemmas.Bool.{cases_lt}
use Rattle.std.proofs.lemmas.List.Elements.{All-head, All-tail}
use Rattle.mlp_contents.specs.Units.{Unit_of}
use Rattle.mlp_recover.specs.Interval.{Interval, NoneAt}
use Rattle.mlp_recover.specs.Recovered.{Piece, Lost, Kept, first_of, past_of, is_lost, Tile, Apart, IsRight, AreRecovered}
use Rattle.mlp_recover.specs.Reading.{EndsKept}
use Rattle.mlp_recover.proofs.Intervals.{one_interval}

-- ---- one more piece

pub tile_more : (from : ℕ) (ps : List Piece) (to : ℕ) (p : Piece) → Tile from ps to → first_of p ≡ to → to < past_of p → Tile from (ps ++ p ∷ []) (past_of p)
tile_more from [] to p t e lt = (e ∙ sym t, omega (arith, t, lt), refl)
tile_more from (q ∷ ps) to p t e lt = (t.0, t.1, tile_more (past_of q) ps to p t.2 e lt)

kept_lost : (a b : Bool) → a ≡ false → (a && b) ≡ false
kept_lost true b e = absurd cc
kept_lost false b e = refl

lost_kept : (a b : Bool) → b ≡ false → (a && b) ≡ false
lost_kept true b e = e
lost_kept false b e = refl

-- .. behind a kept one
pub apart_behind : (ps : List Piece) (p : Piece) → Apart ps → EndsKept ps → Apart (ps ++ p ∷ [])
apart_behind [] p a e = tt
apart_behind (q ∷ []) p a e = (kept_lost (is_lost q) (is_lost p) e, tt)
apart_behind (q ∷ r ∷ ps) p a e = (a.0, apart_behind (r ∷ ps) p a.1 e)

-- .. that is kept
pub apart_kept : (ps : List Piece) (p : Piece) → Apart ps → is_lost p ≡ false → Apart (ps ++ p ∷ [])
apart_kept [] p a e = tt
apart_kept (q ∷ []) p a e = (lost_kept (is_lost q) (is_lost p) e, tt)
apart_kept (q ∷ r ∷ ps) p a e = (a.0, apart_kept (r ∷ ps) p a.1 e)

pub ends_kept : (ps : List Piece) (p : Piece) → is_lost p ≡ false → EndsKept (ps ++ p ∷ [])
ends_kept [] p e = e
ends_kept (q ∷ []) p e = e
ends_kept (q ∷ r ∷ ps) p e = ends_kept (r ∷ ps) p e

-- ---- there is one list of pieces

pub tile_within : (from : ℕ) (ps : List Piece) (to : ℕ) → Tile from ps to → from ≤ to
tile_within from [] to t = omega (arith, t)
tile_within from (p ∷ ps) to t = let later = tile_within (past_of p) ps to t.2 in omega (arith, t.1, later)

module _ (k : ℕ) (bytes : List ℕ) where
  record Laid (from : ℕ) (ps : List Piece) (to : ℕ) : Type 0 where
    tile : Tile from ps to
    right : All (IsRight k bytes) ps
    apart : Apart ps

  rest_apart : (p : Piece) (ps : List Piece) → Apart (p ∷ ps) → Apart ps
  rest_apart p [] a = tt
  rest_apart p (q ∷ ps) a = a.1

  rest_laid : (from to : ℕ) (p : Piece) (ps : List Piece) → Laid from (p ∷ ps) to → Laid (past_of p) ps to
  rest_laid from to p ps l = record { tile = l.tile.2; right = All-tail (IsRight k bytes) p ps l.right; apart = rest_apart p ps l.apart }

  head_right : (from to : ℕ) (p : Piece) (ps : List Piece) → Laid from (p ∷ ps) to → IsRight k bytes p
  head_right from to p ps l = All-head (IsRight k bytes) p ps l.right

  -- behind a lost piece that ends before the last byte an interval begins
  kept_next : (from to first past : ℕ) (ps : List Piece) → Laid from (Lost first past ∷ ps) to → past < to → NoneAt k bytes past → ⊥
  kept_next from to first past [] l lt none = omega (arith, l.tile.2, lt)
  kept_next from to first past (Lost f p ∷ ps) l lt none = let both = l.apart.0 in cc
  kept_next from to first past (Kept f p us ∷ ps) l lt none =
      let i : Interval k bytes f p us = head_right past to (Kept f p us) ps (rest_laid from to (Lost first past) (Kept f p us ∷ ps) l) in
      none p us (subst (λ (n : ℕ). Interval k bytes n p us) l.tile.2.0 i)

  -- of two lost pieces with the same first byte neither ends before the other
  lost_within : (from to f p g q : ℕ) (ps qs : List Piece) → Laid from (Lost f p ∷ ps) to → Laid from (Lost g q ∷ qs) to → p < q → ⊥
  lost_within from to f p g q ps qs l m lt =
      let le = tile_within q qs to m.tile.2 in
      kept_next from to f p ps l (omega (arith, lt, le)) (head_right from to (Lost g q) qs m p (omega (arith, m.tile.0, l.tile.1)) lt)

  same_lost : (from to f p g q : ℕ) (ps qs : List Piece) → Laid from (Lost f p ∷ ps) to → Laid from (Lost g q ∷ qs) to → p ≡ q
  same_lost from to f p g q ps qs l m = elim (cases_lt p q) [
    | inl less ↦ absurd (lost_within from to f p g q ps qs l m less)
    | inr more ↦ elim (cases_lt q p) [
      | inl less ↦ absurd (lost_within from to g q f p qs ps m l less)
      | inr most ↦ omega arith
    ]
  ]

  lost_or_kept : (from to f p g q : ℕ) (us : List Unit_of) (ps qs : List Piece) → Laid from (Lost f p ∷ ps) to → Laid from (Kept g q us ∷ qs) to → ⊥
  lost_or_kept from to f p g q us ps qs l m =
      let i : Interval k bytes g q us = head_right from to (Kept g q us) qs m in
      head_right from to (Lost f p) ps l g (omega (arith, l.tile.0, m.tile.0)) (omega (arith, l.tile.1, m.tile.0)) q us i

  same_pieces : (from to : ℕ) (ps qs : List Piece) → Laid from ps to → Laid from qs to → ps ≡ qs
  same_pieces from to [] [] l m = refl
  same_pieces from to [] (q ∷ qs) l m = absurd (let le = tile_within (past_of q) qs to m.tile.2 in omega (arith, l.tile, m.tile.1, le))
  same_pieces from to (p ∷ ps) [] l m = absurd (let le = tile_within (past_of p) ps to l.tile.2 in omega (arith, m.tile, l.tile.1, le))
  same_pieces from to (Lost f p ∷ ps) (Kept g q us ∷ qs) l m = absurd (lost_or_kept from to f p g q us ps qs l m)
  same_pieces from to (Kept f p us ∷ ps) (Lost g q ∷ qs) l m = absurd (lost_or_kept from to g q f p us qs ps m l)
  same_pieces from to (Lost f p ∷ ps) (Lost g q ∷ qs) l m =
      let first : f ≡ g = l.tile.0 ∙ sym m.tile.0 in
      let past = same_lost from to f p g q ps qs l m in
      let later = same_pieces p to ps qs (rest_laid from to (Lost f p) ps l) (subst (λ (n : ℕ). Laid n qs to) (sym past) (rest_laid from to (Lost g q) qs m)) in
      cc
  same_pieces from to (Kept f p us ∷ ps) (Kept g q vs ∷ qs) l m =
      let first : f ≡ g = l.tile.0 ∙ sym m.tile.0 in
      let i : Interval k bytes f p us = head_right from to (Kept f p us) ps l in
      let j : Interval k bytes f q vs = subst (λ (n : ℕ). Interval k bytes n q vs) (sym first) (head_right from to (Kept g q vs) qs m) in
      let one = one_interval k bytes f p q us vs i j in
      let past : p ≡ q = one.0 in
      let units : us ≡ vs = one.1 in
      let later = same_pieces p to ps qs (rest_laid from to (Kept f p us) ps l) (subst (λ (n : ℕ). Laid n qs to) (sym past) (rest_laid from to (Kept g q vs) qs m)) in
      cc

  pub one_recovery : (ps qs : List Piece) → AreRecovered k bytes ps → AreRecovered k bytes qs → ps ≡ qs
  one_recovery ps qs a b =
      same_pieces 0 (length bytes) ps qs
      (record { tile = a.tile; right = a.right; apart = a.apart }) (record { tile = b.tile; right = b.right; apart = b.apart })
