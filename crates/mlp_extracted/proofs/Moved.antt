-- Segments that stand in two texts.
use Rattle.std.proofs.Common.{◌≡◌, ℕ, zero, suc, ◌+◌, ◌≤◌, ◌<◌, Bool, List, [], ◌∷◌, ◌++◌, length, subst₂, arith}
use Rattle.std.proofs.lemmas.List.{length-append}
use Rattle.mlp_layout.specs.Tails.{Whole, FoundWhole}
use Rattle.mlp_layout.specs.Contents.{FoundIn, Portion, bits_in, segments, segment_first, no_segments}

-- what stands in one stands in the other, where the same text is spelled by the same bits
module _ {S : Type 0} (p q : List S → Portion S) (here there : List Bool) (most : ℕ)
    (same : (before : List S) → length before < most → ((p before).text ≡ (q before).text) × (bits_in (p before) here ≡ bits_in (q before) there)) where
  pub moved : (n : ℕ) (before ss : List S) → length before + n ≤ most → FoundIn (segments p n before) here ss → FoundIn (segments q n before) there ss
  unfolding segments segment_first no_segments
  moved zero before ss le f = record { fits = f.fits; meets = tt }
  moved (suc n) before [] le f = absurd f.fits
  moved (suc n) before (s ∷ ss) le f =
      let e = same before (omega (arith, le)) in
      let one : FoundWhole (q before).text (bits_in (q before) there) s =
      subst₂ (λ (w : Whole S) (t : List Bool). FoundWhole w t s) e.0 e.1 (record { fits = f.fits.0.0; meets = f.meets.0; text_is = f.fits.0.1 }) in
      let later = moved n (before ++ s ∷ []) ss (omega (arith, le, length-append before (s ∷ []))) (record { fits = f.fits.1; meets = f.meets.1 }) in
      record { fits = ((one.fits, one.text_is), later.fits); meets = (one.meets, later.meets) }
