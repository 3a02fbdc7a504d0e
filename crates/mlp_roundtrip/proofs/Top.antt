-- The top presentation has all channels, and shows the frames themselves.
use Rattle.std.proofs.Common.{◌≡◌, ℕ, zero, suc, ◌+◌, ◌-◌, ◌*◌, ◌<◌, min, true, List, [], ◌∷◌, ◌++◌, length, map, drop, Option, None, Some, Ok, ◌⊎◌, inl, inr, refl, sym, ap, subst, ◌∙◌, arith}
use Rattle.std.proofs.lemmas.Bool.Decides.{nat_tests}
use Rattle.mlp_syntax.specs.declared.major.Kind.{Kind}
use Rattle.mlp_syntax.specs.declared.major.Kind.TheVariants.{Fbb, Fba}
use Rattle.mlp_syntax.specs.declared.restart.Restart.{Restart}
use Rattle.mlp_syntax.specs.declared.segment.BlockHead.{BlockHead}
use Rattle.mlp_pcm.specs.Samples.{pieces, row_in}
use Rattle.mlp_contents.specs.Known.{first_restart}
use Rattle.mlp_contents.specs.Units.{Unit_of, start, top_of as top_segment}
use Rattle.mlp_decoded.specs.Decoded.{channels_in, channels}
use Rattle.mlp_sessions.specs.Playing.{places}
use Rattle.mlp_samples.specs.Samples.{blocks_in}
use Rattle.mlp_fold.specs.declared.profile.Profile.{Profile}
use Rattle.mlp_fold.specs.Profile.{checked, has_channels, AreMixed}
use Rattle.mlp_fold.specs.Mix.{channels_of, shown, presented_of}
use Rattle.mlp_fold.specs.Substreams.{substreams_of}
use Rattle.mlp_fold.proofs.ByStep.{channels_top}
use Rattle.mlp_fold.proofs.Undone.{top_shown}
use Rattle.mlp_encode.specs.Numbers.{low_zeros}
use Rattle.mlp_encode.specs.Sync.{restart_of}
use Rattle.mlp_encode.specs.Unit.{output_timing}
use Rattle.mlp_encode.proofs.SyncAllowed.{passes}
use Rattle.mlp_encode.proofs.SentStarts.{mixed_there}
use Rattle.mlp_encoding.specs.Pcm.{sample_size, frames_in}
use Rattle.mlp_lossless.specs.Chosen.{AreChosen}
use Rattle.mlp_roundtrip.specs.Kept.{top_of}

-- ---- a frame has zeros behind its channels

shown_two : (width : ℕ) (bytes : List ℕ) → shown 2 (row_in width 2 bytes) ≡ row_in width 2 bytes
unfolding pieces
shown_two width bytes = refl

shown_six : (width : ℕ) (bytes : List ℕ) → shown 6 (row_in width 6 bytes) ≡ row_in width 6 bytes
unfolding pieces
shown_six width bytes = refl

shown_eight : (width : ℕ) (bytes : List ℕ) → shown 8 (row_in width 8 bytes) ≡ row_in width 8 bytes
unfolding pieces
shown_eight width bytes = refl

three_counts : (kind : Kind) (n : ℕ) → has_channels kind n ≡ true → (n ≡ 2) ⊎ ((n ≡ 6) ⊎ (n ≡ 8))
three_counts Fbb n h = grind (arith, nat_tests)
three_counts Fba n h = grind (arith, nat_tests)

shown_whole : (width n : ℕ) (bytes : List ℕ) → (n ≡ 2) ⊎ ((n ≡ 6) ⊎ (n ≡ 8)) → shown n (row_in width n bytes) ≡ row_in width n bytes
shown_whole width n bytes (inl e) = subst (λ (m : ℕ). shown m (row_in width m bytes) ≡ row_in width m bytes) (sym e) (shown_two width bytes)
shown_whole width n bytes (inr (inl e)) = subst (λ (m : ℕ). shown m (row_in width m bytes) ≡ row_in width m bytes) (sym e) (shown_six width bytes)
shown_whole width n bytes (inr (inr e)) = subst (λ (m : ℕ). shown m (row_in width m bytes) ≡ row_in width m bytes) (sym e) (shown_eight width bytes)

all_stay : {A : Type 0} (f : A → A) (value : List ℕ → A) (size n : ℕ) (bytes : List ℕ) → ((bs : List ℕ) → f (value bs) ≡ value bs) → map f (pieces value size n bytes) ≡ pieces value size n bytes
unfolding pieces
all_stay f value size zero bytes same = refl
all_stay {A = A} f value size (suc n) bytes same =
    ap (λ (x : A). x ∷ map f (pieces value size n (drop size bytes))) (same bytes) ∙ ap (λ (xs : List A). value bytes ∷ xs) (all_stay f value size n (drop size bytes) same)

-- ---- the first block of a stream restarts all channels

abbrev restart_first : List (ℕ × Option Restart) → Option Restart
restart_first [] = None
restart_first (x ∷ xs) = x.1

first_there : (blocks more : List BlockHead) (n : ℕ) (r : Restart) (xs : List (ℕ × Option Restart)) → map (λ (h : BlockHead). (h.frames, h.restart)) blocks ≡ (n, Some r) ∷ xs
    → first_restart (blocks ++ more) ≡ Some r
first_there [] more n r xs e = absurd cc
first_there (h ∷ hs) more n r xs e = ap restart_first e

module _ (p : Profile) (ok : checked p ≡ Ok tt) where
  abbrev top : ℕ
  top = top_of p

  mixed : AreMixed p.mix p.depth p.channels
  mixed = mixed_there p (passes p ok)

  counts : (p.channels ≡ 2) ⊎ ((p.channels ≡ 6) ⊎ (p.channels ≡ 8))
  counts = three_counts p.kind p.channels (passes p ok).channels

  all_there : channels_of top ≡ p.channels
  all_there = channels_top p.kind p.channels (passes p ok).channels

  pub top_exists : top < substreams_of p.channels
  top_exists = elim counts [
    | inl e ↦ subst (λ (n : ℕ). substreams_of n - 1 < substreams_of n) (sym e) (omega arith)
    | inr (inl e) ↦ subst (λ (n : ℕ). substreams_of n - 1 < substreams_of n) (sym e) (omega arith)
    | inr (inr e) ↦ subst (λ (n : ℕ). substreams_of n - 1 < substreams_of n) (sym e) (omega arith)
  ]

  pub top_frames : (pcm : List ℕ) → map (presented_of p.mix (low_zeros p.depth) p.channels top) (frames_in p pcm) ≡ frames_in p pcm
  top_frames pcm =
      all_stay (presented_of p.mix (low_zeros p.depth) p.channels top) (row_in (sample_size p.depth) p.channels) (p.channels * sample_size p.depth) _ pcm
      (λ bytes. top_shown p.mix p.depth p.channels top _ mixed all_there ∙ shown_whole (sample_size p.depth) p.channels bytes counts)

  pub top_channels : (us : List Unit_of) → AreChosen p top 0 (start top) us → 0 < length us → channels top us ≡ p.channels
  unfolding AreChosen
  top_channels [] are some = absurd (omega (arith, some))
  top_channels (u ∷ us) are some =
      let segment = are.0.segments top (omega arith) in
      let r = restart_of top (output_timing p 0) segment.check in
      let first : first_restart (blocks_in top (u ∷ us)) ≡ Some r = first_there (top_segment top u.contents).blocks.items (blocks_in top us) _ r _ segment.heads in
      ap (λ (o : Option Restart). places (channels_in o)) first ∙ whole_count (channels_of top) all_there
    where
      whole_count : (n : ℕ) → n ≡ p.channels → min (n - 1 + 1) 8 ≡ p.channels
      whole_count n e = elim counts [
        | inl c ↦ omega (arith, c, e)
        | inr (inl c) ↦ omega (arith, c, e)
        | inr (inr c) ↦ omega (arith, c, e)
      ]
