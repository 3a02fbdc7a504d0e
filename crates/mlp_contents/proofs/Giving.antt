-- The frames that a unit gives.
use Rattle.std.proofs.Common.{◌≡◌, ℕ, ◌+◌, ◌-◌, ◌<◌, ◌≤◌, ◌^◌, cond, List, [], length, take, get_or, map, Some, ap, ◌∙◌, arith, ℤ}
use Rattle.mlp_syntax.specs.declared.segment.FrameCode.{FrameCode}
use Rattle.mlp_syntax.specs.declared.segment.Segment.{Segment}
use Rattle.mlp_layout.specs.Layout.{part}
use Rattle.mlp_layout.specs.Combined.{checked}
use Rattle.mlp_params.specs.declared.state.State.{State}
use Rattle.mlp_params.specs.RestartHeader.{restart}
use Rattle.mlp_params.specs.States.{IsState}
use Rattle.mlp_params.proofs.RestartRanges.{ranges}
use Rattle.mlp_params.proofs.WritingHeaders.{header_fits}
use Rattle.mlp_matrix.specs.Noise.{seed_at}
use Rattle.mlp_substream.specs.declared.known.Place.{Place}
use Rattle.mlp_output.specs.Output.{heard, placed_each, check_of, dropped}
use Rattle.mlp_contents.specs.Frames.{frames_of}
use Rattle.mlp_contents.specs.Read.{HaveMatrixed, Running, IsGiven}
use Rattle.mlp_contents.proofs.ChannelLists.{frames_are}

pub seed_small : (s : State) → IsState s → s.restart.seed < 2 ^ 23
unfolding restart checked part
seed_small s h = (header_fits s.format s.restart h.restart.fits.0).seed

pub channels_few : (s : State) → IsState s → s.restart.max_matrix ≤ 7
channels_few s h = let r = ranges s.format s.restart h.restart in omega (arith, r.same, r.at_most_7)

module _ (place : Place) (s : State) (top : Segment) (frames : List (List ℤ)) (old new : Running) (rows : List (List ℤ)) (kept seed check : ℕ) where
  abbrev n : ℕ
  n = length top.codes.items

  abbrev m : ℕ
  m = s.restart.max_matrix

  -- the samples of so many of these frames
  abbrev pub heard_at : ℕ → ℕ → List (List ℤ) → List (List ℤ)
  heard_at count first fs = take count (heard s first (map (λ f. f.bypass) top.codes.items) fs)

  -- what putting them out gives
  pub record PutOut : Type 0 where
    pub kept_is : kept ≡ length top.codes.items - dropped place.format top.terminator
    pub first_seed : seed ≡ cond place.major s.restart.seed old.seed
    pub first_check : check ≡ cond place.major 0 old.check
    pub rows_are : rows ≡ placed_each s (heard_at kept seed (map (take (s.restart.max_matrix + 1)) (take (length top.codes.items) frames)))
    pub seed_is : new.seed ≡ seed_at seed (length top.codes.items)
    pub check_is : new.check ≡ check_of check (heard_at kept seed (map (take (s.restart.max_matrix + 1)) (take (length top.codes.items) frames)))

  heard_by : List FrameCode → ℕ → List (List ℤ)
  heard_by codes count = take kept (heard s seed (map (λ f. f.bypass) codes) (map (take (s.restart.max_matrix + 1)) (take count frames)))

  -- .. of these codes, and so many frames
  pub put_out_is : (codes : List FrameCode) (count : ℕ) → codes ≡ top.codes.items → count ≡ length top.codes.items → kept ≡ length top.codes.items - dropped place.format top.terminator
      → seed ≡ cond place.major s.restart.seed old.seed → check ≡ cond place.major 0 old.check
      → rows ≡ placed_each s (take kept (heard s seed (map (λ f. f.bypass) codes) (map (take (s.restart.max_matrix + 1)) (take count frames)))) → new.seed ≡ seed_at seed (length codes)
      → new.check ≡ check_of check (take kept (heard s seed (map (λ f. f.bypass) codes) (map (take (s.restart.max_matrix + 1)) (take count frames)))) → PutOut
  unfolding heard_by
  put_out_is codes count codes_are count_is kept_is first_seed first_check rows_are seed_is check_is =
      let same : heard_by codes count ≡ heard_by top.codes.items (length top.codes.items) = ap (λ (cs : List FrameCode). heard_by cs count) codes_are ∙ ap (heard_by top.codes.items) count_is in
      record {
        kept_is = kept_is;
        first_seed = first_seed;
        first_check = first_check;
        rows_are = rows_are ∙ ap (placed_each s) same;
        seed_is = seed_is ∙ ap (λ (cs : List FrameCode). seed_at seed (length cs)) codes_are;
        check_is = check_is ∙ ap (check_of check) same;
      }

  pub gives : IsState s → n ≤ length frames → ((i : ℕ) → i < length frames → length (get_or frames i []) ≡ 10) → PutOut
      → (channels : ℕ → List ℤ) → HaveMatrixed (Some s) channels n frames → IsGiven place channels top (Some s) old new rows
  gives lawful enough wide p channels have =
      let few = channels_few s lawful in
      let cut = map (take (m + 1)) (take n frames) in
      let left = n - dropped place.format top.terminator in
      let begins = cond place.major s.restart.seed old.seed in
      let same : cut ≡ frames_of channels m n = frames_are m n frames channels enough (λ i lt. omega (arith, wide i lt, few)) have in
      let all : heard_at kept seed cut ≡ heard_at left begins (frames_of channels m n) =
      ap (λ (k : ℕ). heard_at k seed cut) p.kept_is ∙ ap (λ (q : ℕ). heard_at left q cut) p.first_seed ∙ ap (heard_at left begins) same in
      record {
        rows_are = p.rows_are ∙ ap (placed_each s) all;
        seed = p.seed_is ∙ ap (λ (q : ℕ). seed_at q n) p.first_seed;
        check = p.check_is ∙ ap (λ (h : List (List ℤ)). check_of check h) all ∙ ap (λ (q : ℕ). check_of q (heard_at left begins (frames_of channels m n))) p.first_check;
      }
