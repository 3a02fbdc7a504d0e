-- What a decoder gives of a unit's frames, by what is in force in the last substream that it reads.
use Rattle.std.proofs.Common.{◌≡◌, ℕ, ◌-◌, ◌≤◌, ℤ, List, [], ◌∷◌, ◌++◌, map, take, replicate, refl, ap, ◌∙◌}
use Rattle.std.specs.Prelude.{All, ◌==◌, if◌then◌else◌}
use Rattle.std.specs.List.{range_with_len}
use Rattle.std.proofs.lemmas.List.Elements.{All-head, All-tail}
use Rattle.mlp_syntax.specs.declared.params.MatrixRow.{MatrixRow}
use Rattle.mlp_params.specs.declared.state.State.{State}
use Rattle.mlp_matrix.specs.Matrix.{applied}
use Rattle.mlp_matrix.specs.Noise.{noise_values, next_seed}
use Rattle.mlp_output.specs.Output.{noise_in, matrixed, samples_of, placed, placed_each, heard}
use Rattle.mlp_fold.specs.declared.profile.Mix.{Mix}
use Rattle.mlp_fold.specs.Profile.{AreMixed}
use Rattle.mlp_fold.specs.Mix.{AreSamples, channels_of, coded_of, coded_frame, presented_of}
use Rattle.mlp_fold.specs.Rows.{rows_of, steps_of}
use Rattle.mlp_encode.specs.Numbers.{noise_kind}
use Rattle.mlp_encode.specs.Blocks.{bypass_in}
use Rattle.mlp_lossless.proofs.Shown.{noise_by, samples_shown, placed_shown}

-- rows and steps of the mix, no shifts, and each matrix channel at its own place
pub record IsTop (mix : Mix) (depth channels j : ℕ) (s : State) : Type 0 where
  pub rows : s.rows.items ≡ rows_of mix j channels
  pub steps : s.steps.items ≡ steps_of mix (24 - depth) j
  pub shifts : s.shifts.items ≡ replicate (channels_of j) 0
  pub assign : s.restart.assign.items ≡ range_with_len 0 (channels_of j)
  pub kind : s.restart.kind ≡ noise_kind j

module _ (mix : Mix) (depth channels j : ℕ) (m : AreMixed mix depth channels) (top : channels_of j ≤ channels) (le : j ≤ 2) (s : State) (is : IsTop mix depth channels j s) where
  noise_is : (seed : ℕ) → noise_in s.restart seed ≡ noise_by j s.restart.noise_shift seed
  noise_is seed = ap (λ (k : ℕ). if k == 0 then noise_values s.restart.noise_shift seed else []) is.kind

  frame_heard : (seed : ℕ) (x : List ℤ) → AreSamples (24 - depth) channels x
      → samples_of s.shifts.items (matrixed s seed (bypass_in (rows_of mix j channels) (coded_frame mix (24 - depth) channels x)) (take (channels_of j) (coded_of mix (24 - depth) channels x)))
      ≡ take (channels_of j) (presented_of mix (24 - depth) channels j x)
  frame_heard seed x h =
      let b : ℕ = bypass_in (rows_of mix j channels) (coded_frame mix (24 - depth) channels x) in
      let f : List ℤ = take (channels_of j) (coded_of mix (24 - depth) channels x) in
      ap (λ (shifts : List ℕ). samples_of shifts (matrixed s seed b f)) is.shifts
      ∙ ap (λ (rows : List MatrixRow). samples_of (replicate (channels_of j) 0) (applied rows s.steps.items b (f ++ noise_in s.restart seed))) is.rows
      ∙ ap (λ (steps : List ℕ). samples_of (replicate (channels_of j) 0) (applied (rows_of mix j channels) steps b (f ++ noise_in s.restart seed))) is.steps
      ∙ ap (λ (noise : List ℤ). samples_of (replicate (channels_of j) 0) (applied (rows_of mix j channels) (steps_of mix (24 - depth) j) b (f ++ noise))) (noise_is seed)
      ∙ samples_shown mix depth channels j x m top h s.restart.noise_shift seed le

  pub all_heard : (seed : ℕ) (pcm : List (List ℤ)) → All (AreSamples (24 - depth) channels) pcm
      → heard s seed (map (bypass_in (rows_of mix j channels)) (map (coded_frame mix (24 - depth) channels) pcm)) (map (λ f. take (channels_of j) f.values) (map (coded_frame mix (24 - depth) channels) pcm))
      ≡ map (λ x. take (channels_of j) (presented_of mix (24 - depth) channels j x)) pcm
  all_heard seed [] h = refl
  all_heard seed (x ∷ pcm) h =
      let P : List ℤ → Type 0 = AreSamples (24 - depth) channels in
      let later : List (List ℤ) = heard s (next_seed seed) (map (bypass_in (rows_of mix j channels)) (map (coded_frame mix (24 - depth) channels) pcm))
      (map (λ f. take (channels_of j) f.values) (map (coded_frame mix (24 - depth) channels) pcm)) in
      ap (λ (f : List ℤ). f ∷ later) (frame_heard seed x (All-head P x pcm h))
      ∙ ap (λ (fs : List (List ℤ)). take (channels_of j) (presented_of mix (24 - depth) channels j x) ∷ fs) (all_heard (next_seed seed) pcm (All-tail P x pcm h))

  pub all_placed : (pcm : List (List ℤ)) → All (AreSamples (24 - depth) channels) pcm
      → placed_each s (map (λ x. take (channels_of j) (presented_of mix (24 - depth) channels j x)) pcm) ≡ map (presented_of mix (24 - depth) channels j) pcm
  all_placed [] h = refl
  all_placed (x ∷ pcm) h =
      let P : List ℤ → Type 0 = AreSamples (24 - depth) channels in
      let v : List ℤ = take (channels_of j) (presented_of mix (24 - depth) channels j x) in
      let later : List (List ℤ) = placed_each s (map (λ x. take (channels_of j) (presented_of mix (24 - depth) channels j x)) pcm) in
      ap (λ (assign : List ℕ). placed assign v ∷ later) is.assign
      ∙ ap (λ (f : List ℤ). f ∷ later) (placed_shown mix depth channels j x m top (All-head P x pcm h))
      ∙ ap (λ (fs : List (List ℤ)). presented_of mix (24 - depth) channels j x ∷ fs) (all_placed pcm (All-tail P x pcm h))
