-- What units leave, by the whole sequences since the last major sync.
use Rattle.std.specs.Prelude.{◌≡◌, ℕ, ◌<◌, ◌≤◌, Bool, List, [], ◌∷◌, ◌++◌, length, slice_index_or, Option, option_map, is_some, ℤ}
use Rattle.std.specs.List.{list_any}
use Rattle.mlp_syntax.specs.declared.restart.Restart.{Restart}
use Rattle.mlp_params.specs.declared.state.State.{State}
use Rattle.mlp_predict.specs.Prediction.{Past, latest, zeros, with_zeros}
use Rattle.mlp_predict.specs.Outputs.{Frame, frame_at, past_at}
use Rattle.mlp_matrix.specs.Noise.{seed_at}
use Rattle.mlp_substream.specs.declared.known.Place.{Place}
use Rattle.mlp_output.specs.Output.{check_of}
use Rattle.mlp_contents.specs.Known.{first_restart}
use Rattle.mlp_contents.specs.Units.{Left, Unit_of, coded_at, seed_of}
use Rattle.mlp_samples.specs.Samples.{blocks_in, count_in, frames_in_units, in_force_in, before_unit, unit_heard, first_sync, place_in}

-- the units since the last major sync, with its own
abbrev pub since_sync : List Unit_of → List Unit_of → List Unit_of
since_sync since [] = since
since_sync since (u ∷ us) = since_sync (before_unit since u ++ u ∷ []) us

-- the samples of the matrix channels in all of their frames
abbrev pub heard_since : Place → ℕ → List Unit_of → List Unit_of → List (List ℤ)
heard_since place k before [] = []
heard_since place k before (u ∷ us) = unit_heard place k before u ++ heard_since place k (before ++ u ∷ []) us

-- the latest 8 outputs and 4 differences of all of these frames, and zeros before the first
abbrev pub latest_of : List Frame → Past
latest_of frames = latest 8 4 (with_zeros 8 4 (past_at (frame_at frames) (length frames)))

abbrev pub has_end : Unit_of → Bool
has_end u = list_any (λ s. is_some s.terminator) u.contents

-- the greatest matrix channel of a restart, and that of what is in force
abbrev pub matrix_of : Option Restart → Option ℕ
matrix_of restart = option_map (λ r. r.max_matrix) restart

abbrev pub matrix_in_force : Option State → Option ℕ
matrix_in_force force = option_map (λ s. s.restart.max_matrix) force

-- it is left by units of which these are the ones since the last major sync
pub record IsLeftBy (place : Place) (k : ℕ) (since : List Unit_of) (left : Left) : Type 0 where
  pub force : (j : ℕ) → j ≤ k → (coded_at left.substreams j).force ≡ in_force_in place j since
  pub pasts :
      (j c : ℕ) → j ≤ k → c < 8 →
      slice_index_or (coded_at left.substreams j).pasts c (zeros 8 4) ≡ latest_of (frames_in_units place j since c)
  pub seed : left.seed ≡ seed_at (seed_of (in_force_in place k since)) (count_in k since)
  pub check : left.check ≡ check_of 0 (heard_since place k [] since)

-- it is left by these units
pub record IsLeft (k : ℕ) (us : List Unit_of) (left : Left) : Type 0 where
  pub sync : left.sync ≡ first_sync us
  pub ended : left.ended ≡ list_any has_end us
  -- the greatest matrix channel in force is that of the substream's first restart
  pub max_matrix :
      (j : ℕ) → j ≤ k →
      matrix_in_force (coded_at left.substreams j).force ≡ matrix_of (first_restart (blocks_in j us))
  pub since : IsLeftBy (place_in (first_sync us)) k (since_sync [] us) left
