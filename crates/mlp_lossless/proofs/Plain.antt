-- What a restart that is sent leaves in force for good: no shifts, and each matrix channel at its own place.
use Rattle.std.proofs.Common.{◌≡◌, ℕ, ◌+◌, Bool, List, [], length, replicate, refl, sym, ap, ◌∙◌}
use Rattle.std.specs.List.{range_with_len}
use Rattle.arrayvec.specs.ArrayVec.{ArrayVec}
use Rattle.mlp_syntax.specs.declared.major.Kind.{Kind}
use Rattle.mlp_syntax.specs.declared.restart.Restart.{Restart}
use Rattle.mlp_params.specs.declared.state.State.{State}
use Rattle.mlp_params.specs.InForce.{in_force}
use Rattle.mlp_substream.specs.Blocks.{given}
use Rattle.mlp_fold.specs.declared.profile.Profile.{Profile}
use Rattle.mlp_fold.specs.declared.coding.CodedFrame.{CodedFrame}
use Rattle.mlp_fold.specs.Mix.{channels_of}
use Rattle.mlp_fold.specs.Rows.{steps_of}
use Rattle.mlp_fold.specs.Substreams.{first_channel, last_channel}
use Rattle.mlp_encode.specs.Numbers.{low_zeros, noise_kind}
use Rattle.mlp_encode.specs.Sync.{restart_of}
use Rattle.mlp_encode.specs.Blocks.{Force, given_in}
use Rattle.mlp_encode.specs.Lawful.{IsSendable}
use Rattle.mlp_lossless.proofs.InForce.{restart_behind, shifts_behind, rows_behind, steps_behind}
use Rattle.mlp_lossless.proofs.Coverage.{first_next}
use Rattle.mlp_lossless.proofs.AsKnown.{IsRestartOf}
use Rattle.mlp_lossless.proofs.Heard.{IsTop}

pub record IsPlain (j : ℕ) (s : State) : Type 0 where
  pub shifts : s.shifts.items ≡ replicate (channels_of j) 0
  pub assign : s.restart.assign.items ≡ range_with_len 0 (channels_of j)
  pub kind : s.restart.kind ≡ noise_kind j
  pub min : s.restart.min ≡ first_channel j
  pub max : s.restart.max ≡ last_channel j
  pub max_matrix : s.restart.max_matrix ≡ last_channel j

-- a restart of substream j puts it in force
pub restart_plain : (j : ℕ) (kind : Kind) (unit timing check : ℕ) → IsPlain j (in_force kind unit (restart_of j timing check) [])
restart_plain j kind unit timing check =
    let n : last_channel j + 1 ≡ channels_of j = sym (first_next j) in
    record {
      shifts = ap (λ (k : ℕ). replicate k 0) n;
      assign = ap (λ (k : ℕ). range_with_len 0 k) n;
      kind = refl;
      min = refl;
      max = refl;
      max_matrix = refl;
    }

pub restart_channels : (j timing check : ℕ) → IsRestartOf j (restart_of j timing check)
restart_channels j timing check = record { min = refl; max = refl; max_matrix = refl }

module _ (j : ℕ) (p : Profile) (restarts : Bool) (before : Force) (frames : List CodedFrame) (h : IsSendable j p restarts before.state frames)
    (count : length (steps_of p.mix (low_zeros p.depth) j) ≡ last_channel j + 1) (plain : IsPlain j before.state) where
  -- parameters that are sent change nothing of it
  pub plain_behind : IsPlain j (given (given_in j p restarts before frames) before.state)
  plain_behind =
      let r = restart_behind j p restarts before frames in
      let s = shifts_behind j p restarts before frames in
      record {
        shifts = ap (λ (v : ArrayVec ℕ). v.items) s ∙ plain.shifts;
        assign = ap (λ (q : Restart). q.assign.items) r ∙ plain.assign;
        kind = ap (λ (q : Restart). q.kind) r ∙ plain.kind;
        min = ap (λ (q : Restart). q.min) r ∙ plain.min;
        max = ap (λ (q : Restart). q.max) r ∙ plain.max;
        max_matrix = ap (λ (q : Restart). q.max_matrix) r ∙ plain.max_matrix;
      }

  -- with them rows and steps are those of the mix
  pub top_behind : IsTop p.mix p.depth p.channels j (given (given_in j p restarts before frames) before.state)
  top_behind = record {
    rows = rows_behind j p restarts before frames h;
    steps = steps_behind j p restarts before frames h;
    shifts = plain_behind.shifts;
    assign = plain_behind.assign;
    kind = plain_behind.kind;
  }
