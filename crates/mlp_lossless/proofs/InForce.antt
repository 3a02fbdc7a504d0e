-- What is in force behind parameters that were sent.
use Rattle.std.proofs.Common.{◌≡◌, ℕ, Bool, List, length, refl, ap, ◌∙◌}
use Rattle.mlp_syntax.specs.declared.params.Params.{Params}
use Rattle.mlp_params.specs.declared.state.State.{State}
use Rattle.mlp_params.specs.Applied.{applied}
use Rattle.mlp_substream.specs.Blocks.{given}
use Rattle.mlp_fold.specs.declared.profile.Profile.{Profile}
use Rattle.mlp_fold.specs.declared.coding.CodedFrame.{CodedFrame}
use Rattle.mlp_fold.specs.Rows.{rows_of, steps_of}
use Rattle.mlp_encode.specs.Numbers.{low_zeros}
use Rattle.mlp_encode.specs.Blocks.{Force, sent_in, params_of, given_in}
use Rattle.mlp_encode.specs.Lawful.{IsSendable}
use Rattle.mlp_encode.proofs.SentStates.{given_applies}
use Rattle.mlp_encode.proofs.SentBlocks.{rows_are, steps_are}

module _ (j : ℕ) (p : Profile) (restarts : Bool) (before : Force) (frames : List CodedFrame) where
  abbrev all : Params
  all = params_of j p restarts before.state (length frames) (sent_in j p restarts before frames)

  applies : given (given_in j p restarts before frames) before.state ≡ applied before.state (params_of j p restarts before.state (length frames) (sent_in j p restarts before frames))
  applies = given_applies restarts all before.state refl refl

  pub restart_behind : (given (given_in j p restarts before frames) before.state).restart ≡ before.state.restart
  restart_behind = ap (λ (s : State). s.restart) applies

  pub shifts_behind : (given (given_in j p restarts before frames) before.state).shifts ≡ before.state.shifts
  shifts_behind = ap (λ (s : State). s.shifts) applies

  -- the rows and the steps are those of the mix
  module _ (h : IsSendable j p restarts before.state frames) where
    pub rows_behind : (given (given_in j p restarts before frames) before.state).rows.items ≡ rows_of p.mix j p.channels
    rows_behind = ap (λ (s : State). s.rows.items) applies ∙ rows_are j p restarts before.state before.pasts frames h

    pub steps_behind : (given (given_in j p restarts before frames) before.state).steps.items ≡ steps_of p.mix (low_zeros p.depth) j
    steps_behind = ap (λ (s : State). s.steps.items) applies ∙ steps_are j p restarts before.state before.pasts frames h
