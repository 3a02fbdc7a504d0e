use Rattle.mlp_residual.proofs.FrameLaws.{coded_frames_is, frames_of_is}
use Rattle.mlp_residual.proofs.laws.law_frames.Goals as goal

pub returns : goal.returns
returns c = record { coded = coded_frames_is; in_force = frames_of_is }
