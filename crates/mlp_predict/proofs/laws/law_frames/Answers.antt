use Rattle.mlp_predict.proofs.FrameLists.{length-outputs_from, outputs_from-append, past_from-append, state_outputs, state_past, frames_give, frames_leave}
use Rattle.mlp_predict.proofs.laws.law_frames.Goals as goal

pub returns : goal.returns
returns c = record {
  count = length-outputs_from;
  sequence = frames_give;
  past = frames_leave;
  join_outputs = outputs_from-append;
  join_past = past_from-append;
  block_outputs = state_outputs;
  block_past = state_past;
}
