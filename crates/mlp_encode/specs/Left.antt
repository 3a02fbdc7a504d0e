-- What the units sent so far leave to the next one.
use Rattle.std.specs.Prelude.{ℕ, List, replicate, Result, Option, None}
use Rattle.mlp_syntax.specs.declared.refusal.NoRoom.{NoRoom}
use Rattle.mlp_params.specs.declared.state.State.{State}
use Rattle.mlp_predict.specs.Prediction.{Past, zeros}
use Rattle.mlp_fifo.specs.LeftFifo.{LeftFifo}
use Rattle.mlp_fifo.specs.Placed.{emptied}
use Rattle.mlp_fold.specs.declared.profile.Profile.{Profile}
use Rattle.mlp_fold.specs.Substreams.{substreams_of}

pub record Going : Type 0 where
  pub profile : Profile
  pub units : ℕ
  -- of each substream what is in force
  pub force : List (Option State)
  -- of each of eight channels the latest 8 outputs and 4 differences
  pub pasts : List Past
  -- of each presentation the check of its output since the last restart
  pub checks : List ℕ
  pub fifo : LeftFifo

-- or the unit that has no place
abbrev pub Left : Type 0
Left = Result Going NoRoom

-- before the first unit
abbrev pub going : Profile → Going
going p = record {
  profile = p;
  units = 0;
  force = replicate (substreams_of p.channels) None;
  pasts = replicate 8 (zeros 8 4);
  checks = replicate (substreams_of p.channels) 0;
  fifo = emptied p.kind p.rate;
}
