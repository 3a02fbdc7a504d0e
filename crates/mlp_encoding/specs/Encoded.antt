-- What an encoding command makes of PCM: the units of its frames, up to the first that can't be sent.
use Rattle.std.specs.Prelude.{◌≡◌, ℕ, Bool, List, Option, Result, Ok, Err, ℤ}
use Rattle.mlp_syntax.specs.declared.refusal.NoRoom.{NoRoom}
use Rattle.mlp_stream.specs.declared.refusal.Refusal.TheVariants as refused
use Rattle.mlp_stream.specs.declared.stop.Stop.{Stop}
use Rattle.mlp_stream.specs.declared.stop.Stop.TheVariants.{Refused}
use Rattle.mlp_fold.specs.declared.profile.Profile.{Profile}
use Rattle.mlp_encode.specs.Left.{Left, going}
use Rattle.mlp_encode.specs.Unit.{joined}
use Rattle.mlp_encode.specs.Sent.{sent}
use Rattle.mlp_encoding.specs.Pcm.{IsPcm, data_in, is_seen}

-- the units are sent, or the first one without a place is refused
abbrev pub end_by : Result Unit Stop → Result Left NoRoom → Result Unit Stop
end_by end (Ok left) = end
end_by end (Err e) = Err (Refused (refused.NoRoom e))

-- the end and the output, where a header states so many bytes of data, if it does, and bytes are all (true) or may go
-- on (false)
pub record Encoded (p : Profile) (size : Option ℕ) (ended : Bool) (bytes : List ℕ)
    (end : Result Unit Stop) (output : List ℕ) : Type 0 where
  pub frames : List (List (List ℤ))
  pub last : Bool
  pub pcm_end : Result Unit Stop
  pub pcm : IsPcm p ended (is_seen size ended bytes) (data_in size bytes) frames last pcm_end
  pub end_is : end ≡ end_by pcm_end (sent last (Ok (going p)) frames).end
  pub output_is : output ≡ joined (sent last (Ok (going p)) frames).units
