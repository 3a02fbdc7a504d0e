-- The PCM of a stream by the units that it is sent in.
use Rattle.std.specs.Prelude.{◌≡◌, ◌<◌, ◌==◌, ℕ, List, [], ◌∷◌, ◌++◌, length, Ok, true, ℤ}
use Rattle.mlp_fold.specs.declared.profile.Profile.{Profile}
use Rattle.mlp_fold.specs.Profile.{checked}
use Rattle.mlp_encode.specs.Left.{Left, going}
use Rattle.mlp_encode.specs.Unit.{AreNext}
use Rattle.mlp_encode.specs.Sent.{sent}

-- the frames of all units
abbrev pub all_frames : List (List (List ℤ)) → List (List ℤ)
all_frames [] = []
all_frames (frames ∷ more) = frames ++ all_frames more

-- the frames of each unit can be sent: all units but the last one are full
abbrev pub AreUnits : Profile → List (List (List ℤ)) → Type 0
AreUnits p [] = Unit {0}
AreUnits p (frames ∷ more) = AreNext p frames (length more == 0) × AreUnits p more

-- of these frames, unit by unit, a whole stream is sent: it has these bytes, unit by unit, and leaves this
pub record IsSent (p : Profile) (frames : List (List (List ℤ))) (units : List (List ℕ)) (left : Left) : Type 0 where
  pub profile : checked p ≡ Ok tt
  pub some : 0 < length frames
  pub frames_are : AreUnits p frames
  pub sent_is : sent true (Ok (going p)) frames ≡ record { units = units; end = Ok left }
