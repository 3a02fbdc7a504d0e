-- What a decoder is left with beside what the encoder is left with.
use Rattle.std.specs.Prelude.{◌≡◌, ◌≤◌, ℕ, ◌+◌, ◌==◌, false, length, slice_index_or, Option, Some, None, if◌then◌else◌}
use Rattle.mlp_syntax.specs.declared.major.MajorSync.{MajorSync}
use Rattle.mlp_channels.specs.Playing.{past_of_channel}
use Rattle.mlp_contents.specs.Units.{Left, coded_at}
use Rattle.mlp_fold.specs.Substreams.{first_channel, last_channel}
use Rattle.mlp_encode.specs.Left.{Going}
use Rattle.mlp_encode.specs.Sync.{sync_of}

-- the first major sync of the units so far
abbrev pub first_sync : Going → Option MajorSync
first_sync e = if e.units == 0 then None else Some (sync_of e.profile)

-- A decoder of presentation j that has taken the units so far, none of which is the last: it knows the first major sync,
-- and of each substream that it reads it has the encoder's parameters in force and pasts. The check of what it gave since
-- the last restart is the encoder's.
pub record Follows (j : ℕ) (e : Going) (d : Left) : Type 0 where
  pub sync : d.sync ≡ first_sync e
  pub going_on : d.ended ≡ false
  pub count : length d.substreams ≡ j + 1
  pub force : (i : ℕ) → i ≤ j → (coded_at d.substreams i).force ≡ slice_index_or e.force i None
  pub pasts :
      (i c : ℕ) → i ≤ j → first_channel i ≤ c → c ≤ last_channel i →
      past_of_channel (coded_at d.substreams i).pasts c ≡ past_of_channel e.pasts c
  pub check : d.check ≡ slice_index_or e.checks j 0
