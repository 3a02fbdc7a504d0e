-- What an encoder holds, as what the units sent so far leave.
use Rattle.std.specs.Prelude.{◌≡◌, ◌≤◌, ℕ, ◌+◌, ◌*◌, Bool, List, length, take, Option, Some, None, Result, Ok, Err, ℤ}
use Rattle.mlp_syntax.specs.declared.major.MajorSync.{MajorSync}
use Rattle.mlp_syntax.specs.declared.refusal.NoRoom.{NoRoom}
use Rattle.mlp_unit.specs.Directory.{directory_size}
use Rattle.mlp_unit.specs.Written.{Writable}
use Rattle.mlp_fifo.specs.LeftFifo.{LeftFifo}
use Rattle.mlp_fold.specs.Substreams.{substreams_of}
use Rattle.mlp_encode.specs.declared.progress.Progress.{Progress}
use Rattle.mlp_encode.specs.declared.unit.Written.{Written}
use Rattle.mlp_encode.specs.Left.{Going, Left}
use Rattle.mlp_encode.specs.Lawful.{AreInForce, IsGoing}
use Rattle.mlp_encode.specs.Unit.{unit_sent, Body, body_of, body_size, unit_bytes, checks_behind}

-- of three substreams and presentations those count that the profile has
abbrev pub going_of : Progress → Going
going_of x = record {
  profile = x.profile;
  units = x.units;
  force = take (substreams_of x.profile.channels) x.sending;
  pasts = x.pasts;
  checks = take (substreams_of x.profile.channels) x.checks;
  fifo = x.fifo;
}

-- behind a unit without a place nothing else counts
abbrev pub left_of : Option NoRoom → Progress → Left
left_of None x = Ok (going_of x)
left_of (Some e) x = Err e

-- what is in force is kept twice: to choose by, and to write by
pub record IsEncoding (x : Progress) : Type 0 where
  pub going : IsGoing (going_of x)
  pub same : x.writing ≡ x.sending

-- a body of these segments
abbrev pub body_with : Option MajorSync → Written → Body
body_with major w = record { major = major; entries = w.entries.items; bytes = w.bytes.items }

-- what sending or placing answers, with the bytes and what it leaves
abbrev pub answered : {A : Type 0} → Result (Unit {0}) NoRoom → List ℕ → A → Result (List ℕ × A) NoRoom
answered (Ok _) bytes left = Ok (bytes, left)
answered (Err e) bytes left = Err e

-- the bytes of a unit with its place
abbrev pub placed_bytes : Body → Result (ℕ × LeftFifo) NoRoom → Result (List ℕ × LeftFifo) NoRoom
placed_bytes body (Ok x) = Ok (unit_bytes x.0 body, x.1)
placed_bytes body (Err e) = Err e

-- a body without extra words that can be written, and isn't too long
pub record IsBody (body : Body) : Type 0 where
  pub writable : Writable body.major body.entries body.bytes
  pub plain : directory_size body.entries ≡ 2 * length body.entries
  pub size : body_size body ≤ 8190

-- the next unit stands in a body, and is not placed yet; all but the fifo and the number of units is as behind it
pub record IsMade (g : Going) (frames : List (List ℤ)) (last : Bool) (body : Body) (x : Progress) : Type 0 where
  pub body_is : body ≡ body_of g (unit_sent g frames last)
  pub lawful : IsBody body
  pub profile : x.profile ≡ g.profile
  pub units : x.units ≡ g.units
  pub fifo : x.fifo ≡ g.fifo
  pub force : take (substreams_of g.profile.channels) x.sending ≡ (unit_sent g frames last).force
  pub next : AreInForce g.profile (g.units + 1) (take (substreams_of g.profile.channels) x.sending)
  pub same : x.writing ≡ x.sending
  pub pasts : x.pasts ≡ (unit_sent g frames last).pasts
  pub eight : length x.pasts ≡ 8
  pub checks : take (substreams_of g.profile.channels) x.checks ≡ checks_behind g frames
