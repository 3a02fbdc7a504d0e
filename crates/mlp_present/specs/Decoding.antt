-- Decoding a presentation, one unit after the other.
use Rattle.std.specs.Prelude.{◌≡◌, ℕ, ◌+◌, ◌==◌, ◌<◌, ◌≤◌, nat_lt, ◌&&◌, Bool, List, [], ◌∷◌, length, take, is_none, is_some, Option, Some, None, option_map, Result, Ok, Err, if◌then◌else◌, ℤ}
use Rattle.mlp_syntax.specs.declared.fault.Field.TheVariants as rule
use Rattle.mlp_syntax.specs.declared.major.MajorSync.{MajorSync}
use Rattle.mlp_syntax.specs.declared.unit.Outer.{Outer}
use Rattle.mlp_unit.specs.AccessUnit.{AccessUnit, substreams_of}
use Rattle.mlp_unit.specs.Shape.{body_place, unit_with}
use Rattle.mlp_unit.specs.Written.{FirstUsable}
use Rattle.mlp_walk.specs.declared.refusal.Refusal.{Refusal}
use Rattle.mlp_walk.specs.declared.refusal.Refusal.TheVariants as refused
use Rattle.mlp_walk.specs.Next.{next_of}
use Rattle.mlp_outline.specs.Next.{is_open}
use Rattle.mlp_present.specs.Parts.{Next, HasOuter}
use Rattle.mlp_channels.specs.Channels.{Coded}
use Rattle.mlp_contents.specs.Units.{Left, Unit_of, coded_at, start, whole, after, frames_out}
use Rattle.mlp_contents.specs.Inner.{Inner, left_of, channels_of, IsKept}

-- ---- what a decoder knows

-- the presentation, the number of units that it took and what they leave; of the latest unit the outer part, and the
-- output timing of substream 0 where it has a restart; the number of output channels, and what was refused
pub record Held : Type 0 where
  pub k : ℕ
  pub units : ℕ
  pub left : Left
  pub latest : Option Outer
  pub timing : Option ℕ
  pub channels : ℕ
  pub refusal : Option Refusal

-- .. by the parts of a decoder: the first major sync is kept apart from what else units leave
abbrev pub held_of : ℕ → Option MajorSync → Inner → Option Outer → Option ℕ → ℕ → Option Refusal → Held
held_of units first x latest timing channels refusal = record {
  k = x.last;
  units = units;
  left = left_of first x;
  latest = latest;
  timing = timing;
  channels = channels;
  refusal = refusal;
}

-- before the first unit
abbrev pub opened : ℕ → Held
opened k = record { k = k; units = 0; left = start k; latest = None; timing = None; channels = 0; refusal = None }

-- an outer part, with the byte of the unit at which its segments begin
abbrev pub outer_of : AccessUnit → Outer
outer_of u = record { head = u.head; major = u.major; entries = record { items = u.entries }; body = body_place u }

-- the output timing of substream 0, in whose segment a restart begins where the unit has a major sync
abbrev pub timing_by : Option MajorSync → List Coded → Option ℕ
timing_by None xs = None
timing_by (Some m) xs = option_map (λ s. s.restart.output_timing) (coded_at xs 0).force

abbrev pub channels_by : ℕ → Left → ℕ
channels_by k left = channels_of (coded_at left.substreams k).force

-- behind one more unit, which leaves this
abbrev pub with_left : Held → AccessUnit → Left → Held
with_left held o left = record {
  k = held.k;
  units = held.units + 1;
  left = left;
  latest = Some (outer_of o);
  timing = timing_by o.major left.substreams;
  channels = channels_by held.k left;
  refusal = None;
}

abbrev pub after_unit : Held → Unit_of → Held
after_unit held u = with_left held u.outer (after held.k held.left u)

-- behind these units
unfoldable pub after_units : Held → List Unit_of → Held
after_units held [] = held
after_units held (u ∷ us) = after_units (after_unit held u) us

-- ---- the next unit

abbrev pub unless_refused : Option Refusal → Next → Next
unless_refused None next = next
unless_refused (Some refusal) next = Err refusal

-- what comes of it: behind a refusal the same one
abbrev pub next_unit : Held → List ℕ → Next
next_unit held next = unless_refused held.refusal (next_of (whole held.k) (Some held.k) held.units held.left next)

-- the next unit has so many bytes and this outer part, these are the frames that it gives, and this is known behind it
pub record GivesUnit (held : Held) (next : List ℕ) (size : ℕ) (frames : List (List ℤ)) (new : Held) : Type 0 where
  pub unit : Unit_of
  pub next_is : next_unit held next ≡ Ok (record { size = size; unit = unit })
  pub frames_are : frames ≡ frames_out held.k held.left unit
  pub held_is : new ≡ after_unit held unit
  pub outer : Outer
  pub outer_is : unit.outer ≡ unit_with (take size next) outer
  pub latest_is : new.latest ≡ Some outer
  pub has_outer : HasOuter held.left.ended held.left.sync next size outer

-- a refusal is kept; of what units leave only the first major sync is still known
pub record KeepsRefusal (held new : Held) (refusal : Refusal) : Type 0 where
  pub refusal_is : new.refusal ≡ Some refusal
  pub k : new.k ≡ held.k
  pub units : new.units ≡ held.units
  pub sync : new.left.sync ≡ held.left.sync
  pub latest : new.latest ≡ held.latest
  pub timing : new.timing ≡ held.timing
  pub channels : new.channels ≡ held.channels

-- does the next unit depend on bytes behind these? Behind a terminator one byte decides
abbrev pub is_open_behind : Left → List ℕ → Bool
is_open_behind left next = if left.ended then nat_lt (length next) 1 else is_open next

-- behind a refusal nothing is waited for
abbrev pub waits : Held → List ℕ → Bool
waits held next = is_none held.refusal && is_open_behind held.left next

-- ---- the end

abbrev pub no_unit : Refusal
no_unit = refused.Fault (record { unit = 0; substream = 0; field = rule.UnitHeader; bit = 0 })

abbrev pub last_of : ℕ → Option Refusal → Result (Unit {0}) Refusal
last_of units None = if units == 0 then Err no_unit else Ok tt
last_of units (Some refusal) = Err refusal

-- may the stream end here? A unit was taken, and nothing was refused
abbrev pub last_word : Held → Result (Unit {0}) Refusal
last_word held = last_of held.units held.refusal

-- ---- what holds of a decoder between its calls

-- the number of units, the first major sync, what else units leave, the latest outer part, and what was refused
pub record IsDecoding (units : ℕ) (first : Option MajorSync) (inner : Inner) (latest : Option Outer)
    (refusal : Option Refusal) : Type 0 where
  pub most : inner.last ≤ 2
  pub usable : FirstUsable first
  -- the presentation exists
  pub begins : units ≡ 0 → first ≡ None
  pub told : 0 < units → inner.last < substreams_of first
  pub latest_is : is_some latest ≡ nat_lt 0 units
  -- a fault in a segment leaves some substreams before the unit and some behind it
  pub kept : refusal ≡ None → IsKept first inner
