-- The session that encodes PCM: what it does with the next bytes.
use Rattle.std.specs.Prelude.{is_none, IfSome, ◌≡◌, ◌≤◌, ℕ, zero, suc, ◌+◌, ◌-◌, ◌*◌, ◌%◌, min, nat_le, nat_lt, ◌==◌, ◌&&◌, ◌||◌, not, Bool, true, false, List, [], ◌∷◌, length, take, Option, None, Some, Result, Ok, Err, if◌then◌else◌}
use Rattle.mlp_syntax.specs.declared.major.Kind.{Kind}
use Rattle.mlp_syntax.specs.declared.major.Kind.TheVariants.{Fbb, Fba}
use Rattle.mlp_syntax.specs.declared.refusal.NoRoom.{NoRoom}
use Rattle.mlp_syntax.specs.declared.refusal.PcmFault.{PcmFault}
use Rattle.mlp_syntax.specs.declared.refusal.PcmFault.TheVariants as fault
use Rattle.mlp_syntax.specs.declared.refusal.ProfileFault.{ProfileFault}
use Rattle.mlp_stream.specs.declared.refusal.Refusal.{Refusal}
use Rattle.mlp_stream.specs.declared.refusal.Refusal.TheVariants as refused
use Rattle.mlp_stream.specs.Moves.{Move, Waits, Takes, Refuses}
use Rattle.mlp_fifo.specs.Pace.{unit_of}
use Rattle.mlp_fold.specs.declared.profile.Profile.{Profile}
use Rattle.mlp_fold.specs.Profile.{checked}
use Rattle.mlp_encode.specs.Left.{Going, Left, going}
use Rattle.mlp_encode.specs.Unit.{next_sent}
use Rattle.mlp_encoding.specs.Pcm.{frame_size, full_size, frames_in, first_padded, data_in, is_seen}

-- what the units sent so far leave; the bytes of data still to come, if a header told how many there are; and how often
-- it took bytes
pub record Encoding : Type 0 where
  pub left : Left
  pub to_come : Option ℕ
  pub moves : ℕ

-- before the first unit
abbrev pub encoding : Profile → Option ℕ → Encoding
encoding p size = record { left = Ok (going p); to_come = size; moves = 0 }

-- ---- behind the data

-- bytes behind the data are passed over in pages
abbrev pub page : ℕ
page = 4096

-- one move later, with so many bytes of data less to come
abbrev pub less : ℕ → Option ℕ → Option ℕ
less n None = None
less n (Some size) = Some (size - n)

abbrev pub passed_over : Encoding → Bool → List ℕ → Move Encoding
passed_over s ended bytes =
    let take_them = Takes (min page (length bytes)) [] (record s { moves = s.moves + 1 }) in
    if ended || nat_le page (length bytes) then take_them else Waits

-- ---- the next unit: the first bytes of these data, and whether they are all

abbrev pub part_of : Profile → List ℕ → List ℕ
part_of p pcm = take (full_size p) pcm

abbrev pub is_last : Profile → List ℕ → Bool
is_last p pcm = nat_le (length pcm) (full_size p)

-- does it depend on data that may come? Whether it is the last one does, but not low bits of its samples
abbrev pub is_open : Profile → Bool → List ℕ → Bool
is_open p seen pcm =
    not seen && is_last p pcm && (nat_lt (length pcm) (full_size p) || is_none (first_padded p pcm))

abbrev pub is_fbb : Kind → Bool
is_fbb Fbb = true
is_fbb Fba = false

-- a frame, or a unit of MLP, that the data cut off
abbrev pub cut_fault : Profile → List ℕ → Option PcmFault
cut_fault p part =
    if not (length part % frame_size p == 0) then Some fault.PartialFrame
    else if is_fbb p.kind && nat_lt (length part) (full_size p) then Some fault.PartialUnit
    else None

-- what is wrong with the unit of these bytes behind so many units, by its first frame with low bits that aren't 0
abbrev pub fault_by : Profile → ℕ → List ℕ → Bool → Option ℕ → Option PcmFault
fault_by p units part last (Some frame) = Some (fault.PadBits (units * unit_of p.rate + frame))
fault_by p units part last None = if last then cut_fault p part else None

abbrev pub fault_in : Profile → ℕ → List ℕ → Bool → Option PcmFault
fault_in p units part last = fault_by p units part last (first_padded p part)

-- a unit of n bytes was sent, or has no place
abbrev pub on_sent : Encoding → ℕ → Result (List ℕ × Left) NoRoom → Move Encoding
on_sent s n (Ok x) = Takes n x.0 (record { left = x.1; to_come = less n s.to_come; moves = s.moves + 1 })
on_sent s n (Err e) = Refuses (refused.NoRoom e)

abbrev pub on_fault : Encoding → Going → List ℕ → Bool → Option PcmFault → Move Encoding
on_fault s g part last (Some fault) = Refuses (refused.Pcm fault)
on_fault s g part last None = on_sent s (length part) (next_sent (Ok g) (frames_in g.profile part) last)

abbrev pub sends : Encoding → Going → List ℕ → Bool → Move Encoding
sends s g part last = on_fault s g part last (fault_in g.profile g.units part last)

abbrev pub unit_step : Encoding → Going → Bool → List ℕ → Move Encoding
unit_step s g seen pcm =
    if is_open g.profile seen pcm then Waits else sends s g (part_of g.profile pcm) (is_last g.profile pcm)

-- ---- all of it

abbrev pub data_step : Encoding → Going → Option ℕ → Bool → List ℕ → Move Encoding
data_step s g None ended bytes = unit_step s g ended bytes
data_step s g (Some zero) ended bytes = passed_over s ended bytes
data_step s g (Some (suc n)) ended bytes =
    unit_step s g (is_seen (Some (suc n)) ended bytes) (data_in (Some (suc n)) bytes)

-- no session has another profile than one that passes
abbrev pub on_profile : Encoding → Going → Result Unit ProfileFault → Bool → List ℕ → Move Encoding
on_profile s g (Ok _) ended bytes = data_step s g s.to_come ended bytes
on_profile s g (Err e) ended bytes = Refuses (refused.Pcm (fault.Profile e))

abbrev pub on_left : Encoding → Left → Bool → List ℕ → Move Encoding
on_left s (Ok g) ended bytes = on_profile s g (checked g.profile) ended bytes
on_left s (Err e) ended bytes = Refuses (refused.NoRoom e)

-- what it does with these bytes, where they are all that is left (true) or may go on (false)
unfoldable pub encode_step : Encoding → Bool → List ℕ → Move Encoding
encode_step s ended [] = Waits
encode_step s ended (b ∷ bytes) = on_left s s.left ended (b ∷ bytes)

-- nothing comes out at the end
abbrev pub last_of : Left → Result (List ℕ) Refusal
last_of (Ok g) = if g.units == 0 then Err (refused.Pcm fault.Empty) else Ok []
last_of (Err e) = Err (refused.NoRoom e)

abbrev pub encode_last : Encoding → Result (List ℕ) Refusal
encode_last s = last_of s.left

abbrev pub encode_count : Encoding → ℕ
encode_count s = s.moves

-- ---- what holds of a session between its calls, by what it keeps beside its encoder

pub record IsEncode (profile : Profile) (units moves : ℕ) (refusal : Option NoRoom) (left : Left) : Type 0 where
  pub passes : checked profile ≡ Ok tt
  pub few : units ≤ moves
  pub going : refusal ≡ None → (g : Going) × (left ≡ Ok g) × (g.profile ≡ profile) × (g.units ≡ units)
  pub refused : IfSome refusal (λ e. left ≡ Err e)
