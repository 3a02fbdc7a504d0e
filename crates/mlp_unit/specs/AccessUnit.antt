-- An access unit as its outer part shows it.
use Rattle.std.specs.Prelude.{◌≡◌, ℕ, ◌+◌, ◌-◌, ◌*◌, ◌/◌, ◌==◌, nat_le, ◌&&◌, not, Bool, List, [], ◌∷◌, ◌++◌, length, Option, Some, None, is_some, bit_xor, if◌then◌else◌}
use Rattle.mlp_syntax.specs.declared.major.Kind.{Kind}
use Rattle.mlp_syntax.specs.declared.major.Kind.TheVariants.{Fba}
use Rattle.mlp_syntax.specs.declared.major.MajorSync.{MajorSync}
use Rattle.mlp_syntax.specs.declared.unit.DirEntry.{DirEntry}
use Rattle.mlp_syntax.specs.declared.unit.UnitHead.{UnitHead}
use Rattle.mlp_syntax.specs.declared.fault.Field.{Field}
use Rattle.mlp_syntax.specs.declared.fault.Field.TheVariants as rule
use Rattle.mlp_bits.specs.Bits.{number}
use Rattle.mlp_layout.specs.Layout.{Layout, Rule, number_of, ruled, tested, whole, part, made, marked, sized}
use Rattle.mlp_layout.specs.Combined.{must, must_at, under, present, times}
use Rattle.mlp_major.specs.MajorSync.{major_sync, sync, kind_of, rate_in_hertz}
use Rattle.mlp_unit.specs.Directory.{directory, directory_size, entry_size, first_failing, may_stand}

-- the segments and what follows them are bytes
pub record AccessUnit : Type 0 where
  pub head : UnitHead
  pub major : Option MajorSync
  pub entries : List DirEntry
  pub body : List ℕ

-- ---- the head

unfoldable pub head_fields : Layout UnitHead
head_fields =
    part (number_of 4) (λ h. h.check) (λ check.
    part (number_of 12) (λ h. h.words) (λ words.
    part (number_of 16) (λ h. h.timing) (λ timing.
    made (record { check = check; words = words; timing = timing }))))

-- the length in words counts the head's own two
unfoldable pub head : Layout UnitHead
head = ruled (must_at 4 rule.UnitLength (λ h. nat_le 2 h.words)) (whole rule.UnitHeader head_fields)

-- ---- the stream's first major sync, which may be this unit's

abbrev pub in_force : Option MajorSync → Option MajorSync → Option MajorSync
in_force None here = here
in_force (Some first) here = Some first

abbrev pub substreams_of : Option MajorSync → ℕ
substreams_of None = 0
substreams_of (Some m) = m.substreams

abbrev pub stream_kind : Option MajorSync → Kind
stream_kind None = Fba
stream_kind (Some m) = kind_of m.format

-- the sampling rate in hertz
abbrev pub stream_rate : Option MajorSync → ℕ
stream_rate None = 0
stream_rate (Some m) = rate_in_hertz m

-- ---- the parts, which are tried in this order

-- the bytes of a major sync
abbrev pub major_size : Option MajorSync → ℕ
major_size None = 0
major_size (Some m) = 28 + length m.extension.items

-- what follows the major sync, or the head where there is none
unfoldable pub behind_sync : Option MajorSync → UnitHead → Option MajorSync → Layout AccessUnit
behind_sync first head major =
    tested rule.FirstSync (is_some (in_force first major))
    (part (directory (substreams_of (in_force first major))) (λ u. u.entries) (λ entries.
    part (times (2 * head.words - 4 - major_size major - directory_size entries) (number_of 8)) (λ u. u.body) (λ body.
    made (record { head = head; major = major; entries = entries; body = body }))))

-- a major sync is there exactly where the unit has 8 bytes at least and the bits behind the head are those of a sync
unfoldable pub parts : Option MajorSync → Layout AccessUnit
parts first =
    part head (λ u. u.head) (λ head.
    sized (16 * head.words - 32) rule.UnitLength 28
    (marked (nat_le 4 head.words) 31 sync (λ u. is_some u.major) (λ there.
    part (present there (major_sync first)) (λ u. u.major) (λ major.
    behind_sync first head major))))

-- ---- the rules on the directory. Bits are counted from the unit's first

-- the place of the first entry whose end is below the one before or past the last
abbrev pub first_bad_end : ℕ → ℕ → ℕ → List DirEntry → Option ℕ
first_bad_end before last place [] = None
first_bad_end before last place (e ∷ es) =
    if nat_le before e.end && nat_le e.end last
    then first_bad_end e.end last (place + 8 * entry_size e) es else Some place

abbrev pub further : ℕ → Option ℕ → Option ℕ
further bits None = None
further bits (Some place) = Some (place + bits)

abbrev pub directory_place : AccessUnit → ℕ
directory_place u = 32 + 8 * major_size u.major

-- a rule on each entry, so many bits in it
abbrev pub each_entry : Field → ℕ → (AccessUnit → DirEntry → Bool) → Rule AccessUnit
each_entry field at holds =
    record { field = field; fails = λ u. further at (first_failing (holds u) (directory_place u) u.entries) }

-- a restart is absent exactly where there is no major sync
abbrev pub is_restart_flag : Bool → DirEntry → Bool
is_restart_flag major e = if major then not e.restart_absent else e.restart_absent

-- the sum of the half bytes, without carries
unfoldable pub half_byte_sum : List Bool → ℕ
half_byte_sum (a ∷ b ∷ c ∷ d ∷ bits) = bit_xor (number (a ∷ b ∷ c ∷ d ∷ [])) (half_byte_sum bits)
half_byte_sum bits = 0

-- it is this of a text, before whatever stands behind it
abbrev pub SumIs : List Bool → ℕ → Type 0
SumIs text n = (rest : List Bool) → half_byte_sum (text ++ rest) ≡ bit_xor n (half_byte_sum rest)

-- the major sync isn't in it
abbrev pub parity_of : UnitHead → List DirEntry → ℕ
parity_of h es = half_byte_sum (head.spelling h ++ (directory (length es)).spelling es)

-- in the order in which they are tried, each on every entry before the next
abbrev pub rules : Option MajorSync → List (Rule AccessUnit)
rules first =
    each_entry rule.ExtraWord 0 (λ u. may_stand (stream_kind (in_force first u.major))) ∷
    must rule.UnitParity (λ u. parity_of u.head u.entries == 0xF) ∷
    each_entry rule.RestartFlag 1 (λ u. is_restart_flag (is_some u.major)) ∷
    record {
      field = rule.DirectoryEnd;
      fails = λ u. further 4 (first_bad_end 0 (length u.body / 2) (directory_place u) u.entries);
    } ∷ []

-- a unit behind the stream's first major sync, or the first unit, where that is `None`
unfoldable pub access_unit : Option MajorSync → Layout AccessUnit
access_unit first = under (rules first) (parts first)
