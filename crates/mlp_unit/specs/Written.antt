-- The unit that is written for a timing, a major sync, entries and a body.
use Rattle.std.specs.Prelude.{◌≡◌, ℕ, ◌+◌, ◌/◌, ◌%◌, ◌<◌, ◌≤◌, Bool, false, List, [], ◌++◌, length, Option, Some, None, is_some, IfSome, bit_xor}
use Rattle.mlp_syntax.specs.declared.major.MajorSync.{MajorSync}
use Rattle.mlp_syntax.specs.declared.unit.DirEntry.{DirEntry}
use Rattle.mlp_syntax.specs.declared.unit.UnitHead.{UnitHead}
use Rattle.mlp_bits.specs.Bits.{bits_of}
use Rattle.mlp_layout.specs.Layout.{next_is}
use Rattle.mlp_major.specs.MajorSync.{major_sync, sync, IsUsable, KeepsRules}
use Rattle.mlp_unit.specs.Directory.{directory, directory_size, first_failing, may_stand}
use Rattle.mlp_unit.specs.AccessUnit.{AccessUnit, access_unit, head, in_force, substreams_of, stream_kind, major_size, is_restart_flag, parity_of, first_bad_end}

abbrev pub MajorFits : Option MajorSync → Type 0
MajorFits None = Unit {0}
MajorFits (Some m) = (major_sync None).Fits m

abbrev pub major_text : Option MajorSync → List Bool
major_text None = []
major_text (Some m) = (major_sync None).spelling m

-- the text of a unit: head, major sync, directory, and the segments and what follows them
abbrev pub unit_text : AccessUnit → List Bool
unit_text u = head.spelling u.head
    ++ (major_text u.major ++ ((directory (length u.entries)).spelling u.entries ++ bits_of u.body))

-- the entries are as many as a major sync tells
abbrev pub CountFits : Option MajorSync → ℕ → Type 0
CountFits None count = Unit {0}
CountFits (Some m) count = count ≡ m.substreams

-- the stream's first major sync, if there is one yet, met the rules on it
abbrev pub FirstUsable : Option MajorSync → Type 0
FirstUsable None = Unit {0}
FirstUsable (Some first) = IsUsable first

-- these can be a unit's
pub record Writable (major : Option MajorSync) (entries : List DirEntry) (body : List ℕ) : Type 0 where
  pub major_fits : MajorFits major
  pub entries_fit : (directory (length entries)).Fits entries
  pub some : 0 < length entries
  pub few : length entries ≤ 4
  pub count : CountFits major (length entries)
  pub whole_words : length body % 2 ≡ 0
  -- the ends don't fall and lie within the body
  pub ends : first_bad_end 0 (length body / 2) 0 entries ≡ None
  -- an entry doesn't look like a major sync
  pub unlike : is_some major ≡ false → next_is 31 sync ((directory (length entries)).spelling entries) ≡ false

-- what the units before it, of which the first had this sync, ask of a unit's major sync and entries
pub record MayFollow (first major : Option MajorSync) (entries : List DirEntry) : Type 0 where
  pub sync : IfSome major (KeepsRules first)
  pub count : substreams_of (in_force first major) ≡ length entries
  -- only TrueHD has extra words
  pub extra : first_failing (may_stand (stream_kind (in_force first major))) 0 entries ≡ None
  -- a restart is absent exactly where there is no major sync
  pub flags : first_failing (is_restart_flag (is_some major)) 0 entries ≡ None

-- how many bytes the unit has
abbrev pub unit_size : Option MajorSync → List DirEntry → List ℕ → ℕ
unit_size major entries body = 4 + major_size major + directory_size entries + length body

-- the check nibble makes the parity 0xF
abbrev pub written_head : ℕ → ℕ → List DirEntry → UnitHead
written_head timing words entries = record {
  check = bit_xor (parity_of (record { check = 0; words = words; timing = timing }) entries) 0xF;
  words = words;
  timing = timing;
}

abbrev pub written_unit : ℕ → Option MajorSync → List DirEntry → List ℕ → AccessUnit
written_unit timing major entries body = record {
  head = written_head timing (unit_size major entries body / 2) entries;
  major = major;
  entries = entries;
  body = body;
}

-- behind each first sync that tells as many substreams these bytes are the unit's
abbrev pub SpellsUnit : AccessUnit → List ℕ → Type 0
SpellsUnit u bytes =
    (first : Option MajorSync) → substreams_of (in_force first u.major) ≡ length u.entries
    → (access_unit first).Fits u × (bits_of bytes ≡ (access_unit first).spelling u)
