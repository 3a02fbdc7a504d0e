-- The directory: an entry for each substream.
use Rattle.std.specs.Prelude.{ℕ, ◌+◌, ◌*◌, Bool, List, [], ◌∷◌, Option, Some, None, is_some, not, ◌||◌, if◌then◌else◌}
use Rattle.mlp_syntax.specs.declared.major.Kind.{Kind}
use Rattle.mlp_syntax.specs.declared.unit.DirEntry.{DirEntry}
use Rattle.mlp_syntax.specs.declared.fault.Field.TheVariants as rule
use Rattle.mlp_layout.specs.Layout.{Layout, Rule, number_of, whole, part, made}
use Rattle.mlp_layout.specs.Combined.{under, flag, present, times}
use Rattle.mlp_major.specs.MajorSync.{is_fba}

unfoldable pub entry : Layout DirEntry
entry =
    part flag (λ e. is_some e.extra) (λ there.
    part flag (λ e. e.restart_absent) (λ restart_absent.
    part flag (λ e. e.checked) (λ checked.
    part flag (λ e. e.reserved) (λ reserved.
    part (number_of 12) (λ e. e.end) (λ end.
    part (present there (number_of 16)) (λ e. e.extra) (λ extra.
    made (record {
      extra = extra;
      restart_absent = restart_absent;
      checked = checked;
      reserved = reserved;
      end = end;
    })))))))

-- the bits of an extra word, where one is there
abbrev pub extra_bits : Option ℕ → List Bool
extra_bits o = (present (is_some o) (number_of 16)).spelling o

-- so many entries
unfoldable pub directory : ℕ → Layout (List DirEntry)
directory substreams = times substreams (whole rule.DirectoryShort entry)

-- ---- sizes in bytes

abbrev pub entry_size : DirEntry → ℕ
entry_size e = if is_some e.extra then 4 else 2

abbrev pub directory_size : List DirEntry → ℕ
directory_size [] = 0
directory_size (e ∷ es) = entry_size e + directory_size es

-- ---- the rule on extra words

-- the place of the first entry of which this doesn't hold, where the directory begins at this place
abbrev pub first_failing : (DirEntry → Bool) → ℕ → List DirEntry → Option ℕ
first_failing holds place [] = None
first_failing holds place (e ∷ es) = if holds e then first_failing holds (place + 8 * entry_size e) es else Some place

-- only TrueHD has extra words
abbrev pub may_stand : Kind → DirEntry → Bool
may_stand k e = is_fba k || not (is_some e.extra)

abbrev pub no_extra_word : Kind → Rule (List DirEntry)
no_extra_word k = record { field = rule.ExtraWord; fails = first_failing (may_stand k) 0 }

-- a directory by itself, whose places are counted from its first bit
unfoldable pub lone_directory : Kind → ℕ → Layout (List DirEntry)
lone_directory k substreams = under (no_extra_word k ∷ []) (directory substreams)
