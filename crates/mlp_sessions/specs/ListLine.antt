-- The line of an access unit, as its outer part shows it.
use Rattle.std.specs.Prelude.{ℕ, ◌-◌, ◌*◌, List, [], ◌++◌, length, Option, Some, None, codes, decimal}
use Rattle.std.specs.List.{flat_map}
use Rattle.mlp_syntax.specs.declared.major.Kind.{Kind}
use Rattle.mlp_syntax.specs.declared.major.Kind.TheVariants.{Fbb, Fba}
use Rattle.mlp_syntax.specs.declared.major.MajorSync.{MajorSync}
use Rattle.mlp_syntax.specs.declared.unit.DirEntry.{DirEntry}
use Rattle.mlp_major.specs.MajorSync.{kind_of, rate_in_hertz}
use Rattle.mlp_unit.specs.AccessUnit.{AccessUnit}
use Rattle.mlp_unit.specs.Shape.{end_before}

abbrev pub kind_name : Kind → List ℕ
kind_name Fbb = codes "mlp"
kind_name Fba = codes "truehd"

-- what the unit's own major sync tells: the kind, the sampling rate in hertz and the number of substreams
abbrev pub sync_text : Option MajorSync → List ℕ
sync_text None = []
sync_text (Some m) =
    codes " sync " ++ kind_name (kind_of m.format) ++ codes " " ++ decimal (rate_in_hertz m)
    ++ codes " substreams " ++ decimal m.substreams

-- where a segment ends, in words from the directory's end
abbrev pub end_text : DirEntry → List ℕ
end_text e = codes " " ++ decimal e.end

abbrev pub ends_text : List DirEntry → List ℕ
ends_text entries = flat_map end_text entries

-- the bytes of extra data, which stand behind the last segment
abbrev pub extra_bytes : AccessUnit → ℕ
extra_bytes u = length u.body - 2 * end_before u.entries (length u.entries)

-- of the unit of this number, counted from 0: its length in bytes, its input timing, its major sync, the ends of its
-- segments and its extra data
abbrev pub unit_line : ℕ → AccessUnit → List ℕ
unit_line number u =
    codes "unit " ++ decimal number ++ codes " bytes " ++ decimal (2 * u.head.words)
    ++ codes " time " ++ decimal u.head.timing ++ sync_text u.major
    ++ codes " ends" ++ ends_text u.entries ++ codes " extra " ++ decimal (extra_bytes u) ++ codes "\n"
