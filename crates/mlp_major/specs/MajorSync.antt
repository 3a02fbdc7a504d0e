-- The major sync.
use Rattle.std.specs.Prelude.{◌≡◌, ℕ, ◌+◌, ◌*◌, ◌/◌, ◌%◌, ◌^◌, ◌<◌, ◌≤◌, ◌==◌, IsTrue, nat_le, nat_lt, ◌&&◌, ◌||◌, not, Bool, true, false, List, [], ◌∷◌, ◌++◌, Option, Some, None, option_map, if◌then◌else◌}
use Rattle.mlp_syntax.specs.declared.major.Kind.{Kind}
use Rattle.mlp_syntax.specs.declared.major.Kind.TheVariants as kind
use Rattle.mlp_syntax.specs.declared.major.FormatFbb.{FormatFbb}
use Rattle.mlp_syntax.specs.declared.major.FormatFba.{FormatFba}
use Rattle.mlp_syntax.specs.declared.major.FormatInfo.{FormatInfo}
use Rattle.mlp_syntax.specs.declared.major.FormatInfo.TheVariants as format
use Rattle.mlp_syntax.specs.declared.major.MajorSync.{MajorSync}
use Rattle.mlp_syntax.specs.declared.fault.Field.TheVariants as rule
use Rattle.mlp_major.specs.declared.reading.SignedSync.{SignedSync}
use Rattle.mlp_bits.specs.Checks.{modulus16, rem}
use Rattle.mlp_layout.specs.Layout.{Layout, Rule, number_of, seen, ruled, opening, whole, part, made, item}
use Rattle.mlp_layout.specs.Combined.{must_at, on, under, first_fault, flag, fixed, checked, chosen, times}

-- ---- format info

unfoldable pub fbb : Layout FormatFbb
fbb =
    part (number_of 4) (λ f. f.quant1) (λ quant1.
    part (number_of 4) (λ f. f.quant2) (λ quant2.
    part (number_of 4) (λ f. f.rate1) (λ rate1.
    part (number_of 4) (λ f. f.rate2) (λ rate2.
    part (number_of 11) (λ f. f.carried) (λ carried.
    part (number_of 5) (λ f. f.arrangement) (λ arrangement.
    made (record {
      quant1 = quant1;
      quant2 = quant2;
      rate1 = rate1;
      rate2 = rate2;
      carried = carried;
      arrangement = arrangement;
    })))))))

unfoldable pub fba : Layout FormatFba
fba =
    part (number_of 4) (λ f. f.rate) (λ rate.
    part (number_of 4) (λ f. f.carried) (λ carried.
    part (number_of 2) (λ f. f.mod2) (λ mod2.
    part (number_of 2) (λ f. f.mod6) (λ mod6.
    part (number_of 5) (λ f. f.assign6) (λ assign6.
    part (number_of 2) (λ f. f.mod8) (λ mod8.
    part (number_of 13) (λ f. f.assign8) (λ assign8.
    made (record {
      rate = rate;
      carried = carried;
      mod2 = mod2;
      mod6 = mod6;
      assign6 = assign6;
      mod8 = mod8;
      assign8 = assign8;
    }))))))))

abbrev fbb_of : FormatInfo → Option FormatFbb
fbb_of (format.Fbb f) = Some f
fbb_of (format.Fba f) = None

abbrev fba_of : FormatInfo → Option FormatFba
fba_of (format.Fbb f) = None
fba_of (format.Fba f) = Some f

unfoldable pub format_info : Kind → Layout FormatInfo
format_info kind.Fbb = seen format.Fbb fbb_of fbb
format_info kind.Fba = seen format.Fba fba_of fba

abbrev pub kind_of : FormatInfo → Kind
kind_of (format.Fbb f) = kind.Fbb
kind_of (format.Fba f) = kind.Fba

-- ---- the sync's first word, F8726FBA or F8726FBB

-- its first 31 bits
abbrev pub sync : ℕ
sync = 0x7C3937DD

abbrev pub kind_bit_of : Kind → ℕ
kind_bit_of kind.Fba = 0
kind_bit_of kind.Fbb = 1

unfoldable pub kind_bit : Layout Kind
kind_bit = seen (λ n. if n == 1 then kind.Fbb else kind.Fba) (λ k. Some (kind_bit_of k)) (number_of 1)

-- ---- the extension

abbrev pub is_fba : Kind → Bool
is_fba kind.Fba = true
is_fba kind.Fbb = false

-- is there an extension behind this channel meaning?
abbrev pub is_long : Kind → ℕ → Bool
is_long k meaning = is_fba k && (meaning % 2 == 1)

-- 2 + 2 * e bytes, e being the high half of the first
unfoldable pub extension : Bool → Layout (List ℕ)
extension long = chosen long
    (item (number_of 8) (λ byte. times (1 + 2 * (byte / 16)) (number_of 8)))
    (made [])

-- ---- the fields

unfoldable pub fields : Layout SignedSync
fields =
    fixed 31 sync rule.SyncKind
    (part kind_bit (λ s. kind_of s.major.format) (λ k.
    part (format_info k) (λ s. s.major.format) (λ format.
    part (number_of 16) (λ s. s.signature) (λ signature.
    part (number_of 16) (λ s. s.major.flags) (λ flags.
    part (number_of 16) (λ s. s.major.reserved) (λ reserved.
    part flag (λ s. s.major.variable) (λ variable.
    part (number_of 15) (λ s. s.major.peak) (λ peak.
    part (number_of 4) (λ s. s.major.substreams) (λ substreams.
    part (number_of 2) (λ s. s.major.carried) (λ carried.
    part (number_of 2) (λ s. s.major.extended) (λ extended.
    part (number_of 8) (λ s. s.major.info) (λ info.
    part (number_of 64) (λ s. s.major.meaning) (λ meaning.
    part (extension (is_long k meaning)) (λ s. s.major.extension.items) (λ extension.
    made (record {
      signature = signature;
      major = record {
        format = format;
        flags = flags;
        reserved = reserved;
        variable = variable;
        peak = peak;
        substreams = substreams;
        carried = carried;
        extended = extended;
        info = info;
        meaning = meaning;
        extension = record { items = extension };
      };
    })))))))))))))))

-- ---- the rules. Bits are counted from the sync's first, which is bit 32 of the unit

-- does it hold, in this kind?
abbrev pub in_fbb : (FormatFbb → Bool) → FormatInfo → Bool
in_fbb holds (format.Fbb f) = holds f
in_fbb holds (format.Fba f) = true

abbrev pub in_fba : (FormatFba → Bool) → FormatInfo → Bool
in_fba holds (format.Fbb f) = true
in_fba holds (format.Fba f) = holds f

abbrev pub is_rate : ℕ → Bool
is_rate code = not (code == 15) && nat_le (code % 8) 2

abbrev pub rate_of : FormatInfo → ℕ
rate_of (format.Fbb f) = f.rate1
rate_of (format.Fba f) = f.rate

-- 40 frames at 44100 and 48000 Hz, and twice as many at each doubling of the rate
abbrev pub unit_frames : MajorSync → ℕ
unit_frames m = 40 * 2 ^ (rate_of m.format % 8)

-- a code from 8 on is of the rates of 44100 Hz
abbrev pub rate_in_hertz : MajorSync → ℕ
rate_in_hertz m = (if nat_lt (rate_of m.format) 8 then 48000 else 44100) * 2 ^ (rate_of m.format % 8)

abbrev pub most_substreams : FormatInfo → ℕ
most_substreams (format.Fbb f) = 2
most_substreams (format.Fba f) = 4

-- what later units rely on
pub record IsUsable (m : MajorSync) : Type 0 where
  pub rate : IsTrue (is_rate (rate_of m.format))
  pub some : 0 < m.substreams
  pub few : m.substreams ≤ most_substreams m.format

-- first syncs behind which the same units may stand
pub record Alike (a b : MajorSync) : Type 0 where
  pub kind : kind_of a.format ≡ kind_of b.format
  pub rate : rate_of a.format ≡ rate_of b.format
  pub substreams : a.substreams ≡ b.substreams

-- are rate and number of substreams those of the stream's first sync?
abbrev pub is_unchanged : Option MajorSync → MajorSync → Bool
is_unchanged None m = true
is_unchanged (Some first) m = (rate_of m.format == rate_of first.format) && (m.substreams == first.substreams)

-- the rules in the order in which they are tried: those on the format info, and all
abbrev pub format_rules : List (Rule FormatInfo)
format_rules =
    must_at 32 rule.Rate (in_fba (λ f. is_rate f.rate)) ∷
    must_at 40 rule.Rate (in_fbb (λ f. is_rate f.rate1)) ∷
    must_at 32 rule.Quant (in_fbb (λ f. nat_le f.quant1 2)) ∷
    must_at 44 rule.GroupRate (in_fbb (λ f. (f.rate2 == 15) || (f.rate2 == f.rate1))) ∷ []

abbrev pub rules : Option MajorSync → List (Rule MajorSync)
rules first = on (λ m. m.format) format_rules ++ (
    must_at 128 rule.Substreams (λ m. nat_lt 0 m.substreams && nat_le m.substreams (most_substreams m.format)) ∷
    must_at 0 rule.SyncChanged (is_unchanged first) ∷ [])

abbrev pub signature : ℕ
signature = 0xB752

-- is the first word that of the stream's first sync?
abbrev pub is_same_kind : Option MajorSync → ℕ → Bool
is_same_kind None word = true
is_same_kind (Some first) word = word == 2 * sync + kind_bit_of (kind_of first.format)

-- is its kind that of the stream's first sync?
abbrev pub HasKindOf : Option MajorSync → MajorSync → Type 0
HasKindOf None m = Unit {0}
HasKindOf (Some first) m = kind_of m.format ≡ kind_of first.format

-- it has the kind of the stream's first sync, and no rule on its fields fails
pub record KeepsRules (first : Option MajorSync) (m : MajorSync) : Type 0 where
  pub kind : HasKindOf first m
  pub fields : first_fault (rules first) m ≡ None

-- the major sync of the stream that an extraction of presentation k makes: as many substreams as it keeps, and the
-- highest bit of the substream info, which marks object audio in the fourth substream, cleared
abbrev pub smaller : ℕ → MajorSync → MajorSync
smaller k m = record m { substreams = k + 1; info = m.info % 2 ^ 7 }

-- a major sync with its signature
abbrev pub with_signature : MajorSync → SignedSync
with_signature m = record { signature = signature; major = m }

-- the fields and the check over them; where they aren't all there the check fails too
unfoldable pub checked_sync : Layout SignedSync
checked_sync = whole rule.MajorCrc (checked 16 (rem modulus16) rule.MajorCrc fields)

-- then the rules: first the signature's
unfoldable pub judged_sync : Option MajorSync → Layout MajorSync
judged_sync first =
    under (rules first)
    (seen (λ s. s.major) (λ m. Some (with_signature m))
    (ruled (must_at 64 rule.Signature (λ s. s.signature == signature)) checked_sync))

-- a major sync, its kind being tried before all else; first is the stream's first sync, if this isn't it
unfoldable pub major_sync : Option MajorSync → Layout MajorSync
major_sync first = opening 32 rule.SyncKind (is_same_kind first) (judged_sync first)

-- ---- what an extraction makes of a major sync is one that fits, that later units can rely on and that keeps the
-- rules, where the whole one is

pub record NarrowsWell (k : ℕ) (m : MajorSync) : Type 0 where
  pub fits : (major_sync None).Fits m → (major_sync None).Fits (smaller k m)
  pub usable : IsUsable m → IsUsable (smaller k m)
  pub rules : (first : Option MajorSync) → KeepsRules first m
      → KeepsRules (option_map (smaller k) first) (smaller k m)
