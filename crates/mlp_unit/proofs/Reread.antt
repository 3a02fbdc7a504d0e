-- A unit that fits and meets the rules is the one that would be written.
use Rattle.std.proofs.Common.{◌≡◌, ℕ, zero, suc, ◌-◌, ◌*◌, ◌/◌, ◌%◌, ◌<◌, ◌≤◌, leb, eqb, cond, Bool, true, false, List, [], ◌∷◌, ◌++◌, length, take, Option, Some, None, refl, sym, ap, subst, ◌∙◌, arith}
use Rattle.std.proofs.lemmas.List.{length-append, take-append-le}
use Rattle.std.proofs.lemmas.Bool.{eqb-true, leb-true, le-leb}
use Rattle.std.specs.Prelude.{◌&&◌, bit_xor, is_some, IfSome}
use lib.Bits.{xor_assoc, xor_self, xor_comm}
use Rattle.mlp_syntax.specs.declared.major.FormatInfo.{FormatInfo}
use Rattle.mlp_syntax.specs.declared.major.FormatInfo.TheVariants as format
use Rattle.mlp_syntax.specs.declared.major.MajorSync.{MajorSync}
use Rattle.mlp_syntax.specs.declared.unit.DirEntry.{DirEntry}
use Rattle.mlp_syntax.specs.declared.unit.UnitHead.{UnitHead}
use Rattle.mlp_bits.specs.Bits.{bits, number}
use Rattle.mlp_layout.specs.Layout.{number_of, seen, ruled, tested, whole, part, made, item, marked, next_is, sized}
use Rattle.mlp_layout.specs.Combined.{chosen, present, times}
use Rattle.mlp_layout.proofs.CombinedLaws.{times_count}
use Rattle.mlp_major.specs.MajorSync.{major_sync, sync, most_substreams, is_unchanged, rate_of, KeepsRules}
use Rattle.mlp_layout.proofs.RuleReading.{rule_holds}
use Rattle.mlp_layout.proofs.Fitting.{Small}
use Rattle.mlp_major.proofs.RuleLaws.{met, both}
use Rattle.mlp_major.proofs.SyncRules.{keeps_rules, usable_of, unchanged_of}
use Rattle.mlp_major.proofs.SyncWriting.{fits_any, under_fits, under_text}
use Rattle.mlp_unit.specs.Directory.{directory, directory_size, entry, entry_size, may_stand}
use Rattle.mlp_unit.specs.AccessUnit.{AccessUnit, access_unit, head, head_fields, half_byte_sum, in_force, stream_kind, substreams_of, is_restart_flag, major_size, behind_sync, parts}
use Rattle.mlp_unit.specs.AccessUnit.{parity_of, further, first_bad_end, directory_place, rules}
use Rattle.mlp_unit.specs.Written.{MajorFits, CountFits, FirstUsable, MayFollow, Writable, unit_size, written_head, written_unit}
use Rattle.mlp_unit.proofs.UnitLaws.{access_unit_size, head_takes, entry_takes}
use Rattle.mlp_unit.proofs.WrittenLaws.{major_even, directory_even, no_sync, behind_first_bit, directory_first, directory_first_fits}
use Rattle.mlp_unit.proofs.RoundTrip.{head_sum, failing_any, ends_any}

-- ---- rules that are met

no_further : (bits : ℕ) (o : Option ℕ) → further bits o ≡ None → o ≡ None
no_further bits None e = refl
no_further bits (Some at) e = absurd cc

-- ---- how many substreams there are

most_small : (f : FormatInfo) → most_substreams f ≤ 4
most_small (format.Fbb f) = omega arith
most_small (format.Fba f) = omega arith

same_count : (first : Option MajorSync) (m : MajorSync) → is_unchanged first m ≡ true → substreams_of (in_force first (Some m)) ≡ m.substreams
same_count None m e = refl
same_count (Some f) m e = sym (eqb-true m.substreams f.substreams (both (eqb (rate_of m.format) (rate_of f.format)) (eqb m.substreams f.substreams) e).1)

major_fits_of : (there : Bool) (first o : Option MajorSync) → (present there (major_sync first)).Fits o → MajorFits o
unfolding present chosen seen made
major_fits_of true first None fits = absurd fits
major_fits_of true first (Some m) fits = fits_any first None m fits.0
major_fits_of false first None fits = tt
major_fits_of false first (Some m) fits = absurd cc

-- what is known of the number of entries
pub record Count (major : Option MajorSync) (n : ℕ) : Type 0 where
  pub some : 0 < n
  pub few : n ≤ 4
  pub count : CountFits major n

count_of : (first o : Option MajorSync) → (is_some o ≡ false → FirstUsable first) → IfSome o (KeepsRules first) → is_some (in_force first o) ≡ true → Count o (substreams_of (in_force first o))
count_of first (Some m) usable keeps there =
    let u = usable_of first m keeps in
    let same = same_count first m (unchanged_of first m keeps) in
    record { some = omega (arith, u.some, same); few = omega (arith, u.few, same, most_small m.format); count = same }
count_of (Some f) None usable keeps there = let u = usable refl in record { some = u.some; few = omega (arith, u.few, most_small f.format); count = tt }
count_of None None usable keeps there = absurd cc

sync_keeps : (first o : Option MajorSync) → MajorFits o → (present (is_some o) (major_sync first)).Meets o → IfSome o (KeepsRules first)
unfolding present chosen seen made
sync_keeps first None fits meets = tt
sync_keeps first (Some m) fits meets = keeps_rules first m fits meets

small_of : (n : ℕ) (bytes : List ℕ) → (times n (number_of 8)).Fits bytes → Small bytes
unfolding times made item number_of
small_of zero bytes fits i = rw fits (omega arith)
small_of (suc n) [] fits i = absurd fits
small_of (suc n) (b ∷ bs) fits zero = fits.0
small_of (suc n) (b ∷ bs) fits (suc i) = small_of n bs fits.1 i

abbrev unit_with_head : AccessUnit → UnitHead → AccessUnit
unit_with_head u h = record u { head = h }

abbrev written_words : AccessUnit → ℕ → UnitHead
written_words u words = written_head u.head.timing words u.entries

abbrev head_with : AccessUnit → ℕ → UnitHead
head_with u check = record { check = check; words = u.head.words; timing = u.head.timing }

zero_left : (n : ℕ) → bit_xor 0 n ≡ n
zero_left n = grind arith

no_text : (first o : Option MajorSync) → is_some o ≡ false → (present (is_some o) (major_sync first)).spelling o ≡ []
unfolding present chosen made
no_text first None e = refl
no_text first (Some m) e = absurd cc

-- an entry that a unit without a sync begins with doesn't look like one
not_like : (es : List DirEntry) (more : List Bool) → 0 < length es → (directory (length es)).Fits es
    → (4 ≤ directory_size es → next_is 31 sync ((directory (length es)).spelling es ++ more) ≡ false) → next_is 31 sync ((directory (length es)).spelling es) ≡ false
not_like [] more some fits mark = absurd (omega arith)
not_like (e ∷ es) more some fits mark = by_extra e.extra refl
  where
    by_extra : (o : Option ℕ) → e.extra ≡ o → next_is 31 sync ((directory (length (e ∷ es))).spelling (e ∷ es)) ≡ false
    by_extra None is =
        let b = behind_first_bit e in
        let t = b.0 ++ (directory (length es)).spelling es in
        let first : (directory (length (e ∷ es))).spelling (e ∷ es) ≡ false ∷ t = directory_first e es ∙ ap (λ (t : List Bool). t ++ (directory (length es)).spelling es) (b.1 ∙ ap (λ (o : Option ℕ). is_some o ∷ b.0) is) in
        ap (λ (t : List Bool). eqb (number (take 31 t)) sync) first ∙ no_sync t
    by_extra (Some x) is =
        let len = entry_takes.takes e (directory_first_fits e es fits) in
        let four : entry_size e ≡ 4 = ap (λ (o : Option ℕ). cond (is_some o) 4 2) is in
        let long : 31 ≤ length ((directory (length (e ∷ es))).spelling (e ∷ es)) =
        omega (arith, len, four, ap (λ (t : List Bool). length t) (directory_first e es), length-append (entry.spelling e) ((directory (length es)).spelling es)) in
        ap (λ (t : List Bool). eqb (number t) sync) (sym (take-append-le 31 ((directory (length (e ∷ es))).spelling (e ∷ es)) more long)) ∙ mark (omega (arith, four))

-- ---- a unit that fits and meets the rules

module _ (first : Option MajorSync) (u : AccessUnit) (usable : is_some u.major ≡ false → FirstUsable first) (fits-u : (access_unit first).Fits u) (meets-u : (access_unit first).Meets u) where
  pub record Parts : Type 0 where
    pub head_fits : (u.head.check < 16) × (u.head.words < 4096)
    pub timing : u.head.timing < 65536
    pub small : Small u.body
    pub asked : MayFollow first u.major u.entries
    pub two : 2 ≤ u.head.words
    pub major_fits : MajorFits u.major
    pub entries_fit : (directory (length u.entries)).Fits u.entries
    pub count : Count u.major (length u.entries)
    pub marks : is_some u.major ≡ (leb 4 u.head.words && next_is 31 sync ((present (is_some u.major) (major_sync first)).spelling u.major ++ (behind_sync first u.head u.major).spelling u))
    pub behind : (more : List Bool) × ((behind_sync first u.head u.major).spelling u ≡ (directory (length u.entries)).spelling u.entries ++ more)
    pub size : unit_size u.major u.entries u.body ≡ 2 * u.head.words
    pub parity : parity_of u.head u.entries ≡ 15
    pub ends : first_bad_end 0 (length u.body / 2) 0 u.entries ≡ None

  pub parts_of : Parts
  unfolding access_unit parts part sized marked behind_sync tested head head_fields ruled whole number_of directory made
  parts_of =
      let each = met (rules first) (parts first) u meets-u in
      let fits = under_fits (rules first) (parts first) u fits-u in
      let meets = each.0 in
      let two-words : 2 ≤ u.head.words = leb-true 2 u.head.words (rule_holds (leb 2 u.head.words) 4 meets.0.1) in
      let n = substreams_of (in_force first u.major) in
      let entries = fits.1.0.0.1.0 in
      let count : length u.entries ≡ n = times_count n _ u.entries entries in
      let more = (times (2 * u.head.words - 4 - major_size u.major - directory_size u.entries) (number_of 8)).spelling u.body ++ [] in
      let all = access_unit_size first u fits-u in
      let major = major_fits_of (is_some u.major) first u.major fits.1.0.0.0 in
      let keeps = sync_keeps first u.major major meets.1.0 in
      let front = head_takes.takes u.head fits.0 in
      record {
        head_fits = (fits.0.0, fits.0.1.0);
        timing = fits.0.1.1.0;
        small = small_of _ u.body fits.1.0.0.1.1.0;
        asked = record {
          sync = keeps;
          count = sym count;
          extra = failing_any (may_stand (stream_kind (in_force first u.major))) (directory_place u) 0 u.entries (no_further 0 _ each.1.0);
          flags = failing_any (is_restart_flag (is_some u.major)) (directory_place u) 0 u.entries (no_further 1 _ each.1.1.1.0);
        };
        two = two-words;
        major_fits = major;
        entries_fit = subst (λ (k : ℕ). (directory k).Fits u.entries) (sym count) entries;
        count = subst (Count u.major) (sym count) (count_of first u.major usable keeps meets.1.1.0);
        marks = fits.1.0.1;
        behind = (more, ap (λ (k : ℕ). (directory k).spelling u.entries ++ more) (sym count));
        size = omega (
          arith,
          all,
          front,
          fits.1.1,
          two-words,
          ap (λ (t : List Bool). length t) (under_text (rules first) (parts first) u),
          length-append
              (head.spelling u.head) ((present (is_some u.major) (major_sync first)).spelling u.major ++ (behind_sync first u.head u.major).spelling u),
        );
        parity = eqb-true _ _ (rule_holds (eqb (parity_of u.head u.entries) 15) 0 each.1.1.0);
        ends = ends_any 0 (length u.body / 2) (directory_place u) 0 u.entries (no_further 4 _ each.1.1.1.1.0);
      }

  pub small_size : unit_size u.major u.entries u.body ≤ 8190
  small_size = omega (arith, parts_of.size, parts_of.head_fits)

  body_even : length u.body % 2 ≡ 0
  body_even = omega (arith, parts_of.size, major_even u.major parts_of.major_fits, directory_even u.entries)

  unlike : is_some u.major ≡ false → next_is 31 sync ((directory (length u.entries)).spelling u.entries) ≡ false
  unlike none =
      let p = parts_of in
      let d = (directory (length u.entries)).spelling u.entries in
      let text : (present (is_some u.major) (major_sync first)).spelling u.major ++ (behind_sync first u.head u.major).spelling u ≡ d ++ p.behind.0 =
      ap (λ (t : List Bool). t ++ (behind_sync first u.head u.major).spelling u) (no_text first u.major none) ∙ p.behind.1 in
      let marks = p.marks ∙ ap (λ (t : List Bool). leb 4 u.head.words && next_is 31 sync t) text in
      not_like u.entries p.behind.0 p.count.some p.entries_fit (λ big.
      let room : leb 4 u.head.words ≡ true = le-leb _ _ (omega (arith, big, p.size)) in
      sym (ap (λ (b : Bool). b && next_is 31 sync (d ++ p.behind.0)) room) ∙ sym marks ∙ none)

  -- ---- the head

  words_are : unit_size u.major u.entries u.body / 2 ≡ u.head.words
  words_are = omega (arith, parts_of.size)

  check_is : (written_head u.head.timing u.head.words u.entries).check ≡ u.head.check
  check_is =
      let s = half_byte_sum (bits 12 u.head.words ++ (bits 16 u.head.timing ++ (directory (length u.entries)).spelling u.entries)) in
      let words = parts_of.head_fits.1 in
      let check : u.head.check % 16 ≡ u.head.check = omega (arith, parts_of.head_fits) in
      let plain : parity_of (record { check = 0; words = u.head.words; timing = u.head.timing }) u.entries ≡ s = head_sum 0 u.head.words u.head.timing u.entries words ∙ zero_left s in
      let whole : bit_xor u.head.check s ≡ 15 = ap (λ (n : ℕ). bit_xor n s) (sym check) ∙ sym (head_sum u.head.check u.head.words u.head.timing u.entries words) ∙ parts_of.parity in
      ap (λ (n : ℕ). bit_xor n 15) plain ∙ ap (bit_xor s) (sym whole ∙ xor_comm u.head.check s) ∙ sym (xor_assoc s s u.head.check) ∙ ap (λ (n : ℕ). bit_xor n u.head.check) (xor_self s) ∙ zero_left u.head.check

  pub rewritten : written_unit u.head.timing u.major u.entries u.body ≡ u
  rewritten = ap (unit_with_head u) (ap (written_words u) words_are ∙ ap (head_with u) check_is)

  pub writable : Writable u.major u.entries u.body
  writable = record {
    major_fits = parts_of.major_fits;
    entries_fit = parts_of.entries_fit;
    some = parts_of.count.some;
    few = parts_of.count.few;
    count = parts_of.count.count;
    whole_words = body_even;
    ends = parts_of.ends;
    unlike = unlike;
  }
