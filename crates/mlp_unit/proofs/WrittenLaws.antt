-- What is written is a unit of the layout.
use Rattle.std.proofs.Common.{◌≡◌, cond, ℕ, zero, suc, ◌+◌, ◌-◌, ◌*◌, ◌/◌, ◌%◌, ◌^◌, ◌<◌, ◌≤◌, leb, eqb, Bool, true, false, List, [], ◌∷◌, ◌++◌, length, take, Option, Some, None, refl, sym, ap, subst, ◌∙◌, append_assoc, arith}
use Rattle.std.proofs.lemmas.Bool.{le-leb, ne_eqb}
use Rattle.std.proofs.lemmas.List.{append-nil, length-append, take-append-le}
use Rattle.std.specs.Prelude.{◌&&◌, is_some}
use lib.Bits.{xor_lt}
use Rattle.mlp_syntax.specs.declared.major.MajorSync.{MajorSync}
use Rattle.mlp_syntax.specs.declared.unit.DirEntry.{DirEntry}
use Rattle.mlp_syntax.specs.declared.unit.UnitHead.{UnitHead}
use Rattle.mlp_bits.specs.Bits.{bits, bits_of, number}
use Rattle.mlp_bits.proofs.BitLists.{length-bits_of}
use Rattle.mlp_bits.proofs.Fields.{number-take, number-below}
use Rattle.mlp_layout.specs.Layout.{Layout, number_of, seen, ruled, tested, whole, part, made, item, marked, next_is, sized}
use Rattle.mlp_layout.specs.Combined.{flag, chosen, present, times}
use Rattle.mlp_major.specs.MajorSync.{major_sync, sync}
use Rattle.mlp_major.proofs.SyncWriting.{fits_any, sync_text, sync_length, sync_even, sync_begins, fits_under, under_text}
use Rattle.mlp_unit.specs.Directory.{entry, entry_size, directory, directory_size}
use Rattle.mlp_unit.specs.AccessUnit.{half_byte_sum, access_unit, head, head_fields, in_force, substreams_of, major_size, behind_sync, parts, rules}
use Rattle.mlp_unit.specs.Written.{MajorFits, major_text, Writable, unit_size, written_head, written_unit}
use Rattle.mlp_unit.proofs.UnitLaws.{directory_takes, entry_takes}
use Rattle.mlp_layout.proofs.Fitting.{Small, times_fit}
use Rattle.mlp_unit.proofs.WordTexts.{head_text}

-- ---- bytes

pub bytes_text : (n : ℕ) (bytes : List ℕ) → length bytes ≡ n → (times n (number_of 8)).spelling bytes ≡ bits_of bytes
unfolding times made item number_of bits_of
bytes_text zero [] e = refl
bytes_text zero (b ∷ bs) e = absurd (omega arith)
bytes_text (suc n) [] e = absurd (omega arith)
bytes_text (suc n) (b ∷ bs) e = ap (λ (t : List Bool). bits 8 b ++ t) (bytes_text n bs (omega arith))

-- ---- the major sync, if any

pub major_there : (first major : Option MajorSync) → MajorFits major → (present (is_some major) (major_sync first)).Fits major
unfolding present chosen seen made
major_there first None fits = refl
major_there first (Some m) fits = (fits_any None first m fits, refl)

pub major_spelled : (first major : Option MajorSync) → (present (is_some major) (major_sync first)).spelling major ≡ major_text major
unfolding present chosen seen made
major_spelled first None = refl
major_spelled first (Some m) = sync_text first m ∙ sym (sync_text None m)

pub major_bits : (major : Option MajorSync) → MajorFits major → length (major_text major) ≡ 8 * major_size major
major_bits None fits = refl
major_bits (Some m) fits = sync_length None m fits

pub major_even : (major : Option MajorSync) → MajorFits major → major_size major % 2 ≡ 0
major_even None fits = refl
major_even (Some m) fits = omega (arith, sync_even None m fits)

entry_even : (o : Option ℕ) → (cond (is_some o) 4 2) % 2 ≡ 0
entry_even None = refl
entry_even (Some x) = refl

pub directory_even : (es : List DirEntry) → directory_size es % 2 ≡ 0
directory_even [] = refl
directory_even (e ∷ es) = let later = directory_even es in omega (arith, later, entry_even e.extra)

-- ---- an entry doesn't look like a sync

pub no_sync : (t : List Bool) → eqb (number (take 31 (false ∷ t))) sync ≡ false
unfolding number
no_sync t =
    let small : number (take 30 t) < 2 ^ 30 = number-take 30 t in
    ne_eqb _ _ (λ e. omega (arith, small, e))

flag_text : (b : Bool) → flag.spelling b ≡ b ∷ []
unfolding flag seen number_of bits
flag_text true = refl
flag_text false = refl

begins_with : {A R : Type 0} (l : Layout A) (of_record : R → A) (rest : A → Layout R) (r : R) (b : Bool) → l.spelling (of_record r) ≡ b ∷ [] → (t : List Bool) × ((part l of_record rest).spelling r ≡ b ∷ t)
unfolding part
begins_with l of_record rest r b h = ((rest (of_record r)).spelling r, ap (λ (t : List Bool). t ++ (rest (of_record r)).spelling r) h)

-- an entry's first bit says whether it has an extra word
pub behind_first_bit : (e : DirEntry) → (t : List Bool) × (entry.spelling e ≡ is_some e.extra ∷ t)
unfolding entry
behind_first_bit e = begins_with flag _ _ e (is_some e.extra) (flag_text (is_some e.extra))

pub directory_first : (e : DirEntry) (es : List DirEntry) → (directory (length (e ∷ es))).spelling (e ∷ es) ≡ entry.spelling e ++ (directory (length es)).spelling es
unfolding directory times item whole
directory_first e es = refl

pub directory_first_fits : (e : DirEntry) (es : List DirEntry) → (directory (length (e ∷ es))).Fits (e ∷ es) → entry.Fits e
unfolding directory times item whole
directory_first_fits e es fits = fits.0

pub unlike_still : (es : List DirEntry) (more : List Bool) → 0 < length es → (directory (length es)).Fits es
    → next_is 31 sync ((directory (length es)).spelling es) ≡ false → next_is 31 sync ((directory (length es)).spelling es ++ more) ≡ false
unlike_still [] more some fits unlike = absurd (omega arith)
unlike_still (e ∷ es) more some fits unlike = by_extra e.extra refl
  where
    text : List Bool
    text = (directory (length (e ∷ es))).spelling (e ∷ es)

    by_extra : (o : Option ℕ) → e.extra ≡ o → next_is 31 sync ((directory (length (e ∷ es))).spelling (e ∷ es) ++ more) ≡ false
    by_extra None is =
        let b = behind_first_bit e in
        let t = b.0 ++ (directory (length es)).spelling es ++ more in
        let first : (directory (length (e ∷ es))).spelling (e ∷ es) ++ more ≡ false ∷ t = ap (λ (t : List Bool). t ++ more) (directory_first e es
        ∙ ap (λ (t : List Bool). t ++ (directory (length es)).spelling es) (b.1 ∙ ap (λ (o : Option ℕ). is_some o ∷ b.0) is)) in
        ap (λ (t : List Bool). eqb (number (take 31 t)) sync) first ∙ no_sync t
    by_extra (Some x) is =
        let len = entry_takes.takes e (directory_first_fits e es fits) in
        let four : entry_size e ≡ 4 = ap (λ (o : Option ℕ). cond (is_some o) 4 2) is in
        let long : 31 ≤ length ((directory (length (e ∷ es))).spelling (e ∷ es)) =
        omega (arith, len, four, ap (λ (t : List Bool). length t) (directory_first e es), length-append (entry.spelling e) ((directory (length es)).spelling es)) in
        ap (λ (t : List Bool). eqb (number t) sync) (take-append-le 31 ((directory (length (e ∷ es))).spelling (e ∷ es)) more long) ∙ unlike

-- ---- the parity

pub half_small : (t : List Bool) → half_byte_sum t < 16
unfolding half_byte_sum
half_small [] = omega arith
half_small (a ∷ []) = omega arith
half_small (a ∷ b ∷ []) = omega arith
half_small (a ∷ b ∷ c ∷ []) = omega arith
half_small (a ∷ b ∷ c ∷ d ∷ t) = xor_lt 4 (number (a ∷ b ∷ c ∷ d ∷ [])) (half_byte_sum t) (number-below (a ∷ b ∷ c ∷ d ∷ [])) (half_small t)

-- ---- the unit

-- what stands behind the head
abbrev pub text_behind : Option MajorSync → List DirEntry → List ℕ → List Bool
text_behind major entries body = major_text major ++ ((directory (length entries)).spelling entries ++ bits_of body)

-- a sync is seen there exactly where one is
marked_right : (entries : List DirEntry) (body : List ℕ) (major : Option MajorSync) → Writable major entries body → is_some major ≡ (leb 4 (unit_size major entries body / 2) && next_is 31 sync (text_behind major entries body))
marked_right entries body None w = sym (ap (λ (b : Bool). leb 4 (unit_size None entries body / 2) && b) (unlike_still entries (bits_of body) w.some w.entries_fit (w.unlike refl)) ∙ none (leb 4 (unit_size None entries body / 2)))
  where
    none : (b : Bool) → (b && false) ≡ false
    none true = refl
    none false = refl
marked_right entries body (Some m) w =
    let room : leb 4 (unit_size (Some m) entries body / 2) ≡ true = le-leb _ _ (omega arith) in
    sym (ap (λ (b : Bool). b && next_is 31 sync (text_behind (Some m) entries body)) room ∙ ap (λ (n : ℕ). eqb n sync) (sync_begins None m ((directory (length entries)).spelling entries ++ bits_of body) w.major_fits))

pub twice : (major : Option MajorSync) (entries : List DirEntry) (body : List ℕ) → Writable major entries body → 2 * (unit_size major entries body / 2) ≡ unit_size major entries body
twice major entries body w = omega (arith, major_even major w.major_fits, directory_even entries, w.whole_words)

module _ (first : Option MajorSync) (timing : ℕ) (major : Option MajorSync) (entries : List DirEntry) (body : List ℕ) (w : Writable major entries body) (count : substreams_of (in_force first major) ≡ length entries) where
  behind_text : (h : UnitHead) → h.words ≡ unit_size major entries body / 2 → (behind_sync first h major).spelling (written_unit timing major entries body) ≡ (directory (length entries)).spelling entries ++ bits_of body
  unfolding behind_sync tested part made
  behind_text h words =
      let n = 2 * h.words - 4 - major_size major - directory_size entries in
      rw (count, bytes_text n body (omega (arith, words, twice major entries body w)), append-nil (bits_of body)) refl

  rest_text : (h : UnitHead) → h.words ≡ unit_size major entries body / 2 → (present (is_some major) (major_sync first)).spelling major ++
      (behind_sync first h major).spelling (written_unit timing major entries body) ≡ text_behind major entries body
  rest_text h words = ap (λ (t : List Bool). t ++ (behind_sync first h major).spelling (written_unit timing major entries body)) (major_spelled first major) ∙ ap (λ (t : List Bool). major_text major ++ t) (behind_text h words)

  rest_bits : length (text_behind major entries body) ≡ 16 * (unit_size major entries body / 2) - 32
  rest_bits = omega (
    arith,
    twice major entries body w,
    major_bits major w.major_fits,
    (directory_takes (length entries)).takes entries w.entries_fit,
    length-bits_of body,
    length-append
        (major_text major) ((directory (length entries)).spelling entries ++ bits_of body),
    length-append ((directory (length entries)).spelling entries) (bits_of body),
  )

  pub unit_text : (access_unit first).spelling (written_unit timing major entries body) ≡ head.spelling (written_head timing (unit_size major entries body / 2) entries) ++ text_behind major entries body
  unfolding access_unit parts sized marked part
  unit_text = under_text (rules first) _ (written_unit timing major entries body)
      ∙ ap (λ (t : List Bool). head.spelling (written_head timing (unit_size major entries body / 2) entries) ++ t) (rest_text (written_head timing (unit_size major entries body / 2) entries) refl)

  -- as the code puts it together
  pub put_together : (word : ℕ) (a b c d e : List Bool) → unit_size major entries body ≤ 8190 → word ≡ (written_head timing (unit_size major entries body / 2) entries).check * 4096 + unit_size major entries body / 2
      → a ≡ bits 16 word → b ≡ a ++ bits 16 timing → c ≡ b ++ major_text major → d ≡ c ++ (directory (length entries)).spelling entries
      → e ≡ d ++ bits_of body → e ≡ (access_unit first).spelling (written_unit timing major entries body)
  put_together word a b c d e size word-is a-is b-is c-is d-is e-is =
      let h = written_head timing (unit_size major entries body / 2) entries in
      let front : head.spelling h ≡ bits 16 word ++ bits 16 timing =
      head_text h.check (unit_size major entries body / 2) timing (omega (arith, twice major entries body w)) ∙ ap (λ (n : ℕ). bits 16 n ++ bits 16 timing) (sym word-is) in
      rw (e-is, d-is, c-is, b-is, a-is, unit_text, front) (simp append_assoc)

  module _ (clock : timing < 65536) (small : Small body) (size : unit_size major entries body ≤ 8190) where
    head_fits : head.Fits (written_head timing (unit_size major entries body / 2) entries)
    unfolding head head_fields ruled whole part made number_of
    head_fits = (xor_lt 4 _ 15 (half_small _) (omega arith), (omega (arith, twice major entries body w), (clock, refl)))

    behind_fits : (behind_sync first (written_head timing (unit_size major entries body / 2) entries) major).Fits (written_unit timing major entries body)
    unfolding behind_sync tested part made
    behind_fits =
        let n = 2 * (unit_size major entries body / 2) - 4 - major_size major - directory_size entries in
        (subst (λ (k : ℕ). (directory k).Fits entries) (sym count) w.entries_fit, (times_fit n body (omega (arith, twice major entries body w)) small, refl))

    pub unit_fits : (access_unit first).Fits (written_unit timing major entries body)
    unfolding access_unit parts sized marked part
    unit_fits =
        let h = written_head timing (unit_size major entries body / 2) entries in
        let text = rest_text h refl in
        let mark = marked_right entries body major w ∙ ap (λ (t : List Bool). leb 4 (unit_size major entries body / 2) && next_is 31 sync t) (sym text) in
        fits_under (rules first) _ (written_unit timing major entries body) (head_fits, (((major_there first major w.major_fits, behind_fits), mark), ap (λ (t : List Bool). length t) text ∙ rest_bits))
