-- What is written is read back, and what is read is what would be written.
use Rattle.std.proofs.Common.{◌≡◌, ℕ, ◌+◌, ◌*◌, ◌/◌, ◌%◌, ◌<◌, ◌≤◌, leb, cond, Bool, true, false, List, [], ◌∷◌, ◌++◌, length, Option, Some, None, Ok, refl, sym, ap, subst, ◌∙◌, append_assoc, arith}
use Rattle.std.proofs.lemmas.List.{take_all}
use Rattle.std.specs.Prelude.{◌&&◌, bit_xor, is_some}
use lib.Bits.{xor_lt, xor_assoc, xor_self, xor_zero_r, xor_comm}
use Rattle.mlp_syntax.specs.declared.major.MajorSync.{MajorSync}
use Rattle.mlp_syntax.specs.declared.unit.DirEntry.{DirEntry}
use Rattle.mlp_bits.specs.Bits.{bits}
use Rattle.mlp_layout.specs.Combined.{first_fault}
use Rattle.mlp_unit.specs.Directory.{directory, entry_size, first_failing, may_stand}
use Rattle.mlp_unit.specs.AccessUnit.{AccessUnit, access_unit, head, half_byte_sum, in_force, stream_kind, parity_of, rules, first_bad_end, directory_place, is_restart_flag}
use Rattle.mlp_unit.specs.Written.{Writable, unit_size, written_head, written_unit}
use Rattle.mlp_unit.proofs.UnitLaws.{access_unit_is}
use Rattle.mlp_unit.proofs.ParityLaws.{four_bits}
use Rattle.mlp_unit.proofs.DirectoryRules.{faults_are}
use Rattle.mlp_unit.proofs.WordTexts.{bits-join, head_text}
use Rattle.mlp_unit.proofs.WrittenLaws.{half_small, twice}

-- ---- a unit is read back from its spelling

pub read_back : (first : Option MajorSync) (u : AccessUnit) → (access_unit first).Fits u → (access_unit first).Meets u → (access_unit first).read ((access_unit first).spelling u) 0 ≡ Ok (u, length ((access_unit first).spelling u))
read_back first u fits meets =
    let text = (access_unit first).spelling u in
    let end : 0 + length text ≡ length text = omega arith in
    subst (λ (q : ℕ). (access_unit first).read text 0 ≡ Ok (u, q)) end
    ((access_unit_is first).found text 0 u (record { fits = fits; meets = meets; stands = record { within = omega arith; text_is = take_all (length text) text (omega arith) } }))

-- ---- the parity of what is written

fifteen : (s : ℕ) → s < 16 → bit_xor (bit_xor s 15 % 16) s ≡ 15
fifteen s lt =
    let small : bit_xor s 15 < 16 = xor_lt 4 s 15 lt (omega arith) in
    let same : bit_xor s 15 % 16 ≡ bit_xor s 15 = omega (arith, small) in
    ap (λ (n : ℕ). bit_xor n s) (same ∙ xor_comm s 15) ∙ xor_assoc 15 s s ∙ ap (bit_xor 15) (xor_self s) ∙ xor_zero_r 15

pub head_sum : (check words timing : ℕ) (es : List DirEntry) → words < 4096 → parity_of (record { check = check; words = words; timing = timing }) es
    ≡ bit_xor (check % 16) (half_byte_sum (bits 12 words ++ (bits 16 timing ++ (directory (length es)).spelling es)))
head_sum check words timing es lt =
    let d = (directory (length es)).spelling es in
    let text : head.spelling (record { check = check; words = words; timing = timing }) ++ d ≡ bits 4 check ++ (bits 12 words ++ (bits 16 timing ++ d)) =
    ap (λ (t : List Bool). t ++ d) (head_text check words timing lt ∙ ap (λ (t : List Bool). t ++ bits 16 timing) (bits-join 4 12 check words lt)) ∙ simp append_assoc in
    ap half_byte_sum text ∙ four_bits check (bits 12 words ++ (bits 16 timing ++ d))

zero_left : (n : ℕ) → bit_xor 0 n ≡ n
zero_left n = grind arith

pub written_parity : (timing words : ℕ) (es : List DirEntry) → words < 4096 → parity_of (written_head timing words es) es ≡ 15
written_parity timing words es lt =
    let s = half_byte_sum (bits 12 words ++ (bits 16 timing ++ (directory (length es)).spelling es)) in
    let plain : parity_of (record { check = 0; words = words; timing = timing }) es ≡ s = head_sum 0 words timing es lt ∙ zero_left s in
    head_sum (written_head timing words es).check words timing es lt ∙ ap (λ (n : ℕ). bit_xor (bit_xor n 15 % 16) s) plain ∙ fifteen s (half_small (bits 12 words ++ (bits 16 timing ++ (directory (length es)).spelling es)))

-- ---- rules on entries, wherever the directory stands

pub failing_any : (holds : DirEntry → Bool) (p q : ℕ) (es : List DirEntry) → first_failing holds p es ≡ None → first_failing holds q es ≡ None
failing_any holds p q [] e = refl
failing_any holds p q (x ∷ es) e = by_case (λ k. failing_any holds (p + 8 * entry_size x) (q + 8 * entry_size x) es k) (holds x) refl e
  where
    by_case : (first_failing holds (p + 8 * entry_size x) es ≡ None → first_failing holds (q + 8 * entry_size x) es ≡ None) → (b : Bool) → holds x ≡ b
        → cond {A = Option ℕ} b (first_failing holds (p + 8 * entry_size x) es) (Some p) ≡ None → cond {A = Option ℕ} (holds x) (first_failing holds (q + 8 * entry_size x) es) (Some q) ≡ None
    by_case later true is e = rw is (later e)
    by_case later false is e = absurd cc

pub ends_any : (before last p q : ℕ) (es : List DirEntry) → first_bad_end before last p es ≡ None → first_bad_end before last q es ≡ None
ends_any before last p q [] e = refl
ends_any before last p q (x ∷ es) e = by_case (λ k. ends_any x.end last (p + 8 * entry_size x) (q + 8 * entry_size x) es k) (leb before x.end && leb x.end last) refl e
  where
    by_case : (first_bad_end x.end last (p + 8 * entry_size x) es ≡ None → first_bad_end x.end last (q + 8 * entry_size x) es ≡ None) → (b : Bool) → (leb before x.end && leb x.end last) ≡ b
        → cond {A = Option ℕ} b (first_bad_end x.end last (p + 8 * entry_size x) es) (Some p) ≡ None → cond {A = Option ℕ} (leb before x.end && leb x.end last) (first_bad_end x.end last (q + 8 * entry_size x) es) (Some q) ≡ None
    by_case later true is e = rw is (later e)
    by_case later false is e = absurd cc

-- of the rules on a directory two are left to the writer
pub written_rules : (first : Option MajorSync) (timing : ℕ) (major : Option MajorSync) (entries : List DirEntry) (body : List ℕ) → Writable major entries body → unit_size major entries body ≤ 8190
    → first_failing (may_stand (stream_kind (in_force first major))) 0 entries ≡ None → first_failing (is_restart_flag (is_some major)) 0 entries ≡ None → first_fault (rules first) (written_unit timing major entries body) ≡ None
written_rules first timing major entries body w size extra flag =
    let u = written_unit timing major entries body in
    let place = directory_place u in
    let even = twice major entries body w in
    faults_are first u None 15 None None
    (sym (failing_any (may_stand (stream_kind (in_force first major))) 0 place entries extra))
    (sym (written_parity timing (unit_size major entries body / 2) entries (omega (arith, size, even))))
    (sym (failing_any (is_restart_flag (is_some major)) 0 place entries flag))
    (sym (ends_any 0 (length body / 2) 0 place entries w.ends))
