-- How a major sync is read at a place among bytes.
use Rattle.std.proofs.Common.{◌≡◌, ℕ, ◌+◌, ◌-◌, ◌*◌, ◌/◌, ◌%◌, ◌≤◌, eqb, Bool, true, false, List, ◌++◌, length, take, drop, Ok, Err, Option, Some, None, refl, sym, ap, subst, ◌∙◌, arith}
use Rattle.std.proofs.lemmas.List.{take-append-drop, take_at, take_all, length-take, length-drop}
use Rattle.mlp_syntax.specs.declared.fault.Broken.{Broken}
use Rattle.mlp_syntax.specs.declared.fault.Field.TheVariants as rule
use Rattle.mlp_bits.specs.Bits.{bits_of, number}
use Rattle.mlp_bits.specs.Checks.{modulus16, rem, check16_of}
use Rattle.mlp_bits.specs.Cursor.{Cursor}
use Rattle.mlp_bits.proofs.BitLists.{length-bits_of}
use Rattle.mlp_bits.proofs.Words.{bits_of-drop, bits_of-append}
use Rattle.mlp_layout.specs.Reading.{broken}
use Rattle.mlp_layout.specs.Layout.{Layout, number_of, seen, ruled, opening, whole, part, made}
use Rattle.mlp_layout.specs.Combined.{must_at, fixed, checked, first_fault}
use Rattle.mlp_layout.proofs.LayoutLaws.{is_found}
use Rattle.mlp_layout.proofs.RuleReading.{under_err, under_ok, under_fails}
use Rattle.mlp_syntax.specs.declared.major.MajorSync.{MajorSync}
use Rattle.mlp_major.specs.declared.reading.SignedSync.{SignedSync}
use Rattle.mlp_major.specs.MajorSync.{fields, checked_sync, judged_sync, major_sync, is_same_kind, rules, signature}
use Rattle.mlp_major.proofs.MajorLaws.{fields_is, fields_take, major_is, major_takes}

-- the bits of the first bytes
pub bits_of-take : (n : ℕ) (bytes : List ℕ) → n ≤ length bytes → take (8 * n) (bits_of bytes) ≡ bits_of (take n bytes)
bits_of-take n bytes le =
    let whole : take n bytes ++ drop n bytes ≡ bytes = take-append-drop n bytes in
    let split : bits_of (take n bytes) ++ bits_of (drop n bytes) ≡ bits_of bytes = sym (bits_of-append (take n bytes) (drop n bytes)) ∙ ap bits_of whole in
    let len : length (bits_of (take n bytes)) ≡ 8 * n = omega (arith, length-bits_of (take n bytes), length-take n bytes) in
    rw (← split) (take_at (bits_of (take n bytes)) (bits_of (drop n bytes)) (8 * n) len)

-- the bits of some bytes in the middle
pub bits_of-middle : (m n : ℕ) (bytes : List ℕ) → m + n ≤ length bytes → take (8 * n) (drop (8 * m) (bits_of bytes)) ≡ bits_of (take n (drop m bytes))
bits_of-middle m n bytes le = rw (bits_of-drop bytes m) (bits_of-take n (drop m bytes) (omega (arith, length-drop m bytes)))

-- what was read of the fields, and the check of the bytes that they take
pub record Fields (bytes : List ℕ) (p : ℕ) (s : SignedSync) (q : ℕ) : Type 0 where
  pub whole_bytes : q % 8 ≡ 0
  pub within : q / 8 ≤ length bytes
  pub after : p ≤ q
  pub check : rem modulus16 (fields.spelling s) ≡ check16_of (take (q / 8 - p / 8) (drop (p / 8) bytes))

pub fields_read : (bytes : List ℕ) (p : ℕ) (s : SignedSync) (q : ℕ) → p % 8 ≡ 0 → p ≤ length (bits_of bytes) → fields.read (bits_of bytes) p ≡ Ok (s, q) → Fields bytes p s q
fields_read bytes p s q aligned le e =
    let f = is_found fields_is (bits_of bytes) p le (s, q) e in
    let len = fields_take.takes s f.0.fits in
    let p-is : 8 * (p / 8) ≡ p = omega arith in
    let q-is : length (fields.spelling s) ≡ 8 * (q / 8 - p / 8) = omega (arith, len, f.1) in
    let within : p / 8 + (q / 8 - p / 8) ≤ length bytes = omega (arith, f.0.stands.within, f.1, length-bits_of bytes) in
    let text : fields.spelling s ≡ take (8 * (q / 8 - p / 8)) (drop (8 * (p / 8)) (bits_of bytes)) = rw p-is (sym f.0.stands.text_is ∙ ap (λ (n : ℕ). take n (drop p (bits_of bytes))) q-is) in
    record {
      whole_bytes = omega (arith, len, f.1);
      within = omega (arith, within, f.1);
      after = omega (arith, f.1);
      check = ap (rem modulus16) (text ∙ bits_of-middle (p / 8) (q / 8 - p / 8) bytes within);
    }

module _ (all : List Bool) (p : ℕ) (s : SignedSync) (q : ℕ) (h : fields.read all p ≡ Ok (s, q)) where
  pub check_good : (n m : ℕ) → (number_of 16).read all q ≡ Ok (n, m) → n ≡ rem modulus16 (fields.spelling s) → checked_sync.read all p ≡ Ok (s, m)
  unfolding checked_sync whole checked part fixed ruled made
  check_good n m k same = let t : eqb n (rem modulus16 (fields.spelling s)) ≡ true = rw (← same) (eqb-refl n) in rw (h, k, t) refl
    where
      eqb-refl : (n : ℕ) → eqb n n ≡ true
      eqb-refl n = grind arith

  pub check_bad : (n m : ℕ) → (number_of 16).read all q ≡ Ok (n, m) → (n ≡ rem modulus16 (fields.spelling s) → ⊥) → checked_sync.read all p ≡ Err (broken rule.MajorCrc p)
  unfolding checked_sync whole checked part fixed ruled made
  check_bad n m k differ = let t : eqb n (rem modulus16 (fields.spelling s)) ≡ false = grind arith in rw (h, k, t) refl

  pub check_short : (e : Broken) → (number_of 16).read all q ≡ Err e → checked_sync.read all p ≡ Err (broken rule.MajorCrc p)
  unfolding checked_sync whole checked part fixed ruled made
  check_short e k = rw (h, k) refl

pub fields_short : (all : List Bool) (p : ℕ) (e : Broken) → fields.read all p ≡ Err e → checked_sync.read all p ≡ Err (broken rule.MajorCrc p)
unfolding checked_sync whole checked part
fields_short all p e h = rw h refl

-- ---- as the code reads

module _ (bytes : List ℕ) (r : Cursor) (same : r.all ≡ bits_of bytes) (aligned : r.place % 8 ≡ 0) (inside : r.place ≤ length r.all)
    (s : SignedSync) (b : Cursor) (h : fields.read r.all r.place ≡ Ok (s, b.place)) (kept : b.all ≡ r.all) where
  pub code_fields : Fields bytes r.place s b.place
  code_fields = fields_read bytes r.place s b.place aligned (subst (λ (all : List Bool). r.place ≤ length all) same inside) (subst (λ (all : List Bool). fields.read all r.place ≡ Ok (s, b.place)) same h)

  pub code_short : (e : Broken) → (number_of 16).read b.all b.place ≡ Err e → checked_sync.read r.all r.place ≡ Err (broken rule.MajorCrc r.place)
  code_short e k = check_short r.all r.place s b.place h e (subst (λ (all : List Bool). (number_of 16).read all b.place ≡ Err e) kept k)

  pub code_bad : (n m : ℕ) → (number_of 16).read b.all b.place ≡ Ok (n, m) → (n ≡ check16_of (take (b.place / 8 - r.place / 8) (drop (r.place / 8) bytes)) → ⊥)
      → checked_sync.read r.all r.place ≡ Err (broken rule.MajorCrc r.place)
  code_bad n m k differ = check_bad r.all r.place s b.place h n m (subst (λ (all : List Bool). (number_of 16).read all b.place ≡ Ok (n, m)) kept k) (λ e. differ (e ∙ code_fields.check))

  pub code_good : (n m : ℕ) → (number_of 16).read b.all b.place ≡ Ok (n, m) → n ≡ check16_of (take (b.place / 8 - r.place / 8) (drop (r.place / 8) bytes)) → checked_sync.read r.all r.place ≡ Ok (s, m)
  code_good n m k good = check_good r.all r.place s b.place h n m (subst (λ (all : List Bool). (number_of 16).read all b.place ≡ Ok (n, m)) kept k) (good ∙ sym code_fields.check)

-- the check of the bytes between two places
pub check_is : {check : ℕ} (bytes : List ℕ) (at end p q : ℕ) → check ≡ check16_of (take (end / 8 - at / 8) (drop (at / 8) bytes)) → at ≡ p → end ≡ q → check ≡ check16_of (take (q / 8 - p / 8) (drop (p / 8) bytes))
check_is bytes at end p q e one two = e ∙ ap (λ (n : ℕ). check16_of (take (end / 8 - n / 8) (drop (n / 8) bytes))) one ∙ ap (λ (n : ℕ). check16_of (take (n / 8 - p / 8) (drop (p / 8) bytes))) two

-- ---- the rules

abbrev some : {A : Type 0} → A → Option A
some x = Some x

-- the sync without its signature
unfoldable plain : Layout MajorSync
plain = seen (λ s. s.major) (λ m. some (record { signature = signature; major = m })) (ruled (must_at 64 rule.Signature (λ s. eqb s.signature signature)) checked_sync)

module _ (all : List Bool) (p : ℕ) where
  plain_err : (e : Broken) → checked_sync.read all p ≡ Err e → plain.read all p ≡ Err e
  unfolding plain seen ruled
  plain_err e h = rw h refl

  plain_bad : (s : SignedSync) (q : ℕ) → checked_sync.read all p ≡ Ok (s, q) → (s.signature ≡ signature → ⊥) → plain.read all p ≡ Err (broken rule.Signature (p + 64))
  unfolding plain seen ruled
  plain_bad s q h differ = let t : eqb s.signature signature ≡ false = grind arith in rw (h, t) refl

  plain_ok : (s : SignedSync) (q : ℕ) → checked_sync.read all p ≡ Ok (s, q) → s.signature ≡ signature → plain.read all p ≡ Ok (s.major, q)
  unfolding plain seen ruled
  plain_ok s q h same = let t : eqb s.signature signature ≡ true = rw same refl in rw (h, t) refl

module _ (first : Option MajorSync) (all : List Bool) (p : ℕ) where
  pub judged_err : (e : Broken) → checked_sync.read all p ≡ Err e → (judged_sync first).read all p ≡ Err e
  unfolding judged_sync plain
  judged_err e h = under_err all p (rules first) plain e (plain_err all p e h)

  module _ (s : SignedSync) (q : ℕ) (h : checked_sync.read all p ≡ Ok (s, q)) where
    pub judged_bad : (s.signature ≡ signature → ⊥) → (judged_sync first).read all p ≡ Err (broken rule.Signature (p + 64))
    unfolding judged_sync plain
    judged_bad differ = under_err all p (rules first) plain _ (plain_bad all p s q h differ)

    pub judged_fails : (b : Broken) → s.signature ≡ signature → first_fault (rules first) s.major ≡ Some (b.field, b.bit) → (judged_sync first).read all p ≡ Err (broken b.field (p + b.bit))
    unfolding judged_sync plain
    judged_fails b same bad = under_fails all p (rules first) plain s.major q b.field b.bit (plain_ok all p s q h same) bad

    pub judged_ok : s.signature ≡ signature → first_fault (rules first) s.major ≡ None → (judged_sync first).read all p ≡ Ok (s.major, q)
    unfolding judged_sync plain
    judged_ok same ok = under_ok all p (rules first) plain s.major q (plain_ok all p s q h same) ok

-- ---- the whole

-- a sync ends where a byte ends
pub sync_whole : (first : Option MajorSync) (all : List Bool) (p : ℕ) (m : MajorSync) (q : ℕ) → p % 8 ≡ 0 → p ≤ length all → (major_sync first).read all p ≡ Ok (m, q) → q % 8 ≡ 0
sync_whole first all p m q aligned le h =
    let f = is_found (major_is first) all p le (m, q) h in
    omega (arith, f.1, (major_takes first).takes m f.0.fits)

-- the first bits of the bytes from a place on
pub bits_at : (w n : ℕ) (bytes : List ℕ) (r : Cursor) (at : ℕ) → r.all ≡ bits_of bytes → r.place % 8 ≡ 0 → at ≡ r.place
    → n ≡ number (take w (bits_of (take (length bytes - at / 8) (drop (at / 8) bytes)))) → n ≡ number (take w (drop r.place r.all))
bits_at w n bytes r at same aligned is e =
    let p-is : 8 * (at / 8) ≡ r.place = omega arith in
    let all : take (length bytes - at / 8) (drop (at / 8) bytes) ≡ drop (at / 8) bytes = take_all (length bytes - at / 8) (drop (at / 8) bytes) (omega (arith, length-drop (at / 8) bytes)) in
    e ∙ rw (all, same, ← p-is, bits_of-drop bytes (at / 8)) refl

module _ (first : Option MajorSync) (all : List Bool) (p : ℕ) where
  pub other_kind : is_same_kind first (number (take 32 (drop p all))) ≡ false → (major_sync first).read all p ≡ Err (broken rule.SyncKind p)
  unfolding major_sync opening
  other_kind e = rw e refl

  pub same_kind : is_same_kind first (number (take 32 (drop p all))) ≡ true → (major_sync first).read all p ≡ (judged_sync first).read all p
  unfolding major_sync opening
  same_kind e = rw e refl
