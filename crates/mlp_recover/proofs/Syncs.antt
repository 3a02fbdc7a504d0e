-- Where an interval begins a sync stands.
use Rattle.std.proofs.Common.{◌≡◌, ◌≢◌, ℕ, ◌+◌, ◌*◌, ◌/◌, ◌%◌, ◌≤◌, ◌&&◌, leb, eqb, Bool, true, false, List, [], ◌∷◌, ◌++◌, length, take, drop, Option, Some, None, refl, sym, ap, ◌∙◌, arith, append_assoc, length-drop}
use Rattle.std.specs.Prelude.{is_some}
use Rattle.std.proofs.lemmas.Bool.{le-leb, eq-eqb}
use Rattle.std.proofs.lemmas.List.{drop-drop, drop_at, take-append-drop}
use Rattle.mlp_syntax.specs.declared.major.MajorSync.{MajorSync}
use Rattle.mlp_bits.specs.Bits.{bits, bits_of, number}
use Rattle.mlp_bits.proofs.Words.{bits_of-drop, word-number}
use Rattle.mlp_bits.proofs.BitLists.{length-bits_of}
use Rattle.mlp_layout.specs.Layout.{Found, tested, part, marked, next_is, sized}
use Rattle.mlp_layout.specs.Streams.{IsNext, Begins}
use Rattle.mlp_major.specs.MajorSync.{major_sync, sync}
use Rattle.mlp_major.proofs.RuleLaws.{met}
use Rattle.mlp_major.proofs.SyncWriting.{sync_begins, under_fits}
use Rattle.mlp_unit.specs.AccessUnit.{AccessUnit, access_unit, head, major_size, behind_sync, parts, rules}
use Rattle.mlp_unit.specs.Directory.{directory}
use Rattle.mlp_unit.specs.Written.{MajorFits, major_text}
use Rattle.mlp_unit.proofs.UnitLaws.{access_unit_size, head_takes}
use Rattle.mlp_unit.proofs.UnitRules.{fits_text}
use Rattle.mlp_unit.proofs.Reread.{parts_of}
use Rattle.mlp_contents.specs.Units.{Unit_of, start, whole}
use Rattle.mlp_recover.specs.Interval.{Interval, NoneAt}
use Rattle.mlp_recover.specs.Sync.{has_sync_at}
use Rattle.mlp_recover.specs.Reading.{NoFirst}
use Rattle.mlp_recover.proofs.Intervals.{interval_some, interval_taken}

-- ---- a first unit

module _ (all : List Bool) (u : AccessUnit) (found : Found (access_unit None) all 0 u) where
  pub first_major : is_some u.major ≡ true
  unfolding access_unit parts part sized marked behind_sync tested
  first_major = (met (rules None) (parts None) u found.meets).0.1.1.0

  head_long : length (head.spelling u.head) ≡ 32
  unfolding access_unit parts part
  head_long = head_takes.takes u.head (under_fits (rules None) (parts None) u found.fits).0

  major_long : (o : Option MajorSync) → is_some o ≡ true → 28 ≤ major_size o
  major_long None e = absurd cc
  major_long (Some m) e = omega arith

  pub first_long : 64 ≤ length all
  first_long = omega (arith, access_unit_size None u found.fits, found.stands.within, major_long u.major first_major)

  behind_head : drop 32 all ≡ (major_text u.major ++ ((directory (length u.entries)).spelling u.entries ++ bits_of u.body)) ++ drop (length ((access_unit None).spelling u)) all
  behind_head =
      let n = length ((access_unit None).spelling u) in
      let behind = major_text u.major ++ ((directory (length u.entries)).spelling u.entries ++ bits_of u.body) in
      let text : take n all ≡ head.spelling u.head ++ behind = found.stands.text_is ∙ fits_text None u found.fits in
      let whole : all ≡ head.spelling u.head ++ (behind ++ drop n all) =
      sym (take-append-drop n all) ∙ ap (λ (t : List Bool). t ++ drop n all) text ∙ append_assoc (head.spelling u.head) behind (drop n all) in
      ap (drop 32) whole ∙ drop_at (head.spelling u.head) (behind ++ drop n all) 32 head_long

  looks_by : (o : Option MajorSync) (d rest : List Bool) → is_some o ≡ true → MajorFits o → number (take 31 ((major_text o ++ d) ++ rest)) ≡ sync
  looks_by None d rest e fits = absurd cc
  looks_by (Some m) d rest e fits =
      ap (λ (t : List Bool). number (take 31 t)) (append_assoc ((major_sync None).spelling m) d rest) ∙ sync_begins None m (d ++ rest) fits

  pub first_looks : next_is 31 sync (drop 32 all) ≡ true
  first_looks =
      let p = parts_of None u (λ none. tt) found.fits found.meets in
      let is = looks_by u.major ((directory (length u.entries)).spelling u.entries ++ bits_of u.body) (drop (length ((access_unit None).spelling u)) all) first_major p.major_fits in
      eq-eqb (number (take 31 (drop 32 all))) sync (ap (λ (t : List Bool). number (take 31 t)) behind_head ∙ is)

-- the first unit of a stream
pub first_found : (k : ℕ) (all : List Bool) (u : Unit_of) → IsNext (whole k) (start k) all u → Found (access_unit None) all 0 u.outer
unfolding tested
first_found k all u next = record { fits = next.outer.fits; meets = next.outer.meets.1; stands = next.outer.stands }

-- ---- at a place of the bytes

behind_place : (bytes : List ℕ) (place : ℕ) → drop (8 * place + 32) (bits_of bytes) ≡ drop 32 (bits_of (drop place bytes))
behind_place bytes place = sym (drop-drop 32 (8 * place) (bits_of bytes)) ∙ ap (drop 32) (bits_of-drop bytes place)

sync_there : (bytes : List ℕ) (place : ℕ) → place + 8 ≤ length bytes → next_is 31 sync (drop 32 (bits_of (drop place bytes))) ≡ true → has_sync_at bytes place ≡ true
sync_there bytes place le looks =
    let room : leb (place + 8) (length bytes) ≡ true = le-leb _ _ le in
    ap (λ (b : Bool). b && next_is 31 sync (drop (8 * place + 32) (bits_of bytes))) room ∙ ap (next_is 31 sync) (behind_place bytes place) ∙ looks

-- what a word of eight bytes says
pub word_says : (bytes : List ℕ) (place word : ℕ) → place + 8 ≤ length bytes → drop (8 * place) (bits_of bytes) ≡ bits 64 word ++ drop (8 * place + 64) (bits_of bytes)
    → eqb (word / 2 % 2147483648) 2084124637 ≡ has_sync_at bytes place
word_says bytes place word le e =
    let room : leb (place + 8) (length bytes) ≡ true = le-leb _ _ le in
    let part = word-number (bits_of bytes) (drop (8 * place + 64) (bits_of bytes)) (8 * place) 32 31 word e (omega arith) in
    let one : word / 2 / 1 ≡ word / 2 = omega arith in
    let value : word / 2 % 2147483648 ≡ number (take 31 (drop (8 * place + 32) (bits_of bytes))) = ap (λ (n : ℕ). n % 2147483648) (sym one) ∙ part in
    ap (λ (n : ℕ). eqb n 2084124637) value ∙ sym (ap (λ (b : Bool). b && next_is 31 sync (drop (8 * place + 32) (bits_of bytes))) room)

module _ (k : ℕ) (bytes : List ℕ) (first : ℕ) where
  length_from : (length (bits_of (drop first bytes)) ≡ 8 * length (drop first bytes))
  length_from = length-bits_of (drop first bytes)

  -- the first unit of what begins there
  pub first_of_units : (us : List Unit_of) (rest : List Bool) → Begins (whole k) (start k) (bits_of (drop first bytes)) us rest → us ≢ []
      → (u : Unit_of) × (more : List Unit_of) × (us ≡ u ∷ more) × Found (access_unit None) (bits_of (drop first bytes)) 0 u.outer
  unfolding Begins
  first_of_units [] rest b some = absurd (some refl)
  first_of_units (u ∷ more) rest b some = (u, more, refl, first_found k (bits_of (drop first bytes)) u b.0)

  first_of_interval : (past : ℕ) (us : List Unit_of) → Interval k bytes first past us → (u : AccessUnit) × Found (access_unit None) (bits_of (drop first bytes)) 0 u
  first_of_interval past us i =
      let one = first_of_units us (bits_of (drop past bytes)) (interval_taken k bytes first past us i).begins (interval_some k bytes first past us i) in
      (one.0.outer, one.3)

  pub none_without_first : NoFirst (drop first bytes) → NoneAt k bytes first
  none_without_first none past us i = let one = first_of_interval past us i in none one.0 one.1

  pub none_without_sync : has_sync_at bytes first ≡ false → NoneAt k bytes first
  none_without_sync lacks past us i =
      let one = first_of_interval past us i in
      let long = first_long (bits_of (drop first bytes)) one.0 one.1 in
      let room : first + 8 ≤ length bytes = omega (arith, long, length_from, length-drop first bytes) in
      let there = sync_there bytes first room (first_looks (bits_of (drop first bytes)) one.0 one.1) in
      cc
