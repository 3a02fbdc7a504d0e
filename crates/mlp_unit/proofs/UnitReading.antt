-- How a unit is read, part by part.
use Rattle.std.proofs.Common.{◌≡◌, ℕ, zero, suc, ◌+◌, ◌-◌, ◌*◌, ◌/◌, ◌≤◌, ◌<◌, leb, eqb, true, false, cond, Bool, List, [], ◌∷◌, length, get_or, take, drop, Option, Result, Ok, Err, refl, sym, ap, subst, ◌∙◌, arith, inl, inr}
use Rattle.std.proofs.lemmas.Bool.{cases_lt, le-leb, lt-leb, leb-true}
use Rattle.std.proofs.lemmas.List.{take_all, take_at, drop_more, length-drop}
use Rattle.std.specs.Prelude.{◌&&◌, is_some}
use Rattle.mlp_syntax.specs.declared.fault.Broken.{Broken}
use Rattle.mlp_syntax.specs.declared.fault.Field.TheVariants as rule
use Rattle.mlp_syntax.specs.declared.major.MajorSync.{MajorSync}
use Rattle.mlp_syntax.specs.declared.unit.DirEntry.{DirEntry}
use Rattle.mlp_syntax.specs.declared.unit.UnitHead.{UnitHead}
use Rattle.mlp_bits.specs.Bits.{bits, bits_of, number}
use Rattle.mlp_bits.specs.Cursor.{Cursor, left, moved}
use Rattle.mlp_bits.proofs.BitLists.{length-bits, length-bits_of, bits_of-cons}
use Rattle.mlp_bits.proofs.ReadBack.{number-of}
use Rattle.mlp_bits.proofs.Words.{bits_of-drop}
use Rattle.mlp_layout.specs.Reading.{Read, ◌>>=◌, broken, number_at}
use Rattle.mlp_layout.specs.Layout.{number_of, ruled, whole, tested, part, made, item, marked, next_is, sized}
use Rattle.mlp_layout.specs.Combined.{present, times}
use Rattle.mlp_layout.proofs.LayoutLaws.{is_found}
use Rattle.mlp_layout.proofs.RuleReading.{rule_holds}
use Rattle.mlp_layout.proofs.CombinedLaws.{present_is}
use Rattle.mlp_major.specs.MajorSync.{major_sync, sync}
use Rattle.mlp_major.proofs.MajorLaws.{major_is}
use Rattle.mlp_major.proofs.SyncReading.{bits_at}
use Rattle.mlp_unit.specs.Directory.{directory, directory_size}
use Rattle.mlp_unit.specs.AccessUnit.{AccessUnit, head, head_fields, in_force, substreams_of, major_size, behind_sync, parts}
use Rattle.mlp_unit.specs.Frame.{framed, frame_of}
use Rattle.mlp_unit.proofs.UnitLaws.{head_is, directory_is, directory_takes, sync_takes}
use Rattle.mlp_unit.proofs.HeadReading.{head_found}

-- ---- bytes

abbrev byte_ok : ℕ × ℕ → Read ℕ
byte_ok x = Ok x

byte_read : (bytes : List ℕ) (at : ℕ) → ((i : ℕ) → get_or bytes i 0 < 256) → at < length bytes → (number_of 8).read (bits_of bytes) (8 * at) ≡ Ok (get_or bytes at 0, 8 * (at + 1))
unfolding number_of number_at
byte_read bytes at small lt =
    let there : leb (8 * at + 8) (length (bits_of bytes)) ≡ true = le-leb _ _ (omega (arith, length-bits_of bytes)) in
    let b = get_or bytes at 0 in
    let text : take 8 (drop (8 * at) (bits_of bytes)) ≡ bits 8 b = rw (bits_of-drop bytes at, drop_more bytes at 0 lt, bits_of-cons b (drop (at + 1) bytes)) (take_at (bits 8 b) (bits_of (drop (at + 1) bytes)) 8 (length-bits 8 b)) in
    let end : 8 * at + 8 ≡ 8 * (at + 1) = omega arith in
    rw (there, text, number-of 8 b (small at)) (ap (λ (q : ℕ). byte_ok (b, q)) end)

abbrev bytes_ok : List ℕ → ℕ → Read (List ℕ)
bytes_ok bytes q = Ok (bytes, q)

pub bytes_read : (n : ℕ) (bytes : List ℕ) (at : ℕ) → ((i : ℕ) → get_or bytes i 0 < 256) → at + n ≤ length bytes → (times n (number_of 8)).read (bits_of bytes) (8 * at) ≡ Ok (take n (drop at bytes), 8 * (at + n))
unfolding times made item
bytes_read zero bytes at small le = ap (bytes_ok []) (let e : 8 * at ≡ 8 * (at + 0) = omega arith in e)
bytes_read (suc n) bytes at small le =
    let one = byte_read bytes at small (omega arith) in
    let later = bytes_read n bytes (at + 1) small (omega arith) in
    let more : take (suc n) (drop at bytes) ≡ get_or bytes at 0 ∷ take n (drop (at + 1) bytes) = rw (drop_more bytes at 0 (omega arith)) refl in
    let end : 8 * (at + 1 + n) ≡ 8 * (at + suc n) = omega arith in
    rw (one, later, more) (ap (bytes_ok (get_or bytes at 0 ∷ take n (drop (at + 1) bytes))) end)

-- ---- what follows the major sync

module _ (first : Option MajorSync) (h : UnitHead) (m : Option MajorSync) (all : List Bool) (p : ℕ) where
  pub behind_none : is_some (in_force first m) ≡ false → (behind_sync first h m).read all p ≡ Err (broken rule.FirstSync p)
  unfolding behind_sync tested
  behind_none e = rw e refl

  module _ (there : is_some (in_force first m) ≡ true) where
    pub behind_err : (e : Broken) → (directory (substreams_of (in_force first m))).read all p ≡ Err e → (behind_sync first h m).read all p ≡ Err e
    unfolding behind_sync tested part
    behind_err e k = rw (there, k) refl

    pub behind_read : (es : List DirEntry) (q : ℕ) (body : List ℕ) (end : ℕ) → (directory (substreams_of (in_force first m))).read all p ≡ Ok (es, q)
        → (times (2 * h.words - 4 - major_size m - directory_size es) (number_of 8)).read all q ≡ Ok (body, end)
        → (behind_sync first h m).read all p ≡ Ok (record { head = h; major = m; entries = es; body = body }, end)
    unfolding behind_sync tested part made
    behind_read es q body end k l = rw (there, k, l) refl

-- where a directory ends
pub directory_ends : (n : ℕ) (all : List Bool) (p : ℕ) (es : List DirEntry) (q : ℕ) → p ≤ length all → (directory n).read all p ≡ Ok (es, q) → (q ≡ p + 8 * directory_size es) × (q ≤ length all)
directory_ends n all p es q le e =
    let f = is_found (directory_is n) all p le (es, q) e in
    let len = (directory_takes n).takes es f.0.fits in
    (omega (arith, f.1, len), omega (arith, f.1, f.0.stands.within))

unit_ok : AccessUnit → ℕ → Read AccessUnit
unit_ok u q = Ok (u, q)

module _ (first : Option MajorSync) (h : UnitHead) (m : Option MajorSync) (bytes : List ℕ) (r : Cursor) (same : r.all ≡ bits_of bytes) (place : r.place ≡ 32 + 8 * major_size m)
    (inside : r.place ≤ length r.all) (size : length bytes ≡ 2 * h.words) (small : (i : ℕ) → get_or bytes i 0 < 256) where
  -- where the body begins
  pub body_at : (n : ℕ) (es : List DirEntry) (b : Cursor) → (directory n).read r.all r.place ≡ Ok (es, b.place) → b.place / 8 ≡ 4 + major_size m + directory_size es
  body_at n es b k = omega (arith, directory_ends n r.all r.place es b.place inside k)

  pub behind_ok : (es : List DirEntry) (b : Cursor) → is_some (in_force first m) ≡ true → (directory (substreams_of (in_force first m))).read r.all r.place ≡ Ok (es, b.place)
      → (behind_sync first h m).read r.all r.place ≡ Ok (record { head = h; major = m; entries = es; body = drop (b.place / 8) bytes }, 8 * length bytes)
  unfolding unit_ok
  behind_ok es b there k =
      let ends = directory_ends (substreams_of (in_force first m)) r.all r.place es b.place inside k in
      let at : b.place / 8 ≡ 4 + major_size m + directory_size es = body_at _ es b k in
      let within : b.place ≤ 8 * length bytes = omega (arith, ends, ap length same, length-bits_of bytes) in
      let n = 2 * h.words - 4 - major_size m - directory_size es in
      let full : b.place / 8 + n ≡ length bytes = omega (arith, at, within, size) in
      let place-is : 8 * (b.place / 8) ≡ b.place = omega (arith, at, ends) in
      let body : (times n (number_of 8)).read (bits_of bytes) (8 * (b.place / 8)) ≡ Ok (take n (drop (b.place / 8) bytes), 8 * (b.place / 8 + n)) = bytes_read n bytes (b.place / 8) small (omega (arith, full)) in
      let rest : take n (drop (b.place / 8) bytes) ≡ drop (b.place / 8) bytes = take_all n (drop (b.place / 8) bytes) (omega (arith, full, length-drop (b.place / 8) bytes)) in
      let here : (times n (number_of 8)).read r.all b.place ≡ Ok (drop (b.place / 8) bytes, 8 * length bytes) =
      subst (λ (all : List Bool). (times n (number_of 8)).read all b.place ≡ Ok (drop (b.place / 8) bytes, 8 * length bytes)) (sym same)
      (subst (λ (q : ℕ). (times n (number_of 8)).read (bits_of bytes) q ≡ Ok (drop (b.place / 8) bytes, 8 * length bytes)) place-is (body ∙ rw (rest, full) refl)) in
      behind_read first h m r.all r.place there es b.place (drop (b.place / 8) bytes) (8 * length bytes) k here

-- ---- the parts

-- what is read after the head
abbrev pub after_head : Option MajorSync → UnitHead → List Bool → Bool → Read AccessUnit
after_head first h all there = (present there (major_sync first)).read all 32 >>= λ m. (behind_sync first h m.0).read all m.1

pub parts_after : (first : Option MajorSync) (all : List Bool) (h : UnitHead) → head.read all 0 ≡ Ok (h, 32) → length all ≡ 16 * h.words → 2 ≤ h.words
    → (parts first).read all 0 ≡ after_head first h all (leb 4 h.words && next_is 31 sync (drop 32 all))
unfolding parts part sized marked
parts_after first all h e size two =
    let end : 32 + (16 * h.words - 32) ≡ length all = omega arith in
    let there : leb (32 + (16 * h.words - 32)) (length all) ≡ true = le-leb _ _ (omega arith) in
    let whole : take (32 + (16 * h.words - 32)) all ≡ all = take_all (32 + (16 * h.words - 32)) all (omega arith) in
    rw (e, there, whole) refl

pub parts_err : (first : Option MajorSync) (all : List Bool) (e : Broken) → head.read all 0 ≡ Err e → (parts first).read all 0 ≡ Err e
unfolding parts part
parts_err first all e k = rw k refl

-- where a major sync ends, if there is one
pub sync_ends : (there : Bool) (first : Option MajorSync) (all : List Bool) (m : Option MajorSync) (q : ℕ) → 32 ≤ length all → (present there (major_sync first)).read all 32 ≡ Ok (m, q) → q ≡ 32 + 8 * major_size m
sync_ends there first all m q le e =
    let f = is_found (present_is there (λ is. major_is first)) all 32 le (m, q) e in
    omega (arith, f.1, (sync_takes there first).takes m f.0.fits)

-- the unit has 8 bytes where it has 4 words
pub room_is : (words size : ℕ) → size ≡ 2 * words → leb 8 size ≡ leb 4 words
room_is words size e = elim (cases_lt words 4) [
  | inl lt ↦ lt-leb 8 size (omega arith) ∙ sym (lt-leb 4 words lt)
  | inr le ↦ le-leb 8 size (omega arith) ∙ sym (le-leb 4 words le)
]

-- the bits behind the head
pub bits_behind : (n : ℕ) (bytes : List ℕ) (c : Cursor) → 8 ≤ length bytes → c ≡ record { all = bits_of (take (length bytes - 4) (drop 4 bytes)); place = 0 }
    → n ≡ number (take 31 (left c)) → eqb n sync ≡ (leb 8 (length bytes) && next_is 31 sync (drop 32 (bits_of bytes)))
bits_behind n bytes c le c-is e =
    let r : Cursor = record { all = bits_of bytes; place = 32 } in
    let here : n ≡ number (take 31 (bits_of (take (length bytes - 4) (drop 4 bytes)))) = e ∙ ap (λ (d : Cursor). number (take 31 (left d))) c-is in
    let is : n ≡ number (take 31 (drop 32 (bits_of bytes))) = bits_at 31 n bytes r 32 refl refl refl here in
    rw (le-leb 8 (length bytes) le, ← is) refl

-- ---- the frame

pub head_facts : (all : List Bool) (h : UnitHead) (q : ℕ) → head.read all 0 ≡ Ok (h, q) → (q ≡ 32) × (h.words < 4096) × (2 ≤ h.words)
unfolding head head_fields ruled whole part number_of
head_facts all h q e =
    let f = is_found head_is all 0 (omega arith) (h, q) e in
    (head_found all h q e, f.0.fits.1.0, leb-true 2 h.words (rule_holds (leb 2 h.words) 4 f.0.meets.1))

-- a frame is as long as its head says, and there
pub framed_ok : (left : ℕ) (r : Read UnitHead) (n : ℕ) → framed left r ≡ Ok n → (h : UnitHead) × (q : ℕ) × (r ≡ Ok (h, q)) × (n ≡ 2 * h.words) × (n ≤ left)
framed_ok left (Err e) n k = absurd cc
framed_ok left (Ok h) n k = by_case (leb (2 * h.0.words) left) refl k
  where
    by_case : (b : Bool) → leb (2 * h.0.words) left ≡ b → cond {A = Result ℕ Broken} b (Ok (2 * h.0.words)) (Err (broken rule.UnitLength 4)) ≡ Ok n
        → (g : UnitHead) × (q : ℕ) × ((let r : Read UnitHead = Ok h in r) ≡ Ok (g, q)) × (n ≡ 2 * g.words) × (n ≤ left)
    by_case true le e = let same : 2 * h.0.words ≡ n = cc in (h.0, h.1, refl, sym same, omega (arith, leb-true _ _ le))
    by_case false le e = absurd cc

pub framed_small : (bytes : List ℕ) (n : ℕ) → frame_of bytes ≡ Ok n → n ≤ 8190
framed_small bytes n e =
    let f = framed_ok (length bytes) (head.read (bits_of bytes) 0) n e in
    omega (arith, f.3, head_facts (bits_of bytes) f.0 f.1 f.2)

ok_is : (x y : UnitHead × ℕ) → (let r : Read UnitHead = Ok x in r) ≡ Ok y → x ≡ y
ok_is x y e = cc

pub framed_head : (bytes : List ℕ) (h : UnitHead) (q : ℕ) → frame_of bytes ≡ Ok (length bytes) → head.read (bits_of bytes) 0 ≡ Ok (h, q) → (q ≡ 32) × (length bytes ≡ 2 * h.words) × (2 ≤ h.words)
framed_head bytes h q e k =
    let f = framed_ok (length bytes) (head.read (bits_of bytes) 0) (length bytes) e in
    let same : f.0 ≡ h = ap (λ (x : UnitHead × ℕ). x.0) (ok_is (f.0, f.1) (h, q) (sym f.2 ∙ k)) in
    let facts = head_facts (bits_of bytes) h q k in
    (facts.0, f.3 ∙ ap (λ (g : UnitHead). 2 * g.words) same, facts.2)

-- ---- as the code goes

-- behind the head
pub skipped : (bytes : List ℕ) (h : UnitHead) (r s : Cursor) → r ≡ record { all = bits_of bytes; place = 0 } → s ≡ moved 32 r → head.read (bits_of bytes) 0 ≡ Ok (h, 32)
    → (s.all ≡ bits_of bytes) × (head.read (bits_of bytes) 0 ≡ Ok (h, s.place))
skipped bytes h r s start behind e =
    let all : s.all ≡ bits_of bytes = ap (λ (c : Cursor). c.all) behind ∙ ap (λ (c : Cursor). c.all) start in
    let place : s.place ≡ 32 = omega (arith, ap (λ (c : Cursor). c.place) behind, ap (λ (c : Cursor). c.place) start) in
    (all, subst (λ (q : ℕ). head.read (bits_of bytes) 0 ≡ Ok (h, q)) (sym place) e)

module _ (first : Option MajorSync) (bytes : List ℕ) (h : UnitHead) (framed : frame_of bytes ≡ Ok (length bytes)) (r : Cursor) (same : r.all ≡ bits_of bytes)
    (e : head.read (bits_of bytes) 0 ≡ Ok (h, r.place)) (there : Bool) (is : there ≡ (leb 8 (length bytes) && next_is 31 sync (drop 32 (bits_of bytes)))) where
  parts_go : (parts first).read (bits_of bytes) 0 ≡ after_head first h (bits_of bytes) there
  parts_go =
      let f = framed_head bytes h r.place framed e in
      let start : head.read (bits_of bytes) 0 ≡ Ok (h, 32) = subst (λ (q : ℕ). head.read (bits_of bytes) 0 ≡ Ok (h, q)) f.0 e in
      let mark : (leb 4 h.words && next_is 31 sync (drop 32 (bits_of bytes))) ≡ there = ap (λ (b : Bool). b && next_is 31 sync (drop 32 (bits_of bytes))) (sym (room_is h.words (length bytes) f.1)) ∙ sym is in
      parts_after first (bits_of bytes) h start (omega (arith, length-bits_of bytes, f.1)) f.2 ∙ ap (after_head first h (bits_of bytes)) mark

  here : (x : Read (Option MajorSync)) → (present there (major_sync first)).read r.all r.place ≡ x → (present there (major_sync first)).read (bits_of bytes) 32 ≡ x
  here x k = subst (λ (q : ℕ). (present there (major_sync first)).read (bits_of bytes) q ≡ x) (framed_head bytes h r.place framed e).0 (subst (λ (all : List Bool). (present there (major_sync first)).read all r.place ≡ x) same k)

  pub sync_err : (d : Broken) → (present there (major_sync first)).read r.all r.place ≡ Err d → (parts first).read (bits_of bytes) 0 ≡ Err d
  sync_err d k = parts_go ∙ rw (here (Err d) k) refl

  pub sync_room : there ≡ true → r.place + 32 ≤ 8 * length bytes
  sync_room k =
      let eight : leb 8 (length bytes) ≡ true = both (leb 8 (length bytes)) (next_is 31 sync (drop 32 (bits_of bytes))) (sym is ∙ k) in
      omega (arith, leb-true 8 (length bytes) eight, framed_head bytes h r.place framed e)
    where
      both : (a b : Bool) → (a && b) ≡ true → a ≡ true
      both true b k = refl
      both false b k = absurd cc

  module _ (m : Option MajorSync) (b : Cursor) (kept : b.all ≡ r.all) (k : (present there (major_sync first)).read r.all r.place ≡ Ok (m, b.place)) where
    pub sync_place : b.place ≡ 32 + 8 * major_size m
    sync_place = sync_ends there first (bits_of bytes) m b.place (omega (arith, length-bits_of bytes, framed_head bytes h r.place framed e)) (here (Ok (m, b.place)) k)

    pub sync_ok : (behind_sync first h m).read b.all b.place ≡ (parts first).read (bits_of bytes) 0
    sync_ok = ap (λ (all : List Bool). (behind_sync first h m).read all b.place) (kept ∙ same) ∙ sym (parts_go ∙ rw (here (Ok (m, b.place)) k) refl)
