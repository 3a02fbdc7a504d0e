-- A unit is known from the bytes of its frame.
use Rattle.std.proofs.Common.{◌≡◌, ℕ, ◌+◌, ◌-◌, ◌*◌, ◌≤◌, ◌<◌, leb, Bool, true, false, cond, List, ◌++◌, length, take, drop, Option, Result, Ok, Err, refl, sym, ap, subst, ◌∙◌, arith}
use Rattle.std.proofs.lemmas.Bool.{le-leb, lt-leb}
use Rattle.std.proofs.lemmas.List.{length-take, length-append}
use Rattle.mlp_bits.specs.Bits.{bits_of}
use Rattle.mlp_bits.proofs.BitLists.{length-bits_of}
use Rattle.mlp_bits.proofs.Words.{bits_of-append}
use Rattle.mlp_syntax.specs.declared.fault.Broken.{Broken}
use Rattle.mlp_syntax.specs.declared.fault.Field.TheVariants as rule
use Rattle.mlp_syntax.specs.declared.major.MajorSync.{MajorSync}
use Rattle.mlp_syntax.specs.declared.unit.UnitHead.{UnitHead}
use Rattle.mlp_layout.specs.Reading.{Read, broken}
use Rattle.mlp_layout.specs.Layout.{part, sized}
use Rattle.mlp_layout.proofs.RuleReading.{under_err}
use Rattle.mlp_layout.proofs.Settled.{Settled, part_settled, sized_settled, under_settled}
use Rattle.mlp_unit.specs.AccessUnit.{access_unit, head, parts, rules}
use Rattle.mlp_unit.specs.Frame.{framed, frame_of}
use Rattle.mlp_unit.proofs.UnitLaws.{head_is, head_takes}
use Rattle.mlp_unit.proofs.HeadReading.{head_settled, bits_split}
use Rattle.mlp_unit.proofs.UnitReading.{framed_ok, framed_small, head_facts, parts_err}

-- ---- what is read changes with no bit behind the frame

-- the unit's bits are there
pub unit_settled : (first : Option MajorSync) (all : List Bool) → 32 ≤ length all → ((h : UnitHead) → head.read all 0 ≡ Ok (h, 32) → 16 * h.words ≤ length all) → Settled (access_unit first) all 0
unfolding access_unit parts
unit_settled first all le there =
    under_settled (rules first) (parts first) all 0
    (part_settled head _ _ all 0 head_is (omega arith) (head_settled all le)
    (λ h f.
    let len = head_takes.takes h f.fits in
    let e : head.read all 0 ≡ Ok (h, 0 + length (head.spelling h)) = head_is.found all 0 h f in
    let at : 0 + length (head.spelling h) ≡ 32 = omega (arith, len) in
    let e-32 : head.read all 0 ≡ Ok (h, 32) = subst (λ (q : ℕ). head.read all 0 ≡ Ok (h, q)) at e in
    sized_settled _ _ _ _ all _ (omega (arith, at, there h e-32, head_facts all h 32 e-32))))

-- ---- a frame

pub record Frame (next : List ℕ) (n : ℕ) : Type 0 where
  pub head_is : (h : UnitHead) × (head.read (bits_of next) 0 ≡ Ok (h, 32)) × (n ≡ 2 * h.words)
  pub some : 4 ≤ n
  pub small : n ≤ 8190
  pub there : n ≤ length next

pub is_frame : (next : List ℕ) (n : ℕ) → frame_of next ≡ Ok n → Frame next n
is_frame next n e =
    let f = framed_ok (length next) (head.read (bits_of next) 0) n e in
    let facts = head_facts (bits_of next) f.0 f.1 f.2 in
    record {
      head_is = (f.0, subst (λ (q : ℕ). head.read (bits_of next) 0 ≡ Ok (f.0, q)) facts.0 f.2, f.3);
      some = omega (arith, f.3, facts);
      small = framed_small next n e;
      there = f.4;
    }

abbrev bytes_ok : ℕ → Result ℕ Broken
bytes_ok n = Ok n

framed_there : (left words n : ℕ) → n ≡ 2 * words → n ≤ left → cond {A = Result ℕ Broken} (leb (2 * words) left) (Ok (2 * words)) (Err (broken rule.UnitLength 4)) ≡ Ok n
framed_there left words n e le = let t : leb (2 * words) left ≡ true = le-leb _ _ (omega arith) in rw t (ap bytes_ok (sym e))

module _ (next : List ℕ) (n : ℕ) (f : Frame next n) where
  first_bits : 32 ≤ length (bits_of (take n next))
  first_bits = omega (arith, length-bits_of (take n next), length-take n next, f.some, f.there)

  head_there : head.read (bits_of (take n next)) 0 ≡ Ok (f.head_is.0, 32)
  head_there = sym ((head_settled (bits_of (take n next)) first_bits).same (bits_of (drop n next))) ∙ ap (λ (all : List Bool). head.read all 0) (bits_split n next) ∙ f.head_is.1

  -- its bytes alone have the same frame
  pub frame_alone : frame_of (take n next) ≡ Ok n
  frame_alone = ap (framed (length (take n next))) head_there ∙ framed_there (length (take n next)) f.head_is.0.words n f.head_is.2 (omega (arith, length-take n next, f.there))

  same_head : (h : UnitHead) → head.read (bits_of (take n next)) 0 ≡ Ok (h, 32) → h ≡ f.head_is.0
  same_head h e = let one = sym e ∙ head_there in ap (λ (x : UnitHead × ℕ). x.0) (ok_is (h, 32) (f.head_is.0, 32) one)
    where
      ok_is : (x y : UnitHead × ℕ) → (let r : Read UnitHead = Ok x in r) ≡ Ok y → x ≡ y
      ok_is x y e = cc

  -- and are read as the same unit
  pub unit_alone : (first : Option MajorSync) → (access_unit first).read (bits_of next) 0 ≡ (access_unit first).read (bits_of (take n next)) 0
  unit_alone first =
      let s = unit_settled first (bits_of (take n next)) first_bits (λ h e. omega (arith, ap (λ (g : UnitHead). g.words) (same_head h e), f.head_is.2, f.there, length-bits_of (take n next), length-take n next)) in
      ap (λ (all : List Bool). (access_unit first).read all 0) (sym (bits_split n next)) ∙ s.same (bits_of (drop n next))

pub frame_length : (next : List ℕ) (n : ℕ) → frame_of next ≡ Ok n → length (take n next) ≡ n
frame_length next n e = omega (arith, length-take n next, (is_frame next n e).there)

pub frame_itself : (next : List ℕ) (n : ℕ) → frame_of next ≡ Ok n → frame_of (take n next) ≡ Ok (length (take n next))
frame_itself next n e = frame_alone next n (is_frame next n e) ∙ ap bytes_ok (sym (frame_length next n e))

-- with the same head
pub head_alone : (next : List ℕ) (n : ℕ) (h : UnitHead) → frame_of next ≡ Ok n → head.read (bits_of next) 0 ≡ Ok (h, 32) → head.read (bits_of (take n next)) 0 ≡ Ok (h, 32)
head_alone next n h e k =
    let first = first_bits next n (is_frame next n e) in
    sym ((head_settled (bits_of (take n next)) first).same (bits_of (drop n next))) ∙ ap (λ (all : List Bool). head.read all 0) (bits_split n next) ∙ k

-- ---- no frame

too_long : (first : Option MajorSync) (all : List Bool) (h : UnitHead) → head.read all 0 ≡ Ok (h, 32) → length all < 16 * h.words → (parts first).read all 0 ≡ Err (broken rule.UnitLength 4)
unfolding parts part sized
too_long first all h e lt = let less : leb (32 + (16 * h.words - 32)) (length all) ≡ false = lt-leb _ _ (omega arith) in rw (e, less) refl

abbrev head_err : Broken → Read UnitHead
head_err d = Err d

pub no_frame : (first : Option MajorSync) (next : List ℕ) (e : Broken) → frame_of next ≡ Err e → (access_unit first).read (bits_of next) 0 ≡ Err e
unfolding access_unit
no_frame first next e k = under_err (bits_of next) 0 (rules first) (parts first) e (by_head (head.read (bits_of next) 0) refl k)
  where
    err_is : (d e : Broken) → (let r : Result ℕ Broken = Err d in r) ≡ Err e → d ≡ e
    err_is d e k = cc

    by_length : (h : UnitHead) (q : ℕ) → head.read (bits_of next) 0 ≡ Ok (h, q) → (b : Bool) → leb (2 * h.words) (length next) ≡ b
        → cond {A = Result ℕ Broken} b (Ok (2 * h.words)) (Err (broken rule.UnitLength 4)) ≡ Err e → (parts first).read (bits_of next) 0 ≡ Err e
    by_length h q is true le k = absurd cc
    by_length h q is false le k =
        let facts = head_facts (bits_of next) h q is in
        subst (λ (d : Broken). (parts first).read (bits_of next) 0 ≡ Err d) (err_is (broken rule.UnitLength 4) e k)
        (too_long first (bits_of next) h (subst (λ (q : ℕ). head.read (bits_of next) 0 ≡ Ok (h, q)) facts.0 is) (omega (arith, length-bits_of next, not_le (2 * h.words) (length next) le)))
      where
        not_le : (a b : ℕ) → leb a b ≡ false → b < a
        not_le a b e = grind (arith, le-leb)

    by_head : (r : Read UnitHead) → head.read (bits_of next) 0 ≡ r → framed (length next) r ≡ Err e → (parts first).read (bits_of next) 0 ≡ Err e
    by_head (Err d) is k = parts_err first (bits_of next) e (is ∙ ap head_err (err_is d e k))
    by_head (Ok h) is k = by_length h.0 h.1 is (leb (2 * h.0.words) (length next)) refl k

-- ---- more bytes behind

-- 8190 bytes are enough
module _ (next more : List ℕ) (enough : 8190 ≤ length next) where
  long : 32 ≤ length (bits_of next)
  long = omega (arith, length-bits_of next)

  head_more : head.read (bits_of (next ++ more)) 0 ≡ head.read (bits_of next) 0
  head_more = ap (λ (all : List Bool). head.read all 0) (bits_of-append next more) ∙ (head_settled (bits_of next) long).same (bits_of more)

  enough_for : (left : ℕ) (r : Read UnitHead) → head.read (bits_of next) 0 ≡ r → 8190 ≤ left → framed left r ≡ framed (length next) r
  enough_for left (Err e) is le = refl
  enough_for left (Ok h) is le =
      let facts = head_facts (bits_of next) h.0 h.1 is in
      let one : leb (2 * h.0.words) left ≡ true = le-leb _ _ (omega (arith, facts)) in
      let two : leb (2 * h.0.words) (length next) ≡ true = le-leb _ _ (omega (arith, facts)) in
      rw (one, two) refl

  pub frame_more : frame_of (next ++ more) ≡ frame_of next
  frame_more = ap (framed (length (next ++ more))) head_more ∙ enough_for (length (next ++ more)) (head.read (bits_of next) 0) refl (omega (arith, length-append next more))

  pub unit_more : (first : Option MajorSync) → (access_unit first).read (bits_of (next ++ more)) 0 ≡ (access_unit first).read (bits_of next) 0
  unit_more first =
      let s = unit_settled first (bits_of next) long (λ h e. omega (arith, head_facts (bits_of next) h 32 e, length-bits_of next)) in
      ap (λ (all : List Bool). (access_unit first).read all 0) (bits_of-append next more) ∙ s.same (bits_of more)
