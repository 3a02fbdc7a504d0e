-- Where the next unit is all there, or its length is wrong, more bytes change nothing; where it isn't, no unit is there.
use Rattle.std.proofs.Common.{◌≡◌, ℕ, ◌*◌, ◌≤◌, ◌<◌, leb, ltb, Bool, true, false, cond, List, [], ◌∷◌, ◌++◌, length, take, drop, Ok, Err, Option, refl, sym, ap, ◌∙◌, arith}
use Rattle.std.proofs.lemmas.Bool.{leb-true, le-leb, le-ltb}
use Rattle.std.proofs.lemmas.Bool.Decides.{nat_tests}
use Rattle.std.specs.Prelude.{◌&&◌}
use Rattle.std.proofs.lemmas.List.{length-append, length-drop, take-append-le, drop-append-le}
use Rattle.mlp_syntax.specs.declared.major.MajorSync.{MajorSync}
use Rattle.mlp_syntax.specs.declared.unit.UnitHead.{UnitHead}
use Rattle.mlp_syntax.specs.declared.fault.Field.TheVariants as rule
use Rattle.mlp_bits.specs.Bits.{number}
use Rattle.mlp_layout.specs.Reading.{Read, broken, number_at}
use Rattle.mlp_layout.specs.Layout.{Layout, Found, behind, Rule, number_of, ruled, whole, part, made, sized}
use Rattle.mlp_layout.specs.Combined.{under}
use Rattle.mlp_layout.proofs.Standing.{Stands-front}
use Rattle.mlp_layout.proofs.Settled.{Settled, under_settled, part_settled, sized_settled}
use Rattle.mlp_bits.specs.Bits.{bits_of}
use Rattle.mlp_bits.proofs.BitLists.{length-bits_of}
use Rattle.mlp_bits.proofs.Words.{bits_of-append}
use Rattle.mlp_bits.proofs.Fields.{number-take}
use Rattle.mlp_outline.specs.Next.{words_of, is_open, ClosedIsDecided, OpenHasNone, OpenByBits, ClosedStays}
use Rattle.mlp_unit.specs.AccessUnit.{AccessUnit, head, head_fields, parts, rules, access_unit}
use Rattle.mlp_unit.proofs.UnitLaws.{head_is, head_takes}
use Rattle.mlp_unit.proofs.HeadReading.{head_settled}

-- the length in words that the first bits tell
abbrev words : List Bool → ℕ
words all = number (take 12 (drop 4 all))

abbrev pub first_head : List Bool → UnitHead
first_head all = record { check = number (take 4 (drop 0 all)); words = words all; timing = number (take 16 (drop 16 all)) }

-- ---- the head

fields_read : (all : List Bool) → 32 ≤ length all → head_fields.read all 0 ≡ Ok (first_head all, 32)
unfolding head_fields number_of number_at part made
fields_read all le =
    let a : leb 4 (length all) ≡ true = le-leb 4 (length all) (omega arith) in
    let b : leb 16 (length all) ≡ true = le-leb 16 (length all) (omega arith) in
    let c : leb 32 (length all) ≡ true = le-leb 32 (length all) (omega arith) in
    rw (a, b, c) refl

pub head_read : (all : List Bool) → 32 ≤ length all → (b : Bool) → leb 2 (words all) ≡ b → head.read all 0 ≡ cond b (Ok (first_head all, 32)) (Err (broken rule.UnitLength 4))
unfolding head ruled whole
head_read all le true e = rw (fields_read all le, e) refl
head_read all le false e = rw (fields_read all le, e) refl

read_of : {A : Type 0} → A × ℕ → Read A
read_of x = Ok x

pair_is : {A : Type 0} (x y : A × ℕ) → read_of x ≡ read_of y → x ≡ y
unfolding read_of
pair_is x y e = cc

-- a head that is there has all its bits, and tells two words at least
pub record HeadIs (all : List Bool) (h : UnitHead) : Type 0 where
  pub four : 32 ≤ length all
  pub two : 2 ≤ words all
  pub same : h.words ≡ words all

pub head_is_there : (all : List Bool) (h : UnitHead) → Found head all 0 h → HeadIs all h
unfolding read_of
head_is_there all h f =
    let four : 32 ≤ length all = omega (arith, f.stands.within, head_takes.takes h f.fits) in
    let read = head_is.found all 0 h f in
    by_test four read (leb 2 (words all)) refl
  where
    by_test : 32 ≤ length all → head.read all 0 ≡ Ok (h, behind head 0 h) → (b : Bool) → leb 2 (words all) ≡ b → HeadIs all h
    by_test four read true e = record {
      four = four;
      two = leb-true 2 (words all) e;
      same = ap (λ (x : UnitHead × ℕ). x.0.words) (pair_is (h, behind head 0 h) (first_head all, 32) (sym read ∙ head_read all four true e));
    }
    by_test four read false e = let no = sym read ∙ head_read all four false e in absurd cc

-- ---- the bits of the unit are there, or its length is wrong

pub record Closed (all : List Bool) : Type 0 where
  pub four : 32 ≤ length all
  pub whole : 2 ≤ words all → 16 * words all ≤ length all

pub access_settled : (first : Option MajorSync) (all : List Bool) → Closed all → Settled (access_unit first) all 0
unfolding access_unit parts
access_settled first all c =
    under_settled (rules first) _ all 0
    (part_settled head _ _ all 0 head_is (omega arith) (head_settled all c.four)
    (λ h f. let is = head_is_there all h f in sized_settled _ _ _ _ all _ (omega (arith, head_takes.takes h f.fits, is.same, c.whole is.two))))

-- ---- an outer part that is there has all its bits

ruled_found : {A : Type 0} (r : Rule A) (l : Layout A) (all : List Bool) (p : ℕ) (x : A) → Found (ruled r l) all p x → Found l all p x
unfolding ruled
ruled_found r l all p x f = record { fits = f.fits; meets = f.meets.0; stands = f.stands }

under_found : {A : Type 0} (rs : List (Rule A)) (l : Layout A) (all : List Bool) (p : ℕ) (x : A) → Found (under rs l) all p x → Found l all p x
unfolding under
under_found [] l all p x f = f
under_found (r ∷ rs) l all p x f = ruled_found r l all p x (under_found rs (ruled r l) all p x f)

pub record WholeUnit (all : List Bool) : Type 0 where
  pub four : 32 ≤ length all
  pub two : 2 ≤ words all
  pub whole : 16 * words all ≤ length all

parts_whole : (first : Option MajorSync) (all : List Bool) (o : AccessUnit) → Found (parts first) all 0 o → WholeUnit all
unfolding parts part sized
parts_whole first all o f =
    let h = head_is_there all o.head (record { fits = f.fits.0; meets = f.meets.0; stands = Stands-front all 0 (head.spelling o.head) _ f.stands }) in
    record { four = h.four; two = h.two; whole = omega (arith, f.stands.within, length-append {A = Bool}, head_takes.takes o.head f.fits.0, f.fits.1.1, h.same, h.two) }

pub unit_whole : (first : Option MajorSync) (all : List Bool) (o : AccessUnit) → Found (access_unit first) all 0 o → WholeUnit all
unfolding access_unit
unit_whole first all o f = parts_whole first all o (under_found (rules first) (parts first) all 0 o f)

-- ---- over bytes

open_closed : (bytes : List ℕ) → is_open bytes ≡ false → Closed (bits_of bytes)
open_closed bytes e = record {
  four = grind (arith, nat_tests, length-bits_of bytes);
  whole = λ two. grind (arith, nat_tests, length-bits_of bytes);
}

pub closed_decided : (first : Option MajorSync) (next : List ℕ) → ClosedIsDecided first next
closed_decided first next closed more =
    ap (λ (all : List Bool). (access_unit first).read all 0) (bits_of-append next more)
    ∙ (access_settled first (bits_of next) (open_closed next closed)).same (bits_of more)

not_open : (bytes : List ℕ) → 4 ≤ length bytes → 2 * words_of bytes ≤ length bytes → is_open bytes ≡ false
not_open bytes four whole =
    let a : ltb (length bytes) 4 ≡ false = le-ltb _ _ four in
    let b : ltb (length bytes) (2 * words_of bytes) ≡ false = le-ltb _ _ whole in
    rw (a, b) (neither (leb 2 (words_of bytes)))
  where
    neither : (b : Bool) → (b && false) ≡ false
    neither true = refl
    neither false = refl

pub open_none : (first : Option MajorSync) (next : List ℕ) → OpenHasNone first next
open_none first next open_is u f =
    let w = unit_whole first (bits_of next) u f in
    let no = not_open next (omega (arith, w.four, length-bits_of next)) (omega (arith, w.whole, length-bits_of next)) in
    let e : true ≡ false = sym open_is ∙ no in
    absurd cc

-- ---- the test by itself

pub open_bits : (xs ys : List ℕ) → OpenByBits xs ys
open_bits xs ys e =
    let long : length xs ≡ length ys = omega (arith, ap length e, length-bits_of xs, length-bits_of ys) in
    rw (long, e) refl

pub open_empty : is_open [] ≡ true
open_empty = refl

few_words : (bytes : List ℕ) → words_of bytes < 4096
few_words bytes = number-take 12 (drop 4 (bits_of bytes))

pub open_enough : (bytes : List ℕ) → 8190 ≤ length bytes → is_open bytes ≡ false
open_enough bytes enough = not_open bytes (omega arith) (omega (arith, few_words bytes))

-- the first four bytes tell the length
words_more : (all more : List Bool) → 32 ≤ length all → words (all ++ more) ≡ words all
words_more all more four =
    let at : drop 4 (all ++ more) ≡ drop 4 all ++ more = drop-append-le 4 all more (omega arith) in
    let front : take 12 (drop 4 all ++ more) ≡ take 12 (drop 4 all) = take-append-le 12 (drop 4 all) more (omega (arith, length-drop 4 all)) in
    ap (λ (t : List Bool). number (take 12 t)) at ∙ ap number front

pub closed_stays : (next more : List ℕ) → ClosedStays next more
closed_stays next more e = by_words (leb 2 (words_of next)) refl
  where
    closed : Closed (bits_of next)
    closed = open_closed next e

    same : words_of (next ++ more) ≡ words_of next
    same = ap words (bits_of-append next more) ∙ words_more (bits_of next) (bits_of more) closed.four

    four : 4 ≤ length (next ++ more)
    four = omega (arith, length-append next more, closed.four, length-bits_of next)

    by_words : (b : Bool) → leb 2 (words_of next) ≡ b → is_open (next ++ more) ≡ false
    by_words true t = not_open (next ++ more) four (omega (arith, same, closed.whole (leb-true 2 (words_of next) t), length-append next more, length-bits_of next))
    by_words false t =
        let a : ltb (length (next ++ more)) 4 ≡ false = le-ltb _ _ four in
        let b : leb 2 (words_of (next ++ more)) ≡ false = ap (leb 2) same ∙ t in
        rw (a, b) refl
