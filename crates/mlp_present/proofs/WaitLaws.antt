-- The test for more bytes, behind a terminator or not.
use Rattle.std.proofs.Common.{◌≡◌, ℕ, ◌≤◌, ltb, cond, not, Bool, true, false, List, [], ◌++◌, length, Option, refl, ap, arith}
use Rattle.std.proofs.lemmas.Bool.{le-ltb}
use Rattle.std.proofs.lemmas.Bool.Decides.{nat_tests}
use Rattle.std.proofs.lemmas.List.{length-append}
use Rattle.mlp_syntax.specs.declared.fault.Field.TheVariants as rule
use Rattle.mlp_syntax.specs.declared.major.MajorSync.{MajorSync}
use Rattle.mlp_bits.specs.Bits.{bits_of}
use Rattle.mlp_bits.proofs.BitLists.{length-bits_of}
use Rattle.mlp_layout.specs.Layout.{Layout, Found, tested}
use Rattle.mlp_unit.specs.AccessUnit.{AccessUnit, access_unit}
use Rattle.mlp_outline.specs.Next.{is_open}
use Rattle.mlp_outline.proofs.OpenLaws.{open_bits, open_empty, open_enough, closed_stays, closed_decided, open_none}
use Rattle.mlp_contents.specs.Units.{Left}
use Rattle.mlp_present.specs.Decoding.{is_open_behind}
use Rattle.mlp_present.specs.Laws.{ByBits, HasNone, IsSettled, Stays}

-- by whether a terminator was read
abbrev opens : Bool → List ℕ → Bool
opens ended next = cond ended (ltb (length next) 1) (is_open next)

abbrev outer_at : Bool → Option MajorSync → Layout AccessUnit
outer_at ended first = tested rule.AfterEnd (not ended) (access_unit first)

bits_alone : (ended : Bool) (xs ys : List ℕ) → bits_of xs ≡ bits_of ys → opens ended xs ≡ opens ended ys
bits_alone true xs ys e = let long : length xs ≡ length ys = omega (arith, ap length e, length-bits_of xs, length-bits_of ys) in ap (λ (n : ℕ). ltb n 1) long
bits_alone false xs ys e = open_bits xs ys e

empty_opens : (ended : Bool) → opens ended [] ≡ true
empty_opens true = refl
empty_opens false = open_empty

enough_closes : (ended : Bool) (next : List ℕ) → 8190 ≤ length next → opens ended next ≡ false
enough_closes true next le = le-ltb _ _ (omega arith)
enough_closes false next le = open_enough next le

none_stands : (ended : Bool) (first : Option MajorSync) (next : List ℕ) (o : AccessUnit) → opens ended next ≡ true → Found (outer_at ended first) (bits_of next) 0 o → ⊥
unfolding tested
none_stands true first next o e f = let never = f.meets.0 in absurd cc
none_stands false first next o e f = open_none first next e o (record { fits = f.fits; meets = f.meets.1; stands = f.stands })

stays_closed : (ended : Bool) (next more : List ℕ) → opens ended next ≡ false → opens ended (next ++ more) ≡ false
stays_closed true next more e = let some : 1 ≤ length next = grind (arith, nat_tests) in le-ltb _ _ (omega (arith, length-append next more, some))
stays_closed false next more e = closed_stays next more e

same_read : (ended : Bool) (first : Option MajorSync) (next more : List ℕ) → opens ended next ≡ false → (outer_at ended first).read (bits_of (next ++ more)) 0 ≡ (outer_at ended first).read (bits_of next) 0
unfolding tested
same_read true first next more e = refl
same_read false first next more e = closed_decided first next e more

-- ---- of what units leave

pub waits_bits : (left : Left) (xs ys : List ℕ) → ByBits left xs ys
waits_bits left xs ys e = bits_alone left.ended xs ys e

pub waits_empty : (left : Left) → is_open_behind left [] ≡ true
waits_empty left = empty_opens left.ended

pub waits_enough : (left : Left) (next : List ℕ) → 8190 ≤ length next → is_open_behind left next ≡ false
waits_enough left next le = enough_closes left.ended next le

pub waits_none : (k : ℕ) (left : Left) (next : List ℕ) → HasNone k left next
waits_none k left next u e n = none_stands left.ended left.sync next u.outer e n.outer

pub waits_stays : (left : Left) (next more : List ℕ) → Stays left next more
waits_stays left next more e = stays_closed left.ended next more e

pub waits_settled : (k : ℕ) (left : Left) (next more : List ℕ) → IsSettled k left next more
waits_settled k left next more e = same_read left.ended left.sync next more e
