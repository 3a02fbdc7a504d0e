-- All segments of a unit have a place in it.
use Rattle.std.proofs.Common.{◌≡◌, ℕ, zero, suc, ◌+◌, ◌*◌, ◌<◌, ◌≤◌, Bool, true, false, refl, sym, ap, ◌∙◌, arith}
use Rattle.std.specs.Prelude.{◌==◌, nat_lt}
use Rattle.std.proofs.lemmas.Bool.{ltb-true, ltb-false}
use Rattle.std.proofs.lemmas.Bool.Decides.{nat_tests}
use Rattle.mlp_syntax.specs.declared.major.Kind.{Kind}
use Rattle.mlp_syntax.specs.declared.major.Kind.TheVariants.{Fbb, Fba}
use Rattle.mlp_fifo.specs.Pace.{unit_of, single_most}
use Rattle.mlp_fifo.proofs.Paces.{unit_most}
use Rattle.mlp_fold.specs.declared.profile.Mix.{Mix}
use Rattle.mlp_fold.specs.declared.profile.Mix.TheVariants.{Split, Fold, Bypass, Side}
use Rattle.mlp_fold.specs.declared.profile.Profile.{Profile}
use Rattle.mlp_fold.specs.Profile.{has_channels, has_rate}
use Rattle.mlp_fold.specs.Substreams.{substreams_of}
use Rattle.mlp_encode.specs.Lawful.{rows_size, steps_size, bypass_size, segment_most, segments_to, segments_most}
use Rattle.mlp_encode.proofs.SyncAllowed.{Passes}

eight_slow : (rate channels : ℕ) → has_rate rate channels ≡ true → channels ≡ 8 → unit_of rate ≤ 80
unfolding unit_of
eight_slow rate channels h e = grind (arith, nat_tests)

-- 2, 6 or 8 channels
data Count (n : ℕ) : Type 0 where
  two : n ≡ 2 → Count n
  six : n ≡ 6 → Count n
  eight : n ≡ 8 → Count n

count_of : (kind : Kind) (n : ℕ) → has_channels kind n ≡ true → Count n
count_of kind n h = by (n == 2) (n == 6) (n == 8) refl refl refl
  where
    by : (a b c : Bool) → (n == 2) ≡ a → (n == 6) ≡ b → (n == 8) ≡ c → Count n
    by true b c ea eb ec = two (grind (arith, nat_tests))
    by false true c ea eb ec = six (grind (arith, nat_tests))
    by false false true ea eb ec = eight (grind (arith, nat_tests))
    by false false false ea eb ec = absurd (none kind h)
      where
        none : (k : Kind) → has_channels k n ≡ true → ⊥
        none Fbb h = grind (arith, nat_tests)
        none Fba h = grind (arith, nat_tests)

-- ---- a segment by its mix

record AreFew (mix : Mix) (frames : ℕ) : Type 0 where
  first : rows_size mix 0 + steps_size mix 0 + bypass_size mix 0 * frames ≤ 72
  second : rows_size mix 1 + steps_size mix 1 + bypass_size mix 1 * frames ≤ 226 + 4 * frames
  third : rows_size mix 2 + steps_size mix 2 + bypass_size mix 2 * frames ≤ 282 + 4 * frames
  -- .. of 40 frames
  second_single : frames ≡ 40 → rows_size mix 1 + steps_size mix 1 + bypass_size mix 1 * frames ≤ 266
  third_single : frames ≡ 40 → rows_size mix 2 + steps_size mix 2 + bypass_size mix 2 * frames ≤ 282

are_few : (mix : Mix) (frames : ℕ) → AreFew mix frames
are_few Split frames = record { first = omega arith; second = omega arith; third = omega arith; second_single = λ e. omega arith; third_single = λ e. omega arith }
are_few Fold frames = record { first = omega arith; second = omega arith; third = omega arith; second_single = λ e. omega arith; third_single = λ e. omega arith }
are_few Bypass frames = record { first = omega arith; second = omega arith; third = omega arith; second_single = λ e. omega (arith, e); third_single = λ e. omega (arith, e) }
are_few Side frames = record { first = omega arith; second = omega arith; third = omega arith; second_single = λ e. omega arith; third_single = λ e. omega arith }

so_many : (p : Profile) (n : ℕ) → p.channels ≡ n → segments_most p ≡ segments_to p (substreams_of n)
so_many p n e = ap (λ (m : ℕ). segments_to p (substreams_of m)) e

-- ---- all segments

-- with a head, a major sync and a directory
pub segments_fit : (p : Profile) → Passes p → segments_most p ≤ 8152
segments_fit p h = by (count_of p.kind p.channels h.channels)
  where
    few : AreFew p.mix (unit_of p.rate)
    few = are_few p.mix (unit_of p.rate)

    by : Count p.channels → segments_most p ≤ 8152
    by (two e) = omega (arith, so_many p 2 e, few.first, unit_most p.rate)
    by (six e) = omega (arith, so_many p 6 e, few.first, few.second, unit_most p.rate)
    by (eight e) = omega (arith, so_many p 8 e, few.first, few.second, few.third, eight_slow p.rate p.channels h.rate e)

-- .. of which so many fit in the buffer that units of 40 frames take turns
pub segments_single : (p : Profile) → Passes p → unit_of p.rate ≡ 40 → 32 + 2 * substreams_of p.channels + segments_most p ≤ single_most p.kind
segments_single p h unit = by (count_of p.kind p.channels h.channels)
  where
    few : AreFew p.mix (unit_of p.rate)
    few = are_few p.mix (unit_of p.rate)

    least : (kind : Kind) → 999 ≤ single_most kind
    least Fbb = omega arith
    least Fba = omega arith

    most : (kind : Kind) → has_channels kind p.channels ≡ true → p.channels ≡ 8 → single_most kind ≡ 1333
    most Fba has e = refl
    most Fbb has e = absurd (let z : has_channels Fbb 8 ≡ true = ap (has_channels Fbb) (sym e) ∙ has in cc)

    by : Count p.channels → 32 + 2 * substreams_of p.channels + segments_most p ≤ single_most p.kind
    by (two e) = omega (arith, so_many p 2 e, ap substreams_of e, few.first, unit, least p.kind)
    by (six e) = omega (arith, so_many p 6 e, ap substreams_of e, few.first, few.second_single unit, unit, least p.kind)
    by (eight e) = omega (arith, so_many p 8 e, ap substreams_of e, few.first, few.second_single unit, few.third_single unit, unit, most p.kind h.channels e)

pub segments_few : (p : Profile) → Passes p → segments_most p ≤ 8190
segments_few p h = let few = segments_fit p h in omega (arith, few)

-- one substream more
pub segments_more : (p : Profile) (j : ℕ) → segments_to p (j + 1) ≡ segments_to p j + segment_most p j
segments_more p j = let next : j + 1 ≡ suc j = omega arith in ap (λ (m : ℕ). segments_to p m) next

segments_below : (p : Profile) (m j : ℕ) → j < m → segments_to p j + segment_most p j ≤ segments_to p m
segments_below p zero j lt = absurd (omega (arith, lt))
segments_below p (suc m) j lt = by (nat_lt j m) refl (λ below. segments_below p m j below)
  where
    by : (b : Bool) → nat_lt j m ≡ b → (j < m → segments_to p j + segment_most p j ≤ segments_to p m) → segments_to p j + segment_most p j ≤ segments_to p (suc m)
    by true e less = omega (arith, less (ltb-true j m e))
    by false e less =
        let same : j ≡ m = omega (arith, ltb-false j m e, lt) in
        omega (arith, ap (λ (k : ℕ). segments_to p k) same, ap (λ (k : ℕ). segment_most p k) same)

pub segments_room : (p : Profile) → Passes p → (j : ℕ) → j < substreams_of p.channels → segments_to p j + segment_most p j ≤ 8190
segments_room p h j lt = omega (arith, segments_below p (substreams_of p.channels) j lt, segments_few p h)
