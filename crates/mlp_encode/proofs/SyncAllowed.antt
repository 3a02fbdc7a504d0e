-- The major sync that is sent can be written, and keeps the rules.
use Rattle.std.proofs.Common.{◌≡◌, ℕ, ◌<◌, ◌≤◌, Bool, true, false, cond, [], Option, Some, None, refl, arith}
use Rattle.std.specs.Prelude.{◌==◌, ◌&&◌, ◌||◌, nat_lt, nat_le, Result, Ok, Err, if◌then◌else◌}
use Rattle.std.proofs.lemmas.Bool.{and_from, eq-eqb}
use Rattle.std.proofs.lemmas.Bool.Decides.{nat_tests}
use Rattle.mlp_syntax.specs.declared.major.Kind.{Kind}
use Rattle.mlp_syntax.specs.declared.major.Kind.TheVariants.{Fbb, Fba}
use Rattle.mlp_syntax.specs.declared.major.MajorSync.{MajorSync}
use Rattle.mlp_syntax.specs.declared.refusal.ProfileFault.{ProfileFault}
use Rattle.mlp_syntax.specs.declared.refusal.ProfileFault.TheVariants as fault
use Rattle.mlp_layout.specs.Layout.{number_of, seen, part, made}
use Rattle.mlp_layout.specs.Combined.{chosen}
use Rattle.mlp_major.specs.MajorSync.{fbb, fba, format_info, kind_of, extension, is_long, in_fbb, in_fba, is_rate, most_substreams, rate_of, major_sync, rules, is_unchanged, HasKindOf, KeepsRules}
use Rattle.mlp_major.proofs.SyncFitting.{fit_by}
use Rattle.mlp_major.proofs.RuleLaws.{first_none}
use Rattle.mlp_fifo.specs.Pace.{IsRate}
use Rattle.mlp_fold.specs.declared.profile.Profile.{Profile}
use Rattle.mlp_fold.specs.Profile.{checked, suits, has_channels, has_rate, has_depth}
use Rattle.mlp_fold.specs.Substreams.{substreams_of}
use Rattle.mlp_encode.specs.Numbers.{rate_code, word_length_code}
use Rattle.mlp_encode.specs.Sync.{arrangement, six_assignment, eight_assignment, format_of, sync_of}
use Rattle.mlp_encode.proofs.Peaks.{peak_small}

-- ---- a profile that passes

pub record Passes (p : Profile) : Type 0 where
  pub channels : has_channels p.kind p.channels ≡ true
  pub rate : has_rate p.rate p.channels ≡ true
  pub depth : has_depth p.depth ≡ true
  pub suits_it : suits p.mix p.channels p.depth ≡ true

abbrev passed : Result Unit ProfileFault
passed = Ok tt

abbrev answer : Bool → Bool → Bool → Bool → Result Unit ProfileFault
answer a b c d =
    if a then (if b then (if c then (if d then Ok tt else Err fault.MixShape) else Err fault.Depth) else Err fault.Rate) else Err fault.Channels

all_four : (a b c d : Bool) → answer a b c d ≡ passed → (a ≡ true) × (b ≡ true) × (c ≡ true) × (d ≡ true)
all_four true true true true e = (refl, refl, refl, refl)
all_four true true true false e = absurd cc
all_four true true false d e = absurd cc
all_four true false c d e = absurd cc
all_four false b c d e = absurd cc

pub passes : (p : Profile) → checked p ≡ Ok tt → Passes p
passes p e =
    let all = all_four (has_channels p.kind p.channels) (has_rate p.rate p.channels) (has_depth p.depth) (suits p.mix p.channels p.depth) e in
    record { channels = all.0; rate = all.1; depth = all.2; suits_it = all.3 }

pub rate_there : (rate channels : ℕ) → has_rate rate channels ≡ true → IsRate rate
rate_there rate channels e = grind (arith, nat_tests)

-- ---- codes

code_small : (rate : ℕ) → rate_code rate < 16
code_small rate = go (rate == 48000) (rate == 96000) (rate == 192000) (rate == 44100) (rate == 88200)
  where
    go : (a b c d e : Bool) → (if a then 0 else if b then 1 else if c then 2 else if d then 8 else if e then 9 else 10) < 16
    go true b c d e = omega arith
    go false true c d e = omega arith
    go false false true d e = omega arith
    go false false false true e = omega arith
    go false false false false true = omega arith
    go false false false false false = omega arith

code_rate : (rate : ℕ) → is_rate (rate_code rate) ≡ true
code_rate rate = go (rate == 48000) (rate == 96000) (rate == 192000) (rate == 44100) (rate == 88200)
  where
    go : (a b c d e : Bool) → is_rate (if a then 0 else if b then 1 else if c then 2 else if d then 8 else if e then 9 else 10) ≡ true
    go true b c d e = refl
    go false true c d e = refl
    go false false true d e = refl
    go false false false true e = refl
    go false false false false true = refl
    go false false false false false = refl

word_length_small : (depth : ℕ) → word_length_code depth ≤ 2
word_length_small depth = go (depth == 16) (depth == 20)
  where
    go : (a b : Bool) → (if a then 0 else if b then 1 else 2) ≤ 2
    go true b = omega arith
    go false true = omega arith
    go false false = omega arith

six_small : (channels : ℕ) → six_assignment channels < 32
six_small channels = go (channels == 2)
  where
    go : (a : Bool) → (if a then 1 else 15) < 32
    go true = omega arith
    go false = omega arith

eight_small : (channels : ℕ) → eight_assignment channels < 8192
eight_small channels = go (channels == 2) (channels == 6)
  where
    go : (a b : Bool) → (if a then 1 else if b then 15 else 79) < 8192
    go true b = omega arith
    go false true = omega arith
    go false false = omega arith

arrangement_small : (channels : ℕ) → arrangement channels < 32
arrangement_small channels = go (channels == 2)
  where
    go : (a : Bool) → (if a then 1 else 12) < 32
    go true = omega arith
    go false = omega arith

-- one to three substreams
pub substreams_some : (channels : ℕ) → 0 < substreams_of channels
substreams_some channels = go (channels == 2) (channels == 6)
  where
    go : (a b : Bool) → 0 < (if a then 1 else (if b then 2 else 3))
    go true b = omega arith
    go false true = omega arith
    go false false = omega arith

pub substreams_few : (channels : ℕ) → substreams_of channels ≤ 3
substreams_few channels = go (channels == 2) (channels == 6)
  where
    go : (a b : Bool) → (if a then 1 else (if b then 2 else 3)) ≤ 3
    go true b = omega arith
    go false true = omega arith
    go false false = omega arith

-- ---- the fields

format_fits : (k : Kind) (rate channels depth : ℕ) → (format_info (kind_of (format_of k rate channels depth))).Fits (format_of k rate channels depth)
unfolding format_info seen fbb fba part made number_of
format_fits Fbb rate channels depth = ((omega (arith, word_length_small depth), (omega arith, (code_small rate, (omega arith, (omega arith, (arrangement_small channels, refl)))))), refl)
format_fits Fba rate channels depth = ((code_small rate, (omega arith, (omega arith, (omega arith, (six_small channels, (omega arith, (eight_small channels, refl))))))), refl)

no_extension : (k : Kind) (rate channels depth : ℕ) → (extension (is_long (kind_of (format_of k rate channels depth)) 0)).Fits []
unfolding extension chosen made
no_extension Fbb rate channels depth = refl
no_extension Fba rate channels depth = refl

pub sync_fits : (p : Profile) → Passes p → (major_sync None).Fits (sync_of p)
sync_fits p h = fit_by (sync_of p) (record {
  format = format_fits p.kind p.rate p.channels p.depth;
  flags = omega arith;
  reserved = omega arith;
  peak = peak_small p.kind p.rate (rate_there p.rate p.channels h.rate);
  substreams = omega (arith, substreams_few p.channels);
  carried = omega arith;
  extended = omega arith;
  info = omega arith;
  extension = no_extension p.kind p.rate p.channels p.depth;
}) (omega arith)

-- ---- the rules

rule_met : (at : ℕ) (b : Bool) → b ≡ true → cond {A = Option ℕ} b None (Some at) ≡ None
rule_met at true e = refl
rule_met at false e = absurd cc

fba_rate : (k : Kind) (rate channels depth : ℕ) → in_fba (λ f. is_rate f.rate) (format_of k rate channels depth) ≡ true
fba_rate Fbb rate channels depth = refl
fba_rate Fba rate channels depth = code_rate rate

fbb_rate : (k : Kind) (rate channels depth : ℕ) → in_fbb (λ f. is_rate f.rate1) (format_of k rate channels depth) ≡ true
fbb_rate Fbb rate channels depth = code_rate rate
fbb_rate Fba rate channels depth = refl

fbb_quant : (k : Kind) (rate channels depth : ℕ) → in_fbb (λ f. nat_le f.quant1 2) (format_of k rate channels depth) ≡ true
fbb_quant Fbb rate channels depth = go (depth == 16) (depth == 20)
  where
    go : (a b : Bool) → nat_le (if a then 0 else if b then 1 else 2) 2 ≡ true
    go true b = refl
    go false true = refl
    go false false = refl
fbb_quant Fba rate channels depth = refl

fbb_group : (k : Kind) (rate channels depth : ℕ) → in_fbb (λ f. (f.rate2 == 15) || (f.rate2 == f.rate1)) (format_of k rate channels depth) ≡ true
fbb_group Fbb rate channels depth = refl
fbb_group Fba rate channels depth = refl

few_there : (k : Kind) (rate channels depth : ℕ) → has_channels k channels ≡ true → (nat_lt 0 (substreams_of channels) && nat_le (substreams_of channels) (most_substreams (format_of k rate channels depth))) ≡ true
few_there Fbb rate channels depth e = go (channels == 2) (channels == 6) e
  where
    go : (a b : Bool) → (a || b) ≡ true → (nat_lt 0 (if a then 1 else (if b then 2 else 3)) && nat_le (if a then 1 else (if b then 2 else 3)) 2) ≡ true
    go true b e = refl
    go false true e = refl
    go false false e = absurd (let t : false ≡ true = e in cc)
few_there Fba rate channels depth e = go (channels == 2) (channels == 6)
  where
    go : (a b : Bool) → (nat_lt 0 (if a then 1 else (if b then 2 else 3)) && nat_le (if a then 1 else (if b then 2 else 3)) 4) ≡ true
    go true b = refl
    go false true = refl
    go false false = refl

keeps : (p : Profile) → Passes p → (first : Option MajorSync) → HasKindOf first (sync_of p) → is_unchanged first (sync_of p) ≡ true → KeepsRules first (sync_of p)
keeps p h first kind same = record {
  kind = kind;
  fields = first_none (rules first) (sync_of p) (
    rule_met 32 _ (fba_rate p.kind p.rate p.channels p.depth),
    (
      rule_met 40 _ (fbb_rate p.kind p.rate p.channels p.depth),
      (
        rule_met 32 _ (fbb_quant p.kind p.rate p.channels p.depth),
        (
          rule_met 44 _ (fbb_group p.kind p.rate p.channels p.depth),
          (
            rule_met 128 _ (few_there p.kind p.rate p.channels p.depth h.channels),
            (rule_met 0 _ same, tt),
          ),
        ),
      ),
    ),
  );
}

-- the first of a stream, and each later one
pub keeps_first : (p : Profile) → Passes p → KeepsRules None (sync_of p)
keeps_first p h = keeps p h None tt refl

pub keeps_later : (p : Profile) → Passes p → KeepsRules (Some (sync_of p)) (sync_of p)
keeps_later p h = keeps p h (Some (sync_of p)) refl (and_from _ _ (eq-eqb (rate_of (sync_of p).format) (rate_of (sync_of p).format) refl) (eq-eqb (substreams_of p.channels) (substreams_of p.channels) refl))
