-- In a unit of a profile that passes each substream can be sent.
use Rattle.std.proofs.Common.{◌≡◌, ℕ, zero, suc, ◌/◌, ◌%◌, ◌^◌, ◌<◌, ◌≤◌, Bool, true, false, List, take, length, get_or, Option, Some, None, refl, sym, ◌∙◌, subst, arith}
use Rattle.std.specs.Prelude.{IfSome, IsSome, is_some, ◌==◌, ◌||◌, if◌then◌else◌}
use Rattle.std.proofs.lemmas.Bool.Decides.{nat_tests}
use Rattle.std.proofs.lemmas.List.{get_or-take, length-take-le}
use Rattle.std.proofs.lemmas.Nat.{xor_lt}
use Rattle.mlp_syntax.specs.declared.major.Kind.{Kind}
use Rattle.mlp_syntax.specs.declared.major.Kind.TheVariants.{Fbb, Fba}
use Rattle.mlp_params.specs.declared.state.State.{State}
use Rattle.mlp_output.specs.Output.{folded}
use Rattle.mlp_fold.specs.declared.profile.Mix.{Mix}
use Rattle.mlp_fold.specs.declared.profile.Mix.TheVariants.{Split, Fold, Bypass, Side}
use Rattle.mlp_fold.specs.declared.profile.Profile.{Profile}
use Rattle.mlp_fold.specs.declared.coding.CodedFrame.{CodedFrame}
use Rattle.mlp_fold.specs.Profile.{AreMixed, IsShape, has_channels, suits}
use Rattle.mlp_fold.specs.Mix.{channels_of}
use Rattle.mlp_fold.specs.Substreams.{substreams_of}
use Rattle.mlp_encode.specs.Numbers.{has_sync}
use Rattle.mlp_encode.specs.Sync.{restart_of}
use Rattle.mlp_encode.specs.Lawful.{SendsSegment, AreCodedBy, IsRestartOf, IsInForce, AreInForce}
use Rattle.mlp_encode.specs.Unit.{output_timing, check_in, restart_in}
use Rattle.mlp_encode.proofs.Ends.{restart_lawful}
use Rattle.mlp_encode.proofs.Renewed.{substreams_most}
use Rattle.mlp_encode.proofs.SyncAllowed.{Passes}

-- ---- the profile

few_channels : (kind : Kind) (n : ℕ) → has_channels kind n ≡ true → n ≤ 8
few_channels Fbb n h = grind (arith, nat_tests)
few_channels Fba n h = grind (arith, nat_tests)

shape_there : (mix : Mix) (depth channels : ℕ) → channels ≤ 8 → suits mix channels depth ≡ true → IsShape mix channels depth
shape_there Split depth channels few h = few
shape_there Fold depth channels few h = (grind (arith, nat_tests), λ other. grind (arith, nat_tests))
shape_there Bypass depth channels few h = (grind (arith, nat_tests), grind (arith, nat_tests))
shape_there Side depth channels few h = grind (arith, nat_tests)

pub mixed_there : (p : Profile) → Passes p → AreMixed p.mix p.depth p.channels
mixed_there p h = record {
  depth_least = least p.depth h.depth;
  depth_most = most p.depth h.depth;
  shape = shape_there p.mix p.depth p.channels (few_channels p.kind p.channels h.channels) h.suits_it;
}
  where
    least : (d : ℕ) → ((d == 16) || (d == 20) || (d == 24)) ≡ true → 16 ≤ d
    least d h = grind (arith, nat_tests)

    most : (d : ℕ) → ((d == 16) || (d == 20) || (d == 24)) ≡ true → d ≤ 24
    most d h = grind (arith, nat_tests)

top_there : (kind : Kind) (n j : ℕ) → has_channels kind n ≡ true → j < substreams_of n → channels_of j ≤ n
top_there Fbb n zero h lt = grind (arith, nat_tests)
top_there Fba n zero h lt = grind (arith, nat_tests)
top_there Fbb n (suc zero) h lt = grind (arith, nat_tests)
top_there Fba n (suc zero) h lt = grind (arith, nat_tests)
top_there Fbb n (suc (suc j)) h lt = grind (arith, nat_tests)
top_there Fba n (suc (suc j)) h lt = grind (arith, nat_tests)

two_in_fbb : (kind : Kind) (n j : ℕ) → has_channels kind n ≡ true → j < substreams_of n → kind ≡ Fbb → j ≤ 1
two_in_fbb Fbb n j h lt e = grind (arith, nat_tests)
two_in_fbb Fba n j h lt e = absurd (let t : Fba ≡ Fbb = e in cc)

-- ---- the restart

check_small : (n running : ℕ) → check_in n running < 2 ^ 8
check_small n running = by (n == 0)
  where
    bytes : (r : ℕ) → folded r < 2 ^ 8
    bytes r = xor_lt 8 _ _ (xor_lt 8 (r % 2 ^ 8) (r / 2 ^ 8 % 2 ^ 8) (omega arith) (omega arith)) (xor_lt 8 (r / 2 ^ 16 % 2 ^ 8) (r / 2 ^ 24 % 2 ^ 8) (omega arith) (omega arith))

    by : (b : Bool) → (if b then 0 else folded running) < 2 ^ 8
    by true = omega arith
    by false = bytes running

pub restart_is_sync : (p : Profile) (n : ℕ) (checks : List ℕ) (j : ℕ) → is_some (restart_in p n checks j) ≡ has_sync n
restart_is_sync p n checks j = by (has_sync n)
  where
    by : (b : Bool) → is_some (if b then Some (restart_of j (output_timing p n) (check_in n (get_or checks j 0))) else None) ≡ b
    by true = refl
    by false = refl

module _ (p : Profile) (n : ℕ) (checks : List ℕ) (frames : List CodedFrame) (old : List (Option State)) (h : Passes p) (coded : AreCodedBy p frames)
    (force : AreInForce p n (take (substreams_of p.channels) old)) (three : length old ≡ 3) where
  pub sends_there : (j : ℕ) → j < substreams_of p.channels → SendsSegment p j (restart_in p n checks j) (get_or old j None) frames
  sends_there j lt =
      let few : substreams_of p.channels ≤ 3 = substreams_most p.channels in
      let count : length (take (substreams_of p.channels) old) ≡ substreams_of p.channels = length-take-le (substreams_of p.channels) old (omega (arith, few, three)) in
      let within : j < length (take (substreams_of p.channels) old) = omega (arith, lt, count) in
      let same = get_or-take (substreams_of p.channels) old j None lt in
      record {
        which = omega (arith, lt, few);
        shape = mixed_there p h;
        top = top_there p.kind p.channels j h.channels lt;
        frames = coded;
        restarts = restarts (has_sync n);
        force = subst (λ (o : Option State). IfSome o (IsInForce p j)) same (force.each j within);
        there = λ e. subst (λ (o : Option State). IsSome o) same (force.there (sym (restart_is_sync p n checks j) ∙ e) j within);
      }
    where
      restarts : (b : Bool) → IfSome (if b then Some (restart_of j (output_timing p n) (check_in n (get_or checks j 0))) else None) (IsRestartOf p j)
      restarts true = restart_lawful p j (output_timing p n) (check_in n (get_or checks j 0)) (omega (arith, lt, substreams_most p.channels)) (two_in_fbb p.kind p.channels j h.channels lt) (omega arith) (check_small n (get_or checks j 0))
      restarts false = tt
