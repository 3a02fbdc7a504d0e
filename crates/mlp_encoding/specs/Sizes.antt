-- The sizes of frames and units of a profile that passes.
use Rattle.std.proofs.Common.{◌≡◌, ℕ, ◌*◌, ◌<◌, ◌≤◌, Bool, true, false, Ok, arith}
use Rattle.std.specs.Prelude.{◌==◌, if◌then◌else◌}
use Rattle.std.proofs.Math.Nat.{mul-le-mul}
use Rattle.std.proofs.lemmas.Bool.Decides.{nat_tests}
use Rattle.std.proofs.lemmas.Nat.{mul-le}
use Rattle.mlp_syntax.specs.declared.major.Kind.{Kind}
use Rattle.mlp_syntax.specs.declared.major.Kind.TheVariants.{Fbb, Fba}
use Rattle.mlp_pcm.specs.Samples.{IsForm}
use Rattle.mlp_fifo.specs.Pace.{unit_of}
use Rattle.mlp_fifo.proofs.Paces.{unit_most}
use Rattle.mlp_fold.specs.declared.profile.Profile.{Profile}
use Rattle.mlp_fold.specs.Profile.{checked, has_channels, has_depth}
use Rattle.mlp_encode.proofs.SyncAllowed.{passes}
use Rattle.mlp_encoding.specs.Pcm.{sample_size, frame_size, full_size}

-- two to eight channels of two or three bytes each
pub record AreSizes (p : Profile) : Type 0 where
  pub form : IsForm (sample_size p.depth) p.depth
  pub some_channels : 1 ≤ p.channels
  pub few_channels : p.channels ≤ 8
  pub frame_some : 0 < frame_size p
  pub unit_some : 0 < unit_of p.rate
  pub full_some : 0 < full_size p
  pub full_most : full_size p ≤ 3840

channels_there : (kind : Kind) (n : ℕ) → has_channels kind n ≡ true → (1 ≤ n) × (n ≤ 8)
channels_there Fbb n h = grind (arith, nat_tests)
channels_there Fba n h = grind (arith, nat_tests)

form_there : (depth : ℕ) → has_depth depth ≡ true → IsForm (sample_size depth) depth
form_there depth h = grind (arith, nat_tests)

unit_least : (rate : ℕ) → 40 ≤ unit_of rate
unfolding unit_of
unit_least rate = grind (arith, nat_tests)

sample_bounds : (depth : ℕ) → (2 ≤ sample_size depth) × (sample_size depth ≤ 3)
sample_bounds depth = go (depth == 16)
  where
    go : (b : Bool) → let n : ℕ = if b then 2 else 3 in (2 ≤ n) × (n ≤ 3)
    go true = (omega arith, omega arith)
    go false = (omega arith, omega arith)

pub sizes : (p : Profile) → checked p ≡ Ok tt → AreSizes p
sizes p e =
    let h = passes p e in
    let c = channels_there p.kind p.channels h.channels in
    let s = sample_bounds p.depth in
    let u = unit_least p.rate in
    let frame_least : 1 * 2 ≤ frame_size p =
    mul-le-mul {n₁ = 1} {m₁ = 2} {n₂ = p.channels} {m₂ = sample_size p.depth} c.0 s.0 in
    let frame_most : frame_size p ≤ 8 * 3 = mul-le p.channels (sample_size p.depth) 8 3 c.1 s.1 in
    let full_least : 40 * 2 ≤ full_size p =
    mul-le-mul {n₁ = 40} {m₁ = 2} {n₂ = unit_of p.rate} {m₂ = frame_size p} u (omega (arith, frame_least)) in
    let full_most : full_size p ≤ 160 * 24 =
    mul-le (unit_of p.rate) (frame_size p) 160 24 (unit_most p.rate) frame_most in
    record {
      form = form_there p.depth h.depth;
      some_channels = c.0;
      few_channels = c.1;
      frame_some = omega (arith, frame_least);
      unit_some = omega (arith, u);
      full_some = omega (arith, full_least);
      full_most = full_most;
    }
