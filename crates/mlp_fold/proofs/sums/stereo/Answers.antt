use Rattle.std.proofs.Common.{◌≡◌, ℤ, pos, ◌*ℤ◌, FitsSigned, w32, w64, arith, ◌∙◌}
use Rattle.std.proofs.lemmas.Int.{ints, to_z-of_z, int_wrap_fits}
use Rattle.mlp_fold.specs.Mix.{stereo}
use Rattle.mlp_fold.proofs.Samples.{stereo_fits}
use Rattle.mlp_fold.proofs.sums.stereo.Goals as goal

pub returns : goal.returns
returns c =
    let z : ℤ = c.args.coded in
    let wide : FitsSigned w64 z = omega (arith, ints) in
    let wider : FitsSigned w64 (pos 6786 *ℤ z) = omega (arith, ints, c.requires.coded.low, c.requires.coded.high) in
    let word : c.from.result ≡ z = c.from.ensures ∙ to_z-of_z w32 z c.ranges.coded in
    let fits : FitsSigned w32 (stereo c.args.q z) = stereo_fits c.args.q z c.requires.q c.requires.coded.low c.requires.coded.high in
    cc (
      word,
      to_z-of_z w64 z wide,
      to_z-of_z w64 (pos 6786 *ℤ z) wider,
      c.floor_by.ensures,
      to_z-of_z w64 c.floor_by.result (record { sfits = c.floor_by.type_inv }),
      c.clear.ensures,
      to_z-of_z w64 c.clear.result (record { sfits = c.clear.type_inv }),
      c.wrap.ensures,
      to_z-of_z w32 c.wrap.result (record { sfits = c.wrap.type_inv }),
      int_wrap_fits w32 (stereo c.args.q z) fits,
    )
