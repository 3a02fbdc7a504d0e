use Rattle.std.proofs.Common.{◌≡◌, ◌<◌, ◌∙◌, ℕ, ap, map, get_or, length, arith}
use Rattle.std.specs.Prelude.{if◌then◌else◌}
use Rattle.mlp_output.specs.Output.{check_of}
use Rattle.mlp_fold.specs.Mix.{presented_of}
use Rattle.mlp_encode.specs.Numbers.{low_zeros}
use Rattle.mlp_encode.specs.Unit.{check_with}
use Rattle.mlp_encode.proofs.Renewed.{substreams_most, not_yet, one_more}
use Rattle.mlp_encode.proofs.unit.checks_behind.Goals as goal

pub loop-k-preserved : goal.loop-k-preserved
loop-k-preserved c =
    let k = c.loop-k.k in
    let p = c.args.profile.now in
    let f = check_with p c.args.sync c.args.checks.now c.args.frames.now in
    let lt : k < 3 = omega (arith, substreams_most p.channels, c.substreams-k-end.ensures, c.loop-k-test.true) in
    let long : length c.args.checks.now ≡ 3 = c.told-checks in
    let with_it : ℕ → ℕ = λ x. check_of (if c.args.sync then 0 else x) (map (presented_of p.mix (low_zeros p.depth) p.channels k) c.args.frames.now) in
    let value = c.check_behind.ensures ∙ ap (λ (i : ℕ). with_it (get_or c.loop-k.checks i 0)) c.from-at.ensures ∙ ap with_it (not_yet f k c.loop-k.checks c.args.checks.now c.loop-k.invariant lt long) in
    one_more f k c.loop-k.checks c.args.checks.now c.loop-k.invariant lt long c.from-at.result c.check_behind.result c.from-at.ensures value
