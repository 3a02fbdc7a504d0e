use Rattle.std.proofs.Common.{◌≡◌, ◌+◌, length, ap, arith}
use Rattle.arrayvec.specs.ArrayVec.{array_vec_len}
use Rattle.mlp_layout.specs.Layout.{number_of}
use Rattle.mlp_params.proofs.RestartRanges.{ranges}
use Rattle.mlp_residual.proofs.FrameLaws.{listed-length}
use Rattle.mlp_residual.proofs.in_force.coding_in_force.Goals as goal

pub coded_from-requires-clause-least : goal.coded_from-requires-clause-least
coded_from-requires-clause-least c =
    let s = c.args.state.now in
    let r = ranges s.format s.restart c.requires.state.restart in
    let len : length c.deref-2.result.now ≡ array_vec_len s.channels = ap (λ xs. length xs) c.deref-2.ensures.0 in
    omega (arith, r.order, len, c.requires.state.channel_count)

pub coded_from-requires-clause-same : goal.coded_from-requires-clause-same
coded_from-requires-clause-same c =
    let s = c.args.state.now in
    let channels : length c.deref-2.result.now ≡ array_vec_len s.channels = ap (λ xs. length xs) c.deref-2.ensures.0 in
    let steps : length c.deref-3.result.now ≡ array_vec_len s.steps = ap (λ xs. length xs) c.deref-3.ensures.0 in
    omega (arith, channels, steps, c.requires.state.channel_count, listed-length (number_of 4) (s.restart.max + 1) s.steps c.requires.state.steps)
