use Rattle.std.proofs.Common.{◌∙◌, ◌*◌, ◌≤◌, ℕ, ap, arith}
use Rattle.std.proofs.lemmas.Nat.{mul-le}
use Rattle.mlp_fifo.specs.Pace.{unit_of}
use Rattle.mlp_gen.proofs.making.pcm_size.Goals as goal

pub overflow_mul-frames : goal.overflow_mul-frames
overflow_mul-frames c = record { fits = omega (arith, mul-le c.args.units c.unit_frames-unit.result 100000 160 c.requires.units c.unit_frames-unit.ensures.most) }

pub overflow_mul-result : goal.overflow_mul-result
overflow_mul-result c =
    let few : c.args.units * c.unit_frames-unit.result ≤ 16000000 = omega (arith, mul-le c.args.units c.unit_frames-unit.result 100000 160 c.requires.units c.unit_frames-unit.ensures.most) in
    record { fits = omega (arith, mul-le (c.args.units * c.unit_frames-unit.result) c.frame_size-frame.result 16000000 765 few c.frame_size-frame.ensures.most) }

pub returns : goal.returns
returns c =
    ap (λ (u : ℕ). c.args.units * u * c.frame_size-frame.result) c.unit_frames-unit.ensures.is
    ∙ ap (λ (n : ℕ). c.args.units * unit_of c.args.profile.now.rate * n) c.frame_size-frame.ensures.is
