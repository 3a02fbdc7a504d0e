use Rattle.std.proofs.Common.{◌≡◌, ◌*◌, ◌∙◌, ap, arith}
use Rattle.mlp_fifo.specs.Pace.{unit_of}
use Rattle.mlp_encoding.specs.Pcm.{full_size}
use Rattle.mlp_encoding.specs.Sizes.{sizes}
use Rattle.mlp_encoding.proofs.sizes.full_size.Goals as goal

pub returns-clause-some : goal.returns-clause-some
returns-clause-some c =
    let e : c.unit_frames.result * c.frame_size.result ≡ full_size c.args.profile.now =
    ap (λ n. n * c.frame_size.result) c.unit_frames.ensures.value ∙ ap (λ n. unit_of c.args.profile.now.rate * n) c.frame_size.ensures in
    omega (arith, e, (sizes c.args.profile.now c.requires).full_some)
