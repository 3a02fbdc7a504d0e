use Rattle.mlp_layout.proofs.Halves.{wide_is}
use Rattle.mlp_layout.proofs.reading.wide.Goals as goal

pub returns : goal.returns
returns c =
    let first = c.in-Ok-Ok.ensures in
    let second = c.in-Ok-Ok.ensures' in
    rw (c.from.ensures, c.from-2.ensures)
    (wide_is c.args.r.now c.take.new.self c.take-2.new.self c.in-Ok-Ok.high c.in-Ok-Ok.low c.place-place.ensures.within first.moved second.moved first.value second.value first.fits (λ lt. second.short.1 lt))
