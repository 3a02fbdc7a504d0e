use Rattle.std.proofs.Common.{◌≡◌, ◌+◌, ◌-◌, length, arith, rules}
use Rattle.std.proofs.lemmas.List.{length-take-le}
use Rattle.mlp_io.specs.Limit.{limit}
use Rattle.mlp_pcm.proofs.Stopping.{past}
use Rattle.mlp_pcm.proofs.wave_bytes.take_past.Goals as goal

pub returns-else-count-room-clause-stops : goal.returns-else-count-room-clause-stops
returns-else-count-room-clause-stops g c =
    let same : length c.fill.new.buf ≡ limit - c.args.taken + 1 = search rules in
    let l = length-take-le c.in-Ok.count c.fill.new.buf c.in-Ok.ensures.bound in
    past (g.S.Source.left c.args.source.now) (g.S.Source.left c.fill.new.source) c.args.taken (limit - c.args.taken) (length c.args.buf.now) c.args.short
    _ c.in-Ok.ensures.bytes (omega (arith, l, same, c.in-Ok.ensures.bound)) (omega arith) (omega arith)
