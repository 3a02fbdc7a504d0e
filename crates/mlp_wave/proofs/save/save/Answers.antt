use Rattle.std.proofs.Common.{◌%◌, length, arith}
use Rattle.mlp_wave.proofs.Parts.{put_file, padding_is}
use Rattle.mlp_wave.proofs.save.save.Goals as goal

pub returns-clause-file : goal.returns-clause-file
returns-clause-file g c =
    let padding = padding_is (length c.args.samples.now % 2) (omega arith) in
    let few = rw c.in-Some.ensures.size at c.in-Some.ensures.few in
    put_file c.args.samples.now _ _ c.put_parts.result few
    (rw (c.write_wave_header-header.ensures, c.in-Some.ensures.size, padding) at c.put_parts.ensures.ok)
    (rw (c.write_wave_header-header.ensures, c.in-Some.ensures.size, padding) at c.put_parts.ensures.err)
