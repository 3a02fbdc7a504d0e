use Rattle.std.proofs.Common.{◌≡◌}
use Rattle.std.specs.Option.{option_copied}
use Rattle.mlp_bits.specs.Bits.{bits_of}
use Rattle.mlp_substream.specs.Checks.{bytes_of}
use Rattle.mlp_encode.specs.Encoding.{body_with}
use Rattle.mlp_encode.proofs.UnitSent.{written_bytes}
use Rattle.mlp_encode.proofs.progress.write_sent.Goals as goal

pub returns : goal.returns
returns c =
    let out = c.write_unit-too_long.new.out.items in
    let own : bytes_of (bits_of c.write_unit-too_long.new.out.items) ≡ c.write_unit-too_long.new.out.items = cc in
    written_bytes c.args.time (body_with (option_copied c.args.major) c.args.written.now) out c.requires.size own c.write_unit-too_long.result c.deref.result.now c.deref-2.result.now
    c.deref.ensures.0 c.deref-2.ensures.0 c.write_unit-too_long.ensures.too_long c.write_unit-too_long.ensures.written
