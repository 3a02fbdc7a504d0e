use Rattle.std.proofs.Common.{◌≡◌}
use Rattle.std.specs.Option.{option_copied}
use Rattle.mlp_bits.specs.Bits.{bits_of}
use Rattle.mlp_substream.specs.Checks.{bytes_of}
use Rattle.mlp_retime.proofs.Putting.{put_bytes}
use Rattle.mlp_retime.proofs.retimer.put_unit.Goals as goal

pub returns : goal.returns
returns c =
    let o = c.args.outer.now in
    let m : option_copied c.as_ref.result ≡ o.major = cc in
    let e : c.deref.result.now ≡ o.entries.items = cc in
    let own : bytes_of (bits_of c.write_unit-fits.new.out.items) ≡ c.write_unit-fits.new.out.items = cc in
    put_bytes c.args.input o.major _ o.entries.items _ c.args.body.now c.requires.counted c.requires.size m e c.write_unit-fits.result c.write_unit-fits.new.out.items own c.write_unit-fits.ensures.too_long c.write_unit-fits.ensures.written
