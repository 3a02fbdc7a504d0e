use Rattle.mlp_bits.specs.Bits.{bits_of}
use Rattle.mlp_residual.proofs.RunLaws.{none_read, all_read}
use Rattle.mlp_residual.proofs.runs.frames_ahead.Goals as goal

pub returns-then-has_bypass-clause-read : goal.returns-then-has_bypass-clause-read
returns-then-has_bypass-clause-read c = all_read c.args.coding.now 0 _ (bits_of c.args.bytes.now) c.args.place c.args.place (none_read c.args.coding.now (bits_of c.args.bytes.now) c.args.place)

pub returns-in_default-clause-read : goal.returns-in_default-clause-read
returns-in_default-clause-read c = all_read c.args.coding.now 0 _ (bits_of c.args.bytes.now) c.args.place c.args.place (none_read c.args.coding.now (bits_of c.args.bytes.now) c.args.place)

pub returns-then-place-lookups-clause-read : goal.returns-then-place-lookups-clause-read
returns-then-place-lookups-clause-read c = all_read c.args.coding.now 0 _ (bits_of c.args.bytes.now) c.args.place c.args.place (none_read c.args.coding.now (bits_of c.args.bytes.now) c.args.place)
