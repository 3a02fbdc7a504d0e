use Rattle.std.proofs.Common.{refl, sym}
use Rattle.mlp_layout.proofs.WritingLaws.{wrote_none, writes_as}
use Rattle.mlp_layout.proofs.SignedLaws.{no_bits}
use Rattle.mlp_params.proofs.write_filters.write_signed.Goals as goal

pub returns-then-width-eq0 : goal.returns-then-width-eq0
returns-then-width-eq0 c = rw c.if-width-eq0.true (writes_as (sym (no_bits c.args.value)) (record { ok = wrote_none c.args.w.now c.args.w.now refl c.place-place.ensures.small; err = tt }))
