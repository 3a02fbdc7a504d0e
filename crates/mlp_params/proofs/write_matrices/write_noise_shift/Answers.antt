use Rattle.std.proofs.Common.{refl}
use Rattle.mlp_layout.specs.Layout.{made, number_of}
use Rattle.mlp_layout.specs.Combined.{chosen}
use Rattle.mlp_layout.proofs.WritingLaws.{wrote_none, writes_as}
use Rattle.mlp_params.specs.Matrices.{noise_shift_of}
use Rattle.mlp_params.proofs.WritingMatrices.{noise_fits, noise_text}
use Rattle.mlp_params.proofs.write_matrices.write_noise_shift.Goals as goal

pub returns-then-kind-eq0 : goal.returns-then-kind-eq0
unfolding noise_shift_of chosen made
returns-then-kind-eq0 c = rw c.if-kind-eq0.true (record { ok = wrote_none c.args.w.now c.args.w.now refl c.place-place.ensures.small; err = tt })

pub put_number-requires-clause-value : goal.put_number-requires-clause-value
put_number-requires-clause-value c = rw c.from.ensures (noise_fits c.args.kind c.args.noise_shift c.if-kind-eq0.false c.requires)

pub returns : goal.returns
unfolding number_of
returns c = let a = rw c.from.ensures at c.put_number.ensures in writes_as (noise_text c.args.kind c.args.noise_shift c.if-kind-eq0.false) a
