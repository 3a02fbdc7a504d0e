use Rattle.std.proofs.Common.{lit<, refl}
use Rattle.mlp_layout.specs.Layout.{number_of, seen}
use Rattle.mlp_layout.specs.Combined.{signed_of}
use Rattle.mlp_tests_format.proofs.layout.writes_fields.Goals as goal

pub put_signed-requires-clause-value : goal.put_signed-requires-clause-value
unfolding signed_of seen number_of
put_signed-requires-clause-value c c' = (lit< tt, refl)

pub put_signed-requires-2-clause-value : goal.put_signed-requires-2-clause-value
unfolding signed_of seen number_of
put_signed-requires-2-clause-value c c' = (lit< tt, refl)
