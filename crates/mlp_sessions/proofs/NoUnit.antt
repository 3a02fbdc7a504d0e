-- No bytes have no unit.
use Rattle.std.proofs.Common.{◌≡◌, [], Err, Option, refl}
use Rattle.mlp_syntax.specs.declared.fault.Field.TheVariants as rule
use Rattle.mlp_syntax.specs.declared.major.MajorSync.{MajorSync}
use Rattle.mlp_bits.specs.Bits.{bits_of}
use Rattle.mlp_layout.specs.Layout.{number_of, ruled, whole, part, made}
use Rattle.mlp_layout.specs.Reading.{broken, number_at}
use Rattle.mlp_unit.specs.AccessUnit.{head, head_fields}
use Rattle.mlp_unit.specs.Frame.{frame_of}
use Rattle.mlp_unit.specs.Shape.{unit_read}
use Rattle.mlp_unit.proofs.FrameLaws.{no_frame}

no_head : frame_of [] ≡ Err (broken rule.UnitHeader 0)
unfolding head head_fields ruled whole part number_of made bits_of number_at
no_head = refl

pub none_read : (first : Option MajorSync) → unit_read first [] ≡ Err (broken rule.UnitHeader 0)
none_read first = no_frame first [] (broken rule.UnitHeader 0) no_head
