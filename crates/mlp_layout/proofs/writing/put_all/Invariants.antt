use Rattle.std.proofs.Common.{drop}
use Rattle.std.specs.List.{flat_map, AllByRecursion}
use Rattle.mlp_layout.specs.Writing.{FieldFits, field_bits}
use Rattle.mlp_layout.proofs.WritingLaws.{SoFar}
use Rattle.mlp_layout.proofs.writing.put_all.Given as goal

abbrev pub invariant-loop-field : goal.invariant-loop-field
invariant-loop-field l = SoFar l.fn.w l.w (flat_map field_bits (drop l.field-index l.fields)) (flat_map field_bits l.fields) × AllByRecursion FieldFits (drop l.field-index l.fields)
