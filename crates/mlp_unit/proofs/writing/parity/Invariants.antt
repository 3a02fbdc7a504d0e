use Rattle.std.proofs.Common.{◌≡◌, ◌<◌}
use Rattle.std.specs.Prelude.{bit_xor}
use Rattle.mlp_unit.specs.AccessUnit.{half_byte_sum, parity_of}
use Rattle.mlp_unit.proofs.WordTexts.{entries_left, EntriesFit}
use Rattle.mlp_unit.proofs.writing.parity.Given as goal

abbrev pub invariant-loop-entry : goal.invariant-loop-entry
invariant-loop-entry l = record {
  so_far : bit_xor l.sum (half_byte_sum (entries_left l.entries l.entry-index)) ≡ parity_of (record { check = 0; words = l.words; timing = l.timing }) l.entries;
  fits : EntriesFit l.entries l.entry-index;
  small : l.sum < 16;
}
