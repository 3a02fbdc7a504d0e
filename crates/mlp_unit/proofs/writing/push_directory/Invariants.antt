use Rattle.std.proofs.Common.{◌≡◌, ◌+◌, ◌++◌, drop, length}
use Rattle.arrayvec.specs.ArrayVec.{array_vec_len}
use Rattle.mlp_bits.specs.Bits.{bits_of}
use Rattle.mlp_unit.specs.Directory.{directory, directory_size}
use Rattle.mlp_unit.proofs.WordTexts.{entries_left, EntriesFit}
use Rattle.mlp_unit.proofs.writing.push_directory.Given as goal

abbrev pub invariant-loop-entry : goal.invariant-loop-entry
invariant-loop-entry l = record {
  so_far : bits_of l.out.items ++ entries_left l.entries l.entry-index ≡ bits_of l.fn.out.items ++ (directory (length l.entries)).spelling l.entries;
  fits : EntriesFit l.entries l.entry-index;
  size : array_vec_len l.out + directory_size (drop l.entry-index l.entries) ≡ array_vec_len l.fn.out + directory_size l.entries;
}
