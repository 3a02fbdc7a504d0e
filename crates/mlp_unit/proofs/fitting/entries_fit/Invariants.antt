use Rattle.std.proofs.Common.{◌↔◌, length}
use Rattle.mlp_unit.specs.Directory.{directory}
use Rattle.mlp_unit.proofs.WordTexts.{EntriesFit}
use Rattle.mlp_unit.proofs.fitting.entries_fit.Given as goal

abbrev pub invariant-loop-entry : goal.invariant-loop-entry
invariant-loop-entry l = EntriesFit l.entries l.entry-index ↔ (directory (length l.entries)).Fits l.entries
