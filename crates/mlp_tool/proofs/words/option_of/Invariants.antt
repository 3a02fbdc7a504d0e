use Rattle.std.proofs.Common.{◌≡◌, drop}
use Rattle.mlp_tool.specs.Words.{option_of}
use Rattle.mlp_tool.proofs.words.option_of.Given as goal

abbrev pub invariant-loop-name : goal.invariant-loop-name
invariant-loop-name l = option_of (drop l.name-index l.names) l.word ≡ option_of l.names l.word
