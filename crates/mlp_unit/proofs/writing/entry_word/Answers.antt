use Rattle.mlp_unit.proofs.WordTexts.{entry_text}
use Rattle.mlp_unit.proofs.writing.entry_word.Goals as goal

pub returns : goal.returns
returns c = entry_text c.args.entry.now _ c.requires cc
