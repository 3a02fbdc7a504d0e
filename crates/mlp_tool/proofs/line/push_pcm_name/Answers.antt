use Rattle.std.proofs.Common.{append_assoc, codes}
use Rattle.mlp_tool.specs.Lines.{wave_name}
use Rattle.mlp_tool.proofs.line.push_pcm_name.Goals as goal

pub returns-in-WaveHeader-clause-text : goal.returns-in-WaveHeader-clause-text
returns-in-WaveHeader-clause-text c =
    rw (c.put_text-in-WaveHeader.ensures, c.put_text.ensures, c.wave_name.ensures.text, c.in-WaveHeader.is) (append_assoc c.args.line.now.items (codes "WaveHeader ") (wave_name c.in-WaveHeader.field))

pub returns-in-PartialFrame-clause-text : goal.returns-in-PartialFrame-clause-text
returns-in-PartialFrame-clause-text c = rw c.in-PartialFrame.is c.put_text-in-PartialFrame.ensures
