use Rattle.mlp_bits.specs.Bits.{bits_of}
use Rattle.mlp_substream.proofs.PlayableLaws.{into_plays}
use Rattle.mlp_substream.proofs.segment.read_segment_into.Goals as goal

pub returns-clause-playable : goal.returns-clause-playable
returns-clause-playable c =
    into_plays c.args.place.now c.args.known.now c.args.state.now c.args.checked c.requires.place c.requires.state c.read_whole.result (bits_of c.args.bytes.now) c.read_whole.new.out c.read_whole.ensures.read
