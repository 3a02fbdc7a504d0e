use Rattle.std.proofs.Common.{length, refl}
use Rattle.mlp_pcm.specs.WaveScan.{header}
use Rattle.mlp_pcm.proofs.OneAnswer.{header_known, same_answer}
use Rattle.mlp_pcm.proofs.MoreBytes.{begins_more, refused_more}
use Rattle.mlp_pcm.proofs.WaveGrammar.{wave_from_says, says_from_wave}
use Rattle.mlp_pcm.proofs.WaveFaults.{wrong_from_says, says_from_wrong}
use Rattle.mlp_pcm.proofs.CutHeaders.{cut_where}
use Rattle.mlp_pcm.proofs.laws.law_header.Goals as goal

pub returns : goal.returns
returns c = record {
  begins = λ bytes format size rest. (wave_from_says bytes format size rest, says_from_wave bytes format size rest);
  refused = λ bytes field. (wrong_from_says bytes field, says_from_wrong bytes field);
  one = λ bytes. ((header (length bytes) bytes, (length bytes, refl), header_known bytes), same_answer bytes);
  stays = λ bytes more. (begins_more bytes more, refused_more bytes more);
  unfinished = cut_where;
}
