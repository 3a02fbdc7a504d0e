use Rattle.mlp_answers.proofs.SomeAnswer.{has_one_answer}
use Rattle.mlp_check.specs.Checking.{checking}
use Rattle.mlp_check.proofs.Reports.{checking_is}
use Rattle.mlp_cut.specs.Cutting.{cutting}
use Rattle.mlp_cut.proofs.CutterLaws.{cutting_is}
use Rattle.mlp_encoded.proofs.OneAnswer.{one_raw, one_wave}
use Rattle.mlp_extract.specs.Extracting.{extracting}
use Rattle.mlp_extract.proofs.ExtractFollows.{extracting_is}
use Rattle.mlp_gen.proofs.OneText.{one_text}
use Rattle.mlp_recover.proofs.Pieces.{one_recovery}
use Rattle.mlp_recover.proofs.SomePieces.{some_recovery}
use Rattle.mlp_retime.specs.Retiming.{retiming}
use Rattle.mlp_retime.proofs.RetimeFollows.{retiming_is}
use Rattle.mlp_sessions.proofs.ListFollows.{list_has_one}
use Rattle.mlp_sessions.proofs.PlayFollows.{decode_has_one}
use Rattle.mlp_wave.proofs.OneFile.{has_one_file}
use Rattle.mlp_tool.proofs.laws.law_one_answer.Goals as goal

pub returns-clause-decode_raw : goal.returns-clause-decode_raw
returns-clause-decode_raw c = decode_has_one

pub returns-clause-decode_wav : goal.returns-clause-decode_wav
returns-clause-decode_wav c = has_one_file

pub returns-clause-extract : goal.returns-clause-extract
returns-clause-extract c = λ k all. has_one_answer (extracting k) (extracting_is k) all

pub returns-clause-list : goal.returns-clause-list
returns-clause-list c = list_has_one

pub returns-clause-check : goal.returns-clause-check
returns-clause-check c = λ k all. has_one_answer (checking k) (checking_is k) all

pub returns-clause-cut : goal.returns-clause-cut
returns-clause-cut c = λ f n all. has_one_answer (cutting f n) (cutting_is f n) all

pub returns-clause-recover : goal.returns-clause-recover
returns-clause-recover c = λ k all. record { some = some_recovery k all; one = one_recovery k all }

pub returns-clause-retime : goal.returns-clause-retime
returns-clause-retime c = λ all. has_one_answer retiming retiming_is all

pub returns-clause-encode_raw : goal.returns-clause-encode_raw
returns-clause-encode_raw c = one_raw

pub returns-clause-encode_wav : goal.returns-clause-encode_wav
returns-clause-encode_wav c = one_wave

pub returns-clause-generate : goal.returns-clause-generate
returns-clause-generate c = one_text
