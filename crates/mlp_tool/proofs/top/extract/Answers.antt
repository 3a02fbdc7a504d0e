use Rattle.mlp_present.specs.Decoding.{opened}
use Rattle.mlp_extract.specs.Extractor.{extract_step, extract_last}
use Rattle.mlp_extract.proofs.ExtractFollows.{extract_works}
use Rattle.mlp_tool.proofs.RunLaws.{pumped_few}
use Rattle.mlp_tool.proofs.top.extract.Goals as goal

pub returns-clause-works : goal.returns-clause-works
returns-clause-works g c = extract_works c.args.presentation _ _ _ c.pump.result (rw c.open-session.ensures at c.pump.ensures.pumped)

pub returns-clause-few : goal.returns-clause-few
returns-clause-few g c = pumped_few extract_step extract_last (opened c.args.presentation) _ _ _ c.pump.result (rw c.open-session.ensures at c.pump.ensures.pumped)
