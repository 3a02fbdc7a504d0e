use Rattle.mlp_check.proofs.ReportLaws.{reported}
use Rattle.mlp_check.proofs.laws.law_report.Goals as goal

pub returns : goal.returns
returns c = reported
