-- What comes of bytes that are a stream.
use Rattle.std.specs.Prelude.{◌≡◌, ℕ, List, length, Ok}
use Rattle.mlp_answers.specs.Answers.{Answer}
use Rattle.mlp_contents.specs.Units.{Unit_of}
use Rattle.mlp_samples.specs.Samples.{samples}
use Rattle.mlp_check.specs.declared.report.Report.{Report}
use Rattle.mlp_check.specs.Report.{report_text}
use Rattle.mlp_check.specs.Checking.{IsReport, checking}

-- there is a report of the units, one alone, and it comes out; the frames are those of the presentation's samples
pub record HasReport (k : ℕ) (bytes : List ℕ) (us : List Unit_of) : Type 0 where
  pub report : Report
  pub is : IsReport k us report
  pub only : (other : Report) → IsReport k us other → other ≡ report
  pub frames : report.frames ≡ length (samples k us)
  pub comes_out : Answer (checking k) bytes (Ok tt) (report_text report)
