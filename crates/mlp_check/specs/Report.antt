-- The six lines that are written of a stream.
use Rattle.std.specs.Prelude.{ℕ, Bool, true, false, List, ◌++◌, codes, decimal}
use Rattle.mlp_check.specs.declared.report.Report.{Report}

abbrev pub line : List ℕ → List ℕ → List ℕ
line name value = name ++ codes " " ++ value ++ codes "\n"

abbrev pub timing_name : Bool → List ℕ
timing_name true = codes "yes"
timing_name false = codes "no"

abbrev pub report_text : Report → List ℕ
report_text r =
    line (codes "units") (decimal r.units) ++ line (codes "frames") (decimal r.frames)
    ++ line (codes "channels") (decimal r.channels) ++ line (codes "rate") (decimal r.rate)
    ++ line (codes "restarts") (decimal r.restarts) ++ line (codes "timing") (timing_name r.timed)
