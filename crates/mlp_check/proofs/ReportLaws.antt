-- Of a stream its report comes out.
use Rattle.std.proofs.Common.{ℕ, ◌≤◌, List, [], ◌∷◌, ◌++◌, length, refl, ap, ◌∙◌, ℤ, arith}
use Rattle.mlp_bits.specs.Bits.{bits_of}
use Rattle.mlp_io.specs.Limit.{limit}
use Rattle.mlp_layout.specs.Streams.{Stream}
use Rattle.mlp_answers.specs.Answers.{Gives, finished}
use Rattle.mlp_contents.specs.Units.{Unit_of, start, whole}
use Rattle.mlp_samples.proofs.Streams.{samples_are}
use Rattle.mlp_check.specs.Report.{report_text}
use Rattle.mlp_check.specs.Checking.{checking}
use Rattle.mlp_check.specs.Laws.{HasReport}
use Rattle.mlp_check.proofs.Reports.{has_report, one_report}

-- nothing comes out of a unit
gives_nothing : (k : ℕ) (before us : List Unit_of) → Gives (checking k) before us []
unfolding Gives
gives_nothing k before [] = refl
gives_nothing k before (u ∷ us) = ([], [], refl, gives_nothing k (before ++ u ∷ []) us, refl)

pub reported : (k : ℕ) (bytes : List ℕ) (us : List Unit_of) → length bytes ≤ limit → Stream (whole k) (start k) k (bits_of bytes) us → HasReport k bytes us
reported k bytes us few stream =
    let h = has_report k us in
    record {
      report = h.0;
      is = h.1;
      only = λ other o. one_report k us other h.0 o h.1;
      frames = h.1.frames ∙ ap (λ (xs : List (List ℤ)). length xs) (samples_are k (bits_of bytes) [] us stream.units.begins);
      comes_out = record {
        within = λ le. finished us [] (report_text h.0) refl stream (gives_nothing k [] us) (h.0, h.1, refl) refl;
        past = λ lt. absurd (omega arith);
      };
    }
