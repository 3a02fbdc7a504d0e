-- Units have one report.
use Rattle.std.proofs.Common.{◌≡◌, ℕ, ◌↔◌, IsTrue, Bool, true, false, List, length, map, Result, Ok, refl, sym, ap, ◌∙◌}
use Rattle.std.specs.Prelude.{count_by, is_some}
use Rattle.mlp_unit.specs.AccessUnit.{stream_kind, stream_rate}
use Rattle.mlp_stream.specs.declared.refusal.Refusal.{Refusal}
use Rattle.mlp_answers.specs.Working.{IsWorking}
use Rattle.mlp_answers.specs.Answers.{HasOneAnswer}
use Rattle.mlp_answers.proofs.SomeAnswer.{has_one_answer}
use Rattle.mlp_contents.specs.Units.{Unit_of, start}
use Rattle.mlp_contents.proofs.FormatLaws.{whole_is, whole_bytes}
use Rattle.mlp_present.specs.Decoding.{channels_by}
use Rattle.mlp_samples.specs.Samples.{frames_by_steps}
use Rattle.mlp_sessions.specs.PlayLaws.{whole_open}
use Rattle.mlp_check.specs.declared.report.Report.{Report}
use Rattle.mlp_check.specs.Report.{report_text}
use Rattle.mlp_check.specs.Checking.{timed_unit, IsReport, Reports, checking}
use Rattle.mlp_samples.specs.Behind.{left_behind}
use Rattle.mlp_check.proofs.Timings.{timed_decided}

abbrev pub report_with : ℕ → List Unit_of → Bool → Report
report_with k us timed = record {
  units = length us;
  frames = length (frames_by_steps k (start k) us);
  channels = channels_by k (left_behind k us);
  rate = stream_rate (left_behind k us).sync;
  restarts = count_by (λ u. is_some u.outer.major) us;
  timed = timed;
}

pub has_report : (k : ℕ) (us : List Unit_of) → (r : Report) × IsReport k us r
has_report k us =
    let d = timed_decided (stream_kind (left_behind k us).sync) (stream_rate (left_behind k us).sync) (map timed_unit us) in
    (report_with k us d.answer, record { units = refl; frames = refl; channels = refl; rate = refl; restarts = refl; timed = d.is })

same_answer : {P : Type 0} (a b : Bool) → IsTrue a ↔ P → IsTrue b ↔ P → a ≡ b
same_answer true true p q = refl
same_answer true false p q = sym (q.1 (p.0 refl))
same_answer false true p q = p.1 (q.0 refl)
same_answer false false p q = refl

report_is : (k : ℕ) (us : List Unit_of) (r : Report) → IsReport k us r → r ≡ report_with k us r.timed
report_is k us r h = λ i. record { units = h.units i; frames = h.frames i; channels = h.channels i; rate = h.rate i; restarts = h.restarts i; timed = r.timed }

pub one_report : (k : ℕ) (us : List Unit_of) (r q : Report) → IsReport k us r → IsReport k us q → r ≡ q
one_report k us r q a b = report_is k us r a ∙ ap (report_with k us) (same_answer r.timed q.timed a.timed b.timed) ∙ sym (report_is k us q b)

said_once : (k : ℕ) (us : List Unit_of) (x y : Result (List ℕ) Refusal) → Reports k us x → Reports k us y → x ≡ y
said_once k us x y a b = a.2 ∙ ap (λ (r : Report). Ok (report_text r)) (one_report k us a.0 b.0 a.1 b.1) ∙ sym b.2

pub checking_is : (k : ℕ) → IsWorking (checking k)
checking_is k = record {
  format_is = whole_is k;
  takes_bytes = whole_bytes k;
  open_is = whole_open k;
  some_end = λ us. let h = has_report k us in (Ok (report_text h.0), (h.0, h.1, refl));
  one_end = said_once k;
}

pub check_has_one : (k : ℕ) (all : List ℕ) → HasOneAnswer (checking k) all
check_has_one k = has_one_answer (checking k) (checking_is k)
