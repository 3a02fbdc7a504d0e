-- How the command ends.
use Rattle.std.proofs.Common.{◌≡◌, ◌↔◌, ℕ, List, inl, OnOk, IfErr, IsErrOf, Result, Ok, Err, refl, sym, subst}
use Rattle.std.specs.Io.KnownBytes.{Appends}
use Rattle.mlp_io.specs.Causes.{HasCause, IsCause}
use Rattle.mlp_syntax.specs.declared.refusal.ProfileFault.{ProfileFault}
use Rattle.mlp_stream.specs.declared.stop.Stop.{Stop}
use Rattle.mlp_stream.specs.declared.stop.Stop.TheVariants.{Refused, ReadFault, WriteFault, TooLong}
use Rattle.mlp_stream.specs.Sides.{Side}
use Rattle.mlp_stream.specs.Gathers.{IsWriteStop}
use Rattle.mlp_answers.specs.declared.failure.Failure.{Failure}
use Rattle.mlp_answers.specs.declared.failure.Failure.TheVariants.{Usage, OutOfMemory, Stopped}
use Rattle.mlp_answers.specs.Failures.{end_of, is_write_failure}
use Rattle.mlp_fold.specs.declared.profile.Profile.{Profile}
use Rattle.mlp_fold.specs.Profile.{checked}
use Rattle.mlp_encode.specs.declared.encoder.OpenRefusal.{OpenRefusal}
use Rattle.mlp_encode.specs.declared.encoder.OpenRefusal.TheVariants as unopened
use Rattle.mlp_encode.specs.Left.{Left}
use Rattle.mlp_gen.specs.Generated.{IsText, Makes, Generates, open_failure}

abbrev Opened : Type 0
Opened = Result Left OpenRefusal

abbrev err_of : OpenRefusal → Opened
err_of refusal = Err refusal

-- ---- an encoder that wasn't opened

pub opened_err : (p : Profile) (seed count : ℕ) (text : List ℕ) (refusal : OpenRefusal) → ((f : ProfileFault) → IsErrOf (err_of refusal) (unopened.BadProfile f) ↔ (checked p ≡ Err f)) → Makes p seed count text (Err (open_failure refusal))
opened_err p seed count text unopened.Memory bad = tt
opened_err p seed count text (unopened.BadProfile f) bad = inl (f, refl, (bad f).0 refl)

-- ---- the writing

module _ (p : Profile) (seed count : ℕ) (text : List ℕ) (written : Side) (before now : ℕ) where
  pub wrote : (r : Result Unit Stop) → IsText p seed count text → OnOk r (Appends written.before written.behind text) → IfErr r (λ stop. IsWriteStop written text stop) → Generates p seed count written (end_of r)
  wrote (Ok x) is ok err = (text, is, ok)
  wrote (Err stop) is ok err = subst (λ (s : Stop). Generates p seed count written (Err (Stopped s))) (sym err.0) (text, is, err.1)

  pub wrote_cause : (r : Result Unit Stop) → IfErr r (λ stop. IsWriteStop written text stop) → HasCause before now r → IsCause (is_write_failure (end_of r)) before now
  wrote_cause (Ok x) err h = record { rose = λ e. absurd cc; kept = λ e. h.kept }
  wrote_cause (Err stop) err h = subst (λ (s : Stop). IsCause (is_write_failure (Err (Stopped s))) before now) (sym err.0) (record { rose = λ e. h.failed; kept = λ e. absurd cc })

  -- nothing was made, and nothing is written
  pub none_written : (failure : Failure) → Makes p seed count text (Err failure) → written.behind ≡ written.before → Generates p seed count written (Err failure)
  none_written Usage m same = m
  none_written OutOfMemory m same = same
  none_written (Stopped (Refused refusal)) m same = (m, same)
  none_written (Stopped ReadFault) m same = m
  none_written (Stopped WriteFault) m same = absurd m
  none_written (Stopped TooLong) m same = m

  pub none_cause : (failure : Failure) → Makes p seed count text (Err failure) → now ≡ before → IsCause (is_write_failure (Err failure)) before now
  none_cause Usage m same = absurd m
  none_cause OutOfMemory m same = record { rose = λ e. absurd cc; kept = λ e. same }
  none_cause (Stopped (Refused refusal)) m same = record { rose = λ e. absurd cc; kept = λ e. same }
  none_cause (Stopped ReadFault) m same = absurd m
  none_cause (Stopped WriteFault) m same = absurd m
  none_cause (Stopped TooLong) m same = absurd m
