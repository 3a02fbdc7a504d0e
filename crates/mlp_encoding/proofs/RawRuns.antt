-- What `encode-raw` does.
use Rattle.std.proofs.Common.{◌≡◌, ℕ, List, [], Option, None, Result, Ok, Err, refl, sym, ap, subst, ◌∙◌, arith}
use Rattle.mlp_syntax.specs.declared.refusal.PcmFault.TheVariants as fault
use Rattle.mlp_syntax.specs.declared.refusal.ProfileFault.{ProfileFault}
use Rattle.mlp_stream.specs.declared.refusal.Refusal.TheVariants as refused
use Rattle.mlp_stream.specs.declared.stop.Stop.{Stop}
use Rattle.mlp_stream.specs.declared.stop.Stop.TheVariants.{Refused}
use Rattle.mlp_stream.specs.Pumped as pumped
use Rattle.mlp_answers.specs.declared.failure.Failure.{Failure}
use Rattle.mlp_answers.specs.declared.failure.Failure.TheVariants.{OutOfMemory, Stopped}
use Rattle.std.proofs.KnownBytes.{Consumes-nil}
use Rattle.mlp_fold.specs.declared.profile.Profile.{Profile}
use Rattle.mlp_fold.specs.Profile.{checked}
use Rattle.mlp_encoding.specs.Encoding.{Encoding, encoding, encode_step, encode_last}
use Rattle.mlp_encoding.specs.Encoded.{Encoded}
use Rattle.mlp_answers.specs.Failures.{end_of}
use Rattle.mlp_encoding.specs.Encodes.{EncodesBy, EncodesRaw}
use Rattle.mlp_encoding.proofs.Answered.{made}
use Rattle.mlp_encoding.proofs.Doing.{between, behind_it, does, does_nothing}

module _ (p : Profile) (before behind written later : Option (List ℕ)) where
  pub encodes_pumped : checked p ≡ Ok tt → (s t : Encoding) (end : Result Unit Stop) → s ≡ encoding p None
      → pumped.Pumped encode_step encode_last 0 s t (between before behind) (between written later) end → (r : Result Unit Failure) → r ≡ end_of end
      → EncodesRaw p (between before behind) (between written later) r
  encodes_pumped ok s t end s_is q r r_is =
      let here = subst (λ (x : Encoding). pumped.Pumped encode_step encode_last 0 x t (between before behind) (between written later) end) s_is q in
      let done = does (Encoded p None) [] (omega arith) (encoding p None) (λ ended bytes. made p ok None (λ e. absurd cc) ended bytes) (λ taken early late split. behind_it early split refl)
      before before behind written later t end (Consumes-nil before) here in
      subst (λ (x : Result Unit Failure). EncodesRaw p (between before behind) (between written later) x) (sym r_is)
      (subst (λ (c : Result Unit ProfileFault). EncodesBy p c (between before behind) (between written later) (end_of end)) (sym ok) done)

  pub encodes_unfit : (f : ProfileFault) (c : Result Unit ProfileFault) → c ≡ checked p → c ≡ Err f → (e : Failure) → e ≡ Stopped (Refused (refused.Pcm (fault.Profile f)))
      → EncodesRaw p (between before before) (between written written) (Err e)
  encodes_unfit f c c_is bad e e_is =
      subst (λ (x : Result Unit ProfileFault). EncodesBy p x (between before before) (between written written) (Err e)) (sym bad ∙ c_is)
      (ap (λ (x : Failure). Err x) e_is, refl, refl)

  pub encodes_nothing : checked p ≡ Ok tt → EncodesRaw p (between before before) (between written written) (Err OutOfMemory)
  encodes_nothing ok =
      subst (λ (c : Result Unit ProfileFault). EncodesBy p c (between before before) (between written written) (Err OutOfMemory)) (sym ok) (does_nothing (Encoded p None) before written)
