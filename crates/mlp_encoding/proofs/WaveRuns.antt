-- What `encode-wav` does.
use Rattle.std.proofs.Common.{◌≡◌, ℕ, ◌+◌, ◌-◌, ◌≤◌, ◌++◌, Bool, true, false, List, [], ◌∷◌, length, take, Option, None, Some, Result, Ok, Err, IfSome, ◌⊎◌, inl, inr, refl, sym, ap, subst, ◌∙◌, arith, append_assoc, length-append}
use Rattle.std.proofs.lemmas.List.{append-nil, append_cancel_right, take_at}
use Rattle.std.proofs.Math.Seq.{take-append-add}
use Rattle.std.specs.Io.KnownBytes.{Consumes, IsAtEnd}
use Rattle.mlp_io.specs.Limit.{limit}
use Rattle.mlp_syntax.specs.declared.major.Kind.{Kind}
use Rattle.mlp_syntax.specs.declared.refusal.PcmFault.TheVariants as fault
use Rattle.mlp_syntax.specs.declared.refusal.ProfileFault.{ProfileFault}
use Rattle.mlp_syntax.specs.declared.refusal.WaveField.{WaveField}
use Rattle.mlp_stream.specs.declared.refusal.Refusal.TheVariants as refusal
use Rattle.mlp_stream.specs.declared.stop.Stop.{Stop}
use Rattle.mlp_stream.specs.declared.stop.Stop.TheVariants.{Refused, ReadFault, TooLong}
use Rattle.mlp_stream.specs.Streams.{IsPrefix}
use Rattle.mlp_stream.specs.Pumped as pumped
use Rattle.mlp_answers.specs.declared.failure.Failure.{Failure}
use Rattle.mlp_answers.specs.declared.failure.Failure.TheVariants.{Stopped}
use Rattle.mlp_pcm.specs.declared.wave_format.Format.{Format}
use Rattle.mlp_pcm.specs.declared.wave_bytes.WaveRefusal.{WaveRefusal}
use Rattle.mlp_pcm.specs.declared.wave_bytes.WaveRefusal.TheVariants.{Read, Header, TooLong as HeaderTooLong}
use Rattle.mlp_pcm.specs.declared.wave_reader.WaveInfo.{WaveInfo}
use Rattle.mlp_pcm.specs.WaveScan.{Answer as Header_answer, begins, refused, unfinished, unknown, header, Says, Ends, Began, format_of}
use Rattle.mlp_pcm.proofs.OneAnswer.{header_known, same_answer}
use Rattle.mlp_pcm.proofs.MoreBytes.{begins_more, refused_more}
use Rattle.mlp_fold.specs.declared.profile.Profile.{Profile}
use Rattle.mlp_fold.specs.declared.profile.Mix.{Mix}
use Rattle.mlp_fold.specs.Profile.{checked}
use Rattle.mlp_encoding.specs.Pcm.{refusing}
use Rattle.mlp_encoding.specs.Encoding.{Encoding, encoding, encode_step, encode_last}
use Rattle.mlp_encoding.specs.Encoded.{Encoded}
use Rattle.mlp_answers.specs.Failures.{end_of}
use Rattle.mlp_encoding.specs.Encodes.{Answer, Soon, IsTimely, Does}
use Rattle.mlp_encoding.specs.Wave.{profile_in, WaveEncoded, encoded, unfit, wrong, cut, waits, EncodesWave, header_failure}
use Rattle.mlp_encoding.proofs.Answered.{made, none_made}
use Rattle.mlp_encoding.proofs.Doing.{between, Splits, behind_it, in_it, does, stops_at}

-- ---- the answers of headers

not_refused : (xs : List ℕ) (f : WaveField) (g : WaveField) → Says xs (refused f) → Says xs (unfinished g) → ⊥
not_refused xs f g a b = cc (same_answer xs (refused f) (unfinished g) a b (λ e. cc) (λ e. cc))

begins_not_refused : (xs : List ℕ) (format : Format) (size : ℕ) (rest : List ℕ) (g : WaveField) → Says xs (begins format size rest) → Says xs (refused g) → ⊥
begins_not_refused xs format size rest g a b = cc (same_answer xs (begins format size rest) (refused g) a b (λ e. cc) (λ e. cc))

begins_not_unfinished : (xs : List ℕ) (format : Format) (size : ℕ) (rest : List ℕ) (g : WaveField) → Says xs (begins format size rest) → Says xs (unfinished g) → ⊥
begins_not_unfinished xs format size rest g a b = cc (same_answer xs (begins format size rest) (unfinished g) a b (λ e. cc) (λ e. cc))

rest_of : Header_answer → List ℕ
rest_of (begins format size rest) = rest
rest_of (refused f) = []
rest_of (unfinished f) = []
rest_of unknown = []

same_rest : (xs : List ℕ) (f g : Format) (m n : ℕ) (ys zs : List ℕ) → Says xs (begins f m ys) → Says xs (begins g n zs) → ys ≡ zs
unfolding rest_of
same_rest xs f g m n ys zs a b = ap rest_of (same_answer xs (begins f m ys) (begins g n zs) a b (λ e. cc) (λ e. cc))

module _ (kind : Kind) (mix : Mix) where
  abbrev Made : Bool → List ℕ → Result Unit Stop → List ℕ → Type 0
  Made = WaveEncoded kind mix

  -- ---- a header was read, and the data are encoded

  split_by : (front taken early late : List ℕ) (format : Format) (size : ℕ) → Says front (begins format size []) → front ++ taken ≡ early ++ late → (a : Header_answer) → Says early a → (a ≡ unknown → ⊥) → Splits Made front taken early late
  split_by front taken early late format size says split (begins f m rest) a known =
      let all = begins_more front taken format size [] says in
      let other = subst (λ (xs : List ℕ). Says xs (begins f m (rest ++ late))) (sym split) (begins_more early late f m rest a) in
      let taken_is : taken ≡ rest ++ late = same_rest (front ++ taken) format f size m taken (rest ++ late) all other in
      behind_it rest taken_is (sym (append_cancel_right (front ++ rest) early late (append_assoc front rest late ∙ ap (λ (xs : List ℕ). front ++ xs) (sym taken_is) ∙ split)))
  split_by front taken early late format size says split (refused f) a known =
      absurd (begins_not_refused (front ++ taken) format size taken f (begins_more front taken format size [] says) (subst (λ (xs : List ℕ). Says xs (refused f)) (sym split) (refused_more early late f a)))
  split_by front taken early late format size says split (unfinished f) a known = in_it (Err TooLong) (waits f refl a)
  split_by front taken early late format size says split unknown a known = absurd (known refl)

  module _ (before middle : Option (List ℕ)) (info : WaveInfo) (is : Began before middle info) where
    abbrev wanted : Profile
    wanted = profile_in kind mix (format_of info)

    pub encodes_pumped : checked wanted ≡ Ok tt → (info.size ≡ 0 → ⊥) → (behind written later : Option (List ℕ)) (s t : Encoding) (end : Result Unit Stop) → s ≡ encoding wanted (Some info.size)
        → pumped.Pumped encode_step encode_last info.taken s t (between middle behind) (between written later) end → (r : Result Unit Failure) → r ≡ end_of end
        → EncodesWave kind mix (between before behind) (between written later) r
    encodes_pumped ok some behind written later s t end s_is q r r_is =
        let front = is.0 in
        let says = is.4 in
        let here = subst (λ (n : ℕ). pumped.Pumped encode_step encode_last n s t (between middle behind) (between written later) end) is.2 q in
        let there = subst (λ (x : Encoding). pumped.Pumped encode_step encode_last (length front) x t (between middle behind) (between written later) end) s_is here in
        subst (λ (x : Result Unit Failure). Does Made (between before behind) (between written later) x) (sym r_is)
        (does Made front (omega (arith, is.2, is.3)) (encoding wanted (Some info.size))
        (λ ended bytes. encoded (format_of info) info.size bytes (begins_more front bytes (format_of info) info.size [] says) ok (made wanted ok (Some info.size) (λ e. some (size_is e)) ended bytes))
        (λ taken early late split. split_by front taken early late (format_of info) info.size says split (header (length early) early) (length early, refl) (header_known early))
        before middle behind written later t end is.1 there)
      where
        size_is : Some info.size ≡ Some 0 → info.size ≡ 0
        size_is e = cc

  -- ---- what bytes tell however they go on

  answers : (before behind : Option (List ℕ)) (front : List ℕ) (end : Result Unit Stop) → Consumes before behind front → length front ≤ limit → ((ended : Bool) (ys : List ℕ) → Made ended (front ++ ys) end [])
      → IfSome before (λ all. Answer Made all end [])
  answers None behind front end c fits h = tt
  answers (Some all) None front end c fits h = absurd c
  answers (Some all) (Some ys) front end c fits h =
      let sum : limit ≡ length front + (limit - length front) = omega (arith, fits) in
      let front_is : take limit all ≡ front ++ take (limit - length front) ys = ap (take limit) c ∙ ap (λ (n : ℕ). take n (front ++ ys)) sum ∙ take-append-add front ys (limit - length front) in
      record {
        within = λ le. subst (λ (xs : List ℕ). Made true xs end []) (sym c) (h true ys);
        past = λ lt. subst (λ (xs : List ℕ). Made false xs end []) (sym front_is) (h false (take (limit - length front) ys));
      }

  pub encodes_unfit : (before behind written : Option (List ℕ)) (info : WaveInfo) → Began before behind info → (f : ProfileFault) → checked (profile_in kind mix (format_of info)) ≡ Err f
      → (e : Failure) → e ≡ Stopped (Refused (refusal.Pcm (fault.Profile f)))
      → EncodesWave kind mix (between before behind) (between written written) (Err e)
  encodes_unfit before behind written info is f bad e e_is =
      subst (λ (x : Failure). Does Made (between before behind) (between written written) (Err x)) (sym e_is)
      (stops_at Made before behind written is.0 TooLong (Stopped (Refused (refusal.Pcm (fault.Profile f)))) is.1 (omega (arith, is.2, is.3))
      (answers before behind is.0 (refusing (fault.Profile f)) is.1 (omega (arith, is.2, is.3)) (λ ended ys. unfit (format_of info) info.size ys f (begins_more is.0 ys (format_of info) info.size [] is.4) bad)))

  pub encodes_empty : (before behind written : Option (List ℕ)) (info : WaveInfo) → Began before behind info → checked (profile_in kind mix (format_of info)) ≡ Ok tt → info.size ≡ 0
      → (e : Failure) → e ≡ Stopped (Refused (refusal.Pcm fault.Empty))
      → EncodesWave kind mix (between before behind) (between written written) (Err e)
  encodes_empty before behind written info is ok nil e e_is =
      let p = profile_in kind mix (format_of info) in
      subst (λ (x : Failure). Does Made (between before behind) (between written written) (Err x)) (sym e_is)
      (stops_at Made before behind written is.0 TooLong (Stopped (Refused (refusal.Pcm fault.Empty))) is.1 (omega (arith, is.2, is.3))
      (answers before behind is.0 (refusing fault.Empty) is.1 (omega (arith, is.2, is.3)) (λ ended ys. encoded (format_of info) info.size ys (begins_more is.0 ys (format_of info) info.size [] is.4) ok
      (subst (λ (n : ℕ). Encoded p (Some n) ended ys (refusing fault.Empty) []) (sym nil) (none_made p ended ys)))))

  -- ---- no header was read

  soon_none : (xs early late : List ℕ) (field : WaveField) → Says xs (unfinished field) → xs ≡ early ++ late → (a : Header_answer) → Says early a → (a ≡ unknown → ⊥) → (zs : List ℕ) × Soon Made early zs × IsPrefix zs []
  soon_none xs early late field says split (begins f m rest) a known =
      absurd (begins_not_unfinished xs f m (rest ++ late) field (subst (λ (ys : List ℕ). Says ys (begins f m (rest ++ late))) (sym split) (begins_more early late f m rest a)) says)
  soon_none xs early late field says split (refused f) a known =
      absurd (not_refused xs f field (subst (λ (ys : List ℕ). Says ys (refused f)) (sym split) (refused_more early late f a)) says)
  soon_none xs early late field says split (unfinished f) a known = ([], record { end = Err TooLong; is = waits f refl a }, ([], refl))
  soon_none xs early late field says split unknown a known = absurd (known refl)

  timely_none : (xs : List ℕ) (field : WaveField) → Says xs (unfinished field) → IsTimely Made xs []
  timely_none xs field says = record {
    sure = ([], record { end = Err TooLong; is = waits field refl says }, ([], refl));
    prompt = λ early late split far. soon_none xs early late field says split (header (length early) early) (length early, refl) (header_known early);
  }

  cut_answer : (before behind : Option (List ℕ)) (xs : List ℕ) (field : WaveField) → Consumes before behind xs → length xs ≤ limit → Says xs (unfinished field) → IsAtEnd behind
      → IfSome before (λ all. Answer Made all (refusing (fault.WaveHeader field)) [])
  cut_answer None behind xs field c fits says over = tt
  cut_answer (Some all) None xs field c fits says over = absurd c
  cut_answer (Some all) (Some ys) xs field c fits says over =
      let all_is : all ≡ xs = c ∙ ap (λ (zs : List ℕ). xs ++ zs) over ∙ append-nil xs in
      record {
        within = λ le. subst (λ (zs : List ℕ). Made true zs (refusing (fault.WaveHeader field)) []) (sym all_is) (cut field refl says);
        past = λ lt. absurd (omega (arith, lt, fits, ap length all_is));
      }

  long_answer : (before behind : Option (List ℕ)) (xs : List ℕ) (b : ℕ) (field : WaveField) → Consumes before behind (xs ++ b ∷ []) → length xs ≡ limit → Says xs (unfinished field) → IfSome before (λ all. Answer Made all (Err TooLong) [])
  long_answer None behind xs b field c size says = tt
  long_answer (Some all) None xs b field c size says = absurd c
  long_answer (Some all) (Some ys) xs b field c size says =
      let all_is : all ≡ xs ++ (b ∷ ys) = c ∙ append_assoc xs (b ∷ []) ys in
      record {
        within = λ le. absurd (omega (arith, le, size, ap length all_is, length-append xs (b ∷ ys)));
        past = λ lt. subst (λ (zs : List ℕ). Made false zs (Err TooLong) []) (sym (ap (take limit) all_is ∙ take_at xs (b ∷ ys) limit size)) (waits field refl says);
      }

  header_stops : (before behind written : Option (List ℕ)) (r : WaveRefusal) → Ends before behind 0 Says r → EncodesWave kind mix (between before behind) (between written written) (Err (header_failure r))
  header_stops before behind written Read h =
      stops_at Made before behind written h.0 TooLong (Stopped ReadFault) h.1 (omega (arith, h.2)) (timely_none h.0 h.3 h.4)
  header_stops before behind written (Header field) h =
      stops_at Made before behind written h.0 TooLong (Stopped (Refused (refusal.Pcm (fault.WaveHeader field)))) h.1 (omega (arith, h.2)) (by_field h.3)
    where
      by_field : Says h.0 (refused field) ⊎ (Says h.0 (unfinished field) × IsAtEnd behind) → IfSome before (λ all. Answer Made all (refusing (fault.WaveHeader field)) [])
      by_field (inl says) = answers before behind h.0 (refusing (fault.WaveHeader field)) h.1 (omega (arith, h.2)) (λ ended ys. wrong field (refused_more h.0 ys field says))
      by_field (inr says) = cut_answer before behind h.0 field h.1 (omega (arith, h.2)) says.0 says.1
  header_stops before behind written HeaderTooLong h =
      stops_at Made before behind written (h.0 ++ h.1 ∷ []) TooLong (Stopped TooLong) h.2 (omega (arith, h.3, length-append h.0 (h.1 ∷ []))) (long_answer before behind h.0 h.1 h.4 h.2 (omega (arith, h.3)) h.5)

  pub encodes_header : (before behind written : Option (List ℕ)) (r : WaveRefusal) → Ends before behind 0 Says r → (e : Failure) → e ≡ header_failure r → EncodesWave kind mix (between before behind) (between written written) (Err e)
  encodes_header before behind written r h e e_is = subst (λ (x : Failure). Does Made (between before behind) (between written written) (Err x)) (sym e_is) (header_stops before behind written r h)
