-- Each input has one answer.
use Rattle.std.proofs.Common.{◌≡◌, ℕ, zero, suc, ◌++◌, Bool, true, false, List, [], ◌∷◌, length, map, take, Option, None, Some, Result, Ok, Err, ℤ, ◌⊎◌, inl, inr, refl, sym, ap, subst, ◌∙◌, arith, length-append, append_assoc}
use Rattle.std.specs.Prelude.{nat_le, ◌||◌}
use Rattle.std.proofs.lemmas.Bool.{cases_lt, le-leb, both_ways}
use Rattle.std.proofs.lemmas.List.{length-take}
use Rattle.std.proofs.lemmas.List.Elements.{All-head}
use Rattle.mlp_io.specs.Limit.{limit}
use Rattle.mlp_syntax.specs.declared.major.Kind.{Kind}
use Rattle.mlp_syntax.specs.declared.refusal.PcmFault.TheVariants as fault
use Rattle.mlp_syntax.specs.declared.refusal.ProfileFault.{ProfileFault}
use Rattle.mlp_syntax.specs.declared.refusal.WaveField.{WaveField}
use Rattle.mlp_stream.specs.declared.stop.Stop.{Stop}
use Rattle.mlp_stream.specs.declared.stop.Stop.TheVariants.{TooLong}
use Rattle.mlp_pcm.specs.declared.wave_format.Format.{Format}
use Rattle.mlp_pcm.specs.WaveScan.{Answer as Header, begins, refused, unfinished, unknown, header, Says}
use Rattle.mlp_pcm.proofs.OneAnswer.{same_answer, header_known}
use Rattle.mlp_fold.specs.declared.profile.Mix.{Mix}
use Rattle.mlp_fold.specs.declared.profile.Profile.{Profile}
use Rattle.mlp_fold.specs.Profile.{checked}
use Rattle.mlp_encode.specs.Left.{going}
use Rattle.mlp_encode.specs.Unit.{joined}
use Rattle.mlp_encode.specs.Sent.{sent}
use Rattle.mlp_encoding.specs.Pcm.{frames_in, is_seen, IsFull, AreFull, refusing, Ends, whole, empty, padded, cut_frame, cut_unit, unfinished as goes_on}
use Rattle.mlp_encoding.specs.Encoded.{end_by, Encoded}
use Rattle.mlp_encoding.specs.Encodes.{Answer, HasOneAnswer}
use Rattle.mlp_encoding.specs.Sizes.{sizes}
use Rattle.mlp_encoding.specs.Wave.{profile_in, WaveEncoded, encoded, unfit, wrong, cut, waits}
use Rattle.mlp_encoding.proofs.Outcomes.{ends_some}
use Rattle.mlp_encoding.proofs.Answered.{made, only, none_made}

abbrev Same : Result Unit Stop → Result Unit Stop → List ℕ → List ℕ → Type 0
Same e f xs ys = (e ≡ f) × (xs ≡ ys)

-- ---- of a command that makes one thing of bytes

module _ (Made : Bool → List ℕ → Result Unit Stop → List ℕ → Type 0)
    (some : (ended : Bool) (bytes : List ℕ) → (e : Result Unit Stop) × (xs : List ℕ) × Made ended bytes e xs)
    (one : (ended : Bool) (bytes : List ℕ) (e f : Result Unit Stop) (xs ys : List ℕ) → Made ended bytes e xs → Made ended bytes f ys → Same e f xs ys) where
  an_answer : (all : List ℕ) → (e : Result Unit Stop) × (xs : List ℕ) × Answer Made all e xs
  an_answer all = elim (cases_lt limit (length all)) [
    | inl lt ↦ (let m = some false (take limit all) in (m.0, m.1, record { within = λ le. absurd (omega (arith, le, lt)); past = λ z. m.2 }))
    | inr ge ↦ (let m = some true all in (m.0, m.1, record { within = λ z. m.2; past = λ lt. absurd (omega (arith, lt, ge)) }))
  ]

  one_answer : (all : List ℕ) (e f : Result Unit Stop) (xs ys : List ℕ) → Answer Made all e xs → Answer Made all f ys → Same e f xs ys
  one_answer all e f xs ys a b = elim (cases_lt limit (length all)) [
    | inl lt ↦ one false (take limit all) e f xs ys (a.past lt) (b.past lt)
    | inr ge ↦ one true all e f xs ys (a.within ge) (b.within ge)
  ]

  has_one : (all : List ℕ) → HasOneAnswer Made all
  has_one all = record { some = an_answer all; one = one_answer all }

-- ---- PCM

module _ (p : Profile) (ok : checked p ≡ Ok tt) where
  -- where a header states no data, there are none
  no_units : (bytes rest : List ℕ) (units : List (List ℕ)) → AreFull p (take 0 bytes) units rest → (units ≡ []) × (length rest ≡ 0)
  no_units bytes rest [] full = (refl, omega (arith, ap length full.are, length-take 0 bytes))
  no_units bytes rest (u ∷ units) full =
      let first = All-head (IsFull p) u units full.full in
      absurd (omega (arith, first.size, (sizes p ok).full_some, ap length full.are, length-take 0 bytes, ap length (append_assoc u (joined units) rest), length-append u (joined units ++ rest)))

  only_empty : (ended seen : Bool) (rest : List ℕ) (more : List (List (List ℤ))) (last : Bool) (end : Result Unit Stop) → seen ≡ true → length rest ≡ 0 → Ends p 0 ended seen rest more last end
      → (more ≡ []) × (last ≡ false) × (end ≡ refusing fault.Empty)
  only_empty ended seen rest more last end over nil (whole s l) = absurd (omega (arith, nil, l.some))
  only_empty ended seen rest more last end over nil (empty s z r) = (refl, refl, refl)
  only_empty ended seen rest more last end over nil (padded frame d e) =
      absurd (let some = ends_some p ok 0 1 ended seen rest [] false _ (omega arith) (padded frame d e) in omega (arith, some, nil))
  only_empty ended seen rest more last end over nil (cut_frame s lt e ne) =
      absurd (let some = ends_some p ok 0 1 ended seen rest [] false _ (omega arith) (cut_frame s lt e ne) in omega (arith, some, nil))
  only_empty ended seen rest more last end over nil (cut_unit s k there lt e w) = absurd (omega (arith, there, nil))
  only_empty ended seen rest more last end over nil (goes_on s d le c) = absurd (both_ways seen s over)

  seen_none : (ended : Bool) (bytes : List ℕ) → (ended || nat_le 0 (length bytes)) ≡ true
  seen_none true bytes = refl
  seen_none false bytes = le-leb 0 (length bytes) (omega arith)

  only_none : (ended : Bool) (bytes : List ℕ) (end : Result Unit Stop) (output : List ℕ) → Encoded p (Some 0) ended bytes end output → (refusing fault.Empty ≡ end) × ([] ≡ output)
  only_none ended bytes end output x =
      let i = x.pcm in
      let none = no_units bytes i.rest i.units i.full in
      let zero_units : length i.units ≡ 0 = ap length none.0 in
      let h = only_empty ended (is_seen (Some 0) ended bytes) i.rest i.more x.last x.pcm_end (seen_none ended bytes) none.1
      (subst (λ (k : ℕ). Ends p k ended (is_seen (Some 0) ended bytes) i.rest i.more x.last x.pcm_end) zero_units i.ends) in
      let frames : x.frames ≡ [] = i.frames_are ∙ ap (λ (us : List (List ℕ)). map (frames_in p) us ++ i.more) none.0 ∙ h.0 in
      let st = λ (fs : List (List (List ℤ))). sent x.last (Ok (going p)) fs in (
        sym (x.end_is ∙ ap (λ (fs : List (List (List ℤ))). end_by x.pcm_end (st fs).end) frames ∙ h.2),
        sym (x.output_is ∙ ap (λ (fs : List (List (List ℤ))). joined (st fs).units) frames),
      )

  one_pcm : (size : Option ℕ) (ended : Bool) (bytes : List ℕ) (e f : Result Unit Stop) (xs ys : List ℕ) → Encoded p size ended bytes e xs → Encoded p size ended bytes f ys → Same e f xs ys
  one_pcm None ended bytes e f xs ys a b =
      let x = only p ok None (λ z. absurd cc) ended bytes e xs a in
      let y = only p ok None (λ z. absurd cc) ended bytes f ys b in
      (sym x.0 ∙ y.0, sym x.1 ∙ y.1)
  one_pcm (Some zero) ended bytes e f xs ys a b =
      let x = only_none ended bytes e xs a in
      let y = only_none ended bytes f ys b in
      (sym x.0 ∙ y.0, sym x.1 ∙ y.1)
  one_pcm (Some (suc n)) ended bytes e f xs ys a b =
      let x = only p ok (Some (suc n)) (more n) ended bytes e xs a in
      let y = only p ok (Some (suc n)) (more n) ended bytes f ys b in
      (sym x.0 ∙ y.0, sym x.1 ∙ y.1)
    where
      more : (n : ℕ) → Some (suc n) ≡ Some 0 → ⊥
      more n z = cc

  some_pcm : (size : Option ℕ) (ended : Bool) (bytes : List ℕ) → (e : Result Unit Stop) × (xs : List ℕ) × Encoded p size ended bytes e xs
  some_pcm None ended bytes = (_, _, made p ok None (λ z. absurd cc) ended bytes)
  some_pcm (Some zero) ended bytes = (_, _, none_made p ended bytes)
  some_pcm (Some (suc n)) ended bytes = (_, _, made p ok (Some (suc n)) (λ z. absurd cc) ended bytes)

  pub one_raw : (all : List ℕ) → HasOneAnswer (Encoded p None) all
  one_raw all = has_one (Encoded p None) (some_pcm None) (one_pcm None) all

-- ---- WAVE files

module _ (kind : Kind) (mix : Mix) where
  abbrev end_of_cut : Bool → WaveField → Result Unit Stop
  end_of_cut true field = refusing (fault.WaveHeader field)
  end_of_cut false field = Err TooLong

  -- what is made of bytes, by what they say
  abbrev Means : Bool → Header → Result Unit Stop → List ℕ → Type 0
  Means ended (begins f n rest) e xs =
      ((checked (profile_in kind mix f) ≡ Ok tt) × Encoded (profile_in kind mix f) (Some n) ended rest e xs)
      ⊎ ((x : ProfileFault) × (checked (profile_in kind mix f) ≡ Err x) × (e ≡ refusing (fault.Profile x)) × (xs ≡ []))
  Means ended (refused field) e xs = (e ≡ refusing (fault.WaveHeader field)) × (xs ≡ [])
  Means ended (unfinished field) e xs = (e ≡ end_of_cut ended field) × (xs ≡ [])
  Means ended unknown e xs = ⊥

  pub record Meaning (ended : Bool) (bytes : List ℕ) (e : Result Unit Stop) (xs : List ℕ) : Type 0 where
    pub says : Header
    pub is : Says bytes says
    pub known : says ≡ unknown → ⊥
    pub means : Means ended says e xs

  meaning : (ended : Bool) (bytes : List ℕ) (e : Result Unit Stop) (xs : List ℕ) → WaveEncoded kind mix ended bytes e xs → Meaning ended bytes e xs
  meaning ended bytes e xs (encoded f n rest says ok x) = record { says = begins f n rest; is = says; known = λ z. cc; means = inl (ok, x) }
  meaning ended bytes e xs (unfit f n rest x says bad) = record { says = begins f n rest; is = says; known = λ z. cc; means = inr (x, bad, refl, refl) }
  meaning ended bytes e xs (wrong field says) = record { says = refused field; is = says; known = λ z. cc; means = (refl, refl) }
  meaning ended bytes e xs (cut field over says) = record { says = unfinished field; is = says; known = λ z. cc; means = (ap (λ (b : Bool). end_of_cut b field) (sym over), refl) }
  meaning ended bytes e xs (waits field over says) = record { says = unfinished field; is = says; known = λ z. cc; means = (ap (λ (b : Bool). end_of_cut b field) (sym over), refl) }

  ok_err : (r : Result Unit ProfileFault) (x : ProfileFault) → r ≡ Ok tt → r ≡ Err x → ⊥
  ok_err (Ok y) x a b = cc
  ok_err (Err y) x a b = cc

  err_is : (r : Result Unit ProfileFault) (x y : ProfileFault) → r ≡ Err x → r ≡ Err y → x ≡ y
  err_is (Ok z) x y a b = absurd cc
  err_is (Err z) x y a b = cc

  one_means : (ended : Bool) (a : Header) (e f : Result Unit Stop) (xs ys : List ℕ) → Means ended a e xs → Means ended a f ys → Same e f xs ys
  one_means ended (begins g n rest) e f xs ys (inl a) (inl b) = one_pcm (profile_in kind mix g) a.0 (Some n) ended rest e f xs ys a.1 b.1
  one_means ended (begins g n rest) e f xs ys (inl a) (inr b) = absurd (ok_err _ _ a.0 b.1)
  one_means ended (begins g n rest) e f xs ys (inr a) (inl b) = absurd (ok_err _ _ b.0 a.1)
  one_means ended (begins g n rest) e f xs ys (inr a) (inr b) =
      (a.2 ∙ ap (λ (x : ProfileFault). refusing (fault.Profile x)) (err_is (checked (profile_in kind mix g)) a.0 b.0 a.1 b.1) ∙ sym b.2, a.3 ∙ sym b.3)
  one_means ended (refused field) e f xs ys a b = (a.0 ∙ sym b.0, a.1 ∙ sym b.1)
  one_means ended (unfinished field) e f xs ys a b = (a.0 ∙ sym b.0, a.1 ∙ sym b.1)
  one_means ended unknown e f xs ys a b = absurd a

  one_file : (ended : Bool) (bytes : List ℕ) (e f : Result Unit Stop) (xs ys : List ℕ) → WaveEncoded kind mix ended bytes e xs → WaveEncoded kind mix ended bytes f ys → Same e f xs ys
  one_file ended bytes e f xs ys a b =
      let x = meaning ended bytes e xs a in
      let y = meaning ended bytes f ys b in
      let same : x.says ≡ y.says = same_answer bytes x.says y.says x.is y.is x.known y.known in
      one_means ended y.says e f xs ys (subst (λ (s : Header). Means ended s e xs) same x.means) y.means

  by_profile : (ended : Bool) (bytes : List ℕ) (f : Format) (n : ℕ) (rest : List ℕ) → Says bytes (begins f n rest) → (r : Result Unit ProfileFault) → checked (profile_in kind mix f) ≡ r
      → (e : Result Unit Stop) × (xs : List ℕ) × WaveEncoded kind mix ended bytes e xs
  by_profile ended bytes f n rest says (Ok x) ok = let m = some_pcm (profile_in kind mix f) ok (Some n) ended rest in (m.0, m.1, encoded f n rest says ok m.2)
  by_profile ended bytes f n rest says (Err x) bad = (_, _, unfit f n rest x says bad)

  by_header : (ended : Bool) (bytes : List ℕ) (a : Header) → Says bytes a → (a ≡ unknown → ⊥) → (e : Result Unit Stop) × (xs : List ℕ) × WaveEncoded kind mix ended bytes e xs
  by_header ended bytes (begins f n rest) says known = by_profile ended bytes f n rest says (checked (profile_in kind mix f)) refl
  by_header ended bytes (refused field) says known = (_, _, wrong field says)
  by_header true bytes (unfinished field) says known = (_, _, cut field refl says)
  by_header false bytes (unfinished field) says known = (_, _, waits field refl says)
  by_header ended bytes unknown says known = absurd (known refl)

  pub one_wave : (all : List ℕ) → HasOneAnswer (WaveEncoded kind mix) all
  one_wave all = has_one (WaveEncoded kind mix) (λ ended bytes. by_header ended bytes (header (length bytes) bytes) (length bytes, refl) (header_known bytes)) one_file all
