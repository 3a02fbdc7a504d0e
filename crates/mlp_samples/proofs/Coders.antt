-- A channel of a unit comes from the greatest substream that codes it.
use Rattle.std.proofs.Common.{◌≡◌, ◌≢◌, ℕ, zero, suc, ◌<◌, ◌≤◌, Bool, true, false, cond, List, [], ◌∷◌, length, get_or, ◌⊎◌, inl, inr, refl, sym, ap, subst, ◌∙◌, arith}
use Rattle.std.proofs.lemmas.Bool.{cases_eq}
use Rattle.mlp_syntax.specs.declared.segment.Segment.{Segment}
use Rattle.mlp_substream.specs.declared.known.Place.{Place}
use Rattle.mlp_substream.specs.Blocks.{force_after}
use Rattle.mlp_channels.specs.Channels.{Coded, codes_channel, nothing_coded, outputs_in}
use Rattle.mlp_contents.specs.Frames.{is_coded_by, channel}
use Rattle.mlp_contents.specs.Units.{Unit_of, no_segment}
use Rattle.mlp_samples.specs.Samples.{in_force_in, coder}

-- ---- by the units of an interval

module _ (place : Place) (us : List Unit_of) (c : ℕ) where
  abbrev pub codes : ℕ → Bool
  codes j = codes_channel (in_force_in place j us) c

  -- the greatest of the first that codes it
  pub record IsCoder (k j : ℕ) : Type 0 where
    pub within : j ≤ k
    pub coded : codes j ≡ true
    pub above : (i : ℕ) → j < i → i ≤ k → codes i ≡ false

  abbrev pub NoneCodes : ℕ → Type 0
  NoneCodes k = (i : ℕ) → i ≤ k → codes i ≡ false

  pub coder_within : (k : ℕ) → coder place k us c ≤ k
  coder_within zero = omega arith
  coder_within (suc k) = by_case (codes (suc k)) (coder_within k)
    where
      by_case : (b : Bool) → coder place k us c ≤ k → cond b (suc k) (coder place k us c) ≤ suc k
      by_case true le = omega arith
      by_case false le = omega arith

  coder_here : (k : ℕ) → codes (suc k) ≡ true → coder place (suc k) us c ≡ suc k
  coder_here k e = rw e refl

  coder_below : (k : ℕ) → codes (suc k) ≡ false → coder place (suc k) us c ≡ coder place k us c
  coder_below k e = rw e refl

  one_more : (k j : ℕ) → codes (suc k) ≡ false → IsCoder k j → IsCoder (suc k) j
  one_more k j e h = record {
    within = omega (arith, h.within);
    coded = h.coded;
    above = λ i lt le. last_or i lt le (cases_eq i (suc k));
  }
    where
      last_or : (i : ℕ) → j < i → i ≤ suc k → (i ≡ suc k) ⊎ (i ≢ suc k) → codes i ≡ false
      last_or i lt le (inl same) = ap codes same ∙ e
      last_or i lt le (inr other) = h.above i lt (omega arith)

  pub coder_is : (k : ℕ) → IsCoder k (coder place k us c) ⊎ NoneCodes k
  coder_is zero = by_case (codes 0) refl
    where
      by_case : (b : Bool) → codes 0 ≡ b → IsCoder 0 0 ⊎ NoneCodes 0
      by_case true e = inl (record { within = omega arith; coded = e; above = λ i lt le. absurd (omega arith) })
      by_case false e = inr (λ i le. ap codes (let zero_only : i ≡ 0 = omega arith in zero_only) ∙ e)
  coder_is (suc k) = by_case (codes (suc k)) refl (coder_is k)
    where
      none_more : codes (suc k) ≡ false → NoneCodes k → (i : ℕ) → i ≤ suc k → (i ≡ suc k) ⊎ (i ≢ suc k) → codes i ≡ false
      none_more e none i le (inl same) = ap codes same ∙ e
      none_more e none i le (inr other) = none i (omega arith)

      by_case : (b : Bool) → codes (suc k) ≡ b → IsCoder k (coder place k us c) ⊎ NoneCodes k → IsCoder (suc k) (coder place (suc k) us c) ⊎ NoneCodes (suc k)
      by_case true e h = inl (subst (IsCoder (suc k)) (sym (coder_here k e)) (record { within = omega arith; coded = e; above = λ i lt le. absurd (omega arith) }))
      by_case false e (inl h) = inl (subst (IsCoder (suc k)) (sym (coder_below k e)) (one_more k (coder place k us c) e h))
      by_case false e (inr none) = inr (λ i le. none_more e none i le (cases_eq i (suc k)))

-- ---- by the segments of a unit

module _ (place : Place) (c : ℕ) where
  abbrev pub coded_behind : List Coded → List Segment → ℕ → Bool
  coded_behind xs ss i = codes_channel (force_after place (get_or xs i nothing_coded).force (get_or ss i no_segment).blocks.items) c

  none_by : (xs : List Coded) (ss : List Segment) → ((i : ℕ) → i < length xs → i < length ss → coded_behind xs ss i ≡ false) → is_coded_by place xs ss c ≡ false
  none_by [] ss h = refl
  none_by (x ∷ xs) [] h = refl
  none_by (x ∷ xs) (s ∷ ss) h =
      let here : codes_channel (force_after place x.force s.blocks.items) c ≡ false = h 0 (omega arith) (omega arith) in
      rw here (none_by xs ss (λ i a b. h (suc i) (omega arith) (omega arith)))

  some_by : (xs : List Coded) (ss : List Segment) (j : ℕ) → j < length xs → j < length ss → coded_behind xs ss j ≡ true → is_coded_by place xs ss c ≡ true
  some_by [] ss j a b e = absurd (omega arith)
  some_by (x ∷ xs) [] j a b e = absurd (omega arith)
  some_by (x ∷ xs) (s ∷ ss) zero a b e = rw e refl
  some_by (x ∷ xs) (s ∷ ss) (suc j) a b e = by_case (codes_channel (force_after place x.force s.blocks.items) c) (some_by xs ss j (omega arith) (omega arith) e)
    where
      by_case : (b : Bool) → is_coded_by place xs ss c ≡ true → cond b true (is_coded_by place xs ss c) ≡ true
      by_case true h = refl
      by_case false h = h

  pub channel_none : (xs : List Coded) (ss : List Segment) → ((i : ℕ) → i < length xs → i < length ss → coded_behind xs ss i ≡ false) → channel place xs ss c ≡ []
  channel_none [] ss h = refl
  channel_none (x ∷ xs) [] h = refl
  channel_none (x ∷ xs) (s ∷ ss) h =
      let here : codes_channel (force_after place x.force s.blocks.items) c ≡ false = h 0 (omega arith) (omega arith) in
      let later : is_coded_by place xs ss c ≡ false = none_by xs ss (λ i a b. h (suc i) (omega arith) (omega arith)) in
      rw (later, here) refl

  pub channel_at : (xs : List Coded) (ss : List Segment) (j : ℕ) → j < length xs → j < length ss → coded_behind xs ss j ≡ true
      → ((i : ℕ) → j < i → i < length xs → i < length ss → coded_behind xs ss i ≡ false)
      → channel place xs ss c ≡ outputs_in place (get_or xs j nothing_coded) (get_or ss j no_segment) c
  channel_at [] ss j a b e above = absurd (omega arith)
  channel_at (x ∷ xs) [] j a b e above = absurd (omega arith)
  channel_at (x ∷ xs) (s ∷ ss) zero a b e above =
      let later : is_coded_by place xs ss c ≡ false = none_by xs ss (λ i p q. above (suc i) (omega arith) (omega arith) (omega arith)) in
      rw (later, e) refl
  channel_at (x ∷ xs) (s ∷ ss) (suc j) a b e above =
      let later : is_coded_by place xs ss c ≡ true = some_by xs ss j (omega arith) (omega arith) e in
      rw later (channel_at xs ss j (omega arith) (omega arith) e (λ i lt p q. above (suc i) (omega arith) (omega arith) (omega arith)))
