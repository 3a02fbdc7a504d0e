-- Each channel of a unit comes from the substream that codes it.
use Rattle.std.proofs.Common.{◌≡◌, ℕ, zero, suc, ◌+◌, ◌<◌, ◌≤◌, ℤ, pos, Bool, true, false, List, [], ◌∷◌, map, length, take, get_or, Option, Some, refl, ap, ◌∙◌, subst, arith, inl, inr}
use Rattle.std.specs.Prelude.{if◌then◌else◌}
use Rattle.std.specs.List.{range_with_len}
use Rattle.std.proofs.lemmas.Bool.{cases_lt}
use Rattle.std.proofs.lemmas.List.{get_or-map}
use Rattle.mlp_syntax.specs.declared.segment.Segment.{Segment}
use Rattle.mlp_params.specs.declared.state.State.{State}
use Rattle.mlp_substream.specs.declared.known.Place.{Place}
use Rattle.mlp_substream.specs.Blocks.{force_after}
use Rattle.mlp_channels.specs.Channels.{Coded, codes_channel, outputs_in}
use Rattle.mlp_channels.proofs.CodedLaws.{coded_from, uncoded_below, uncoded_above}
use Rattle.mlp_contents.specs.Frames.{is_coded_by, channel, frames_of}
use Rattle.mlp_samples.proofs.HeardLaws.{same_on_range}
use Rattle.mlp_fold.specs.declared.coding.CodedFrame.{CodedFrame}
use Rattle.mlp_fold.specs.Substreams.{first_channel, last_channel}
use Rattle.mlp_fold.proofs.ByStep.{channels_next}
use Rattle.mlp_encode.specs.Coding.{column}
use Rattle.mlp_lossless.proofs.Blocks.{over_range}

-- a segment of substream i, with what is in force behind it, gives back the samples of its channels
pub record IsBack (place : Place) (frames : List CodedFrame) (i : ℕ) (x : Coded) (s : Segment) (behind : State) : Type 0 where
  pub force : force_after place x.force s.blocks.items ≡ Some behind
  pub min : behind.restart.min ≡ first_channel i
  pub max : behind.restart.max ≡ last_channel i
  pub outputs : (c : ℕ) → first_channel i ≤ c → c ≤ last_channel i → outputs_in place x s c ≡ column c frames

-- .. of each substream from one on
unfoldable pub AreBack : Place → List CodedFrame → ℕ → List Coded → List Segment → Type 0
AreBack place frames i [] [] = Unit {0}
AreBack place frames i [] (s ∷ ss) = ⊥
AreBack place frames i (x ∷ xs) [] = ⊥
AreBack place frames i (x ∷ xs) (s ∷ ss) = ((behind : State) × IsBack place frames i x s behind) × AreBack place frames (suc i) xs ss

pub first_next : (i : ℕ) → first_channel (suc i) ≡ last_channel i + 1
first_next i = (let e : suc i ≡ i + 1 = omega arith in ap first_channel e) ∙ channels_next i

pub first_rises : (i : ℕ) → first_channel i ≤ first_channel (suc i)
first_rises zero = omega arith
first_rises (suc zero) = omega arith
first_rises (suc (suc zero)) = omega arith
first_rises (suc (suc (suc i))) = omega arith

module _ (place : Place) (frames : List CodedFrame) where
  -- the channels below those of a substream aren't coded from it on
  not_below : (i : ℕ) (xs : List Coded) (ss : List Segment) (c : ℕ) → AreBack place frames i xs ss → c < first_channel i → is_coded_by place xs ss c ≡ false
  unfolding AreBack
  not_below i [] ss c h lt = refl
  not_below i (x ∷ xs) [] c h lt = absurd h
  not_below i (x ∷ xs) (s ∷ ss) c h lt =
      let b : State = h.0.0 in
      let r = h.0.1 in
      ap (λ (f : Option State). if codes_channel f c then true else is_coded_by place xs ss c) r.force
      ∙ ap (λ (t : Bool). if t then true else is_coded_by place xs ss c) (uncoded_below b c (omega (arith, r.min, lt)))
      ∙ not_below (suc i) xs ss c h.1 (omega (arith, first_rises i, lt))

  -- those from its first one to the last of all are
  all_coded : (i : ℕ) (xs : List Coded) (ss : List Segment) (c : ℕ) → AreBack place frames i xs ss → first_channel i ≤ c → c < first_channel (i + length xs) → is_coded_by place xs ss c ≡ true
  unfolding AreBack
  all_coded i [] ss c h from to = absurd (let e : i + 0 ≡ i = omega arith in let f = ap first_channel e in omega (arith, f, from, to))
  all_coded i (x ∷ xs) [] c h from to = absurd h
  all_coded i (x ∷ xs) (s ∷ ss) c h from to =
      let b : State = h.0.0 in
      let r = h.0.1 in
      let at : i + suc (length xs) ≡ suc i + length xs = omega arith in
      ap (λ (f : Option State). if codes_channel f c then true else is_coded_by place xs ss c) r.force
      ∙ (elim (cases_lt c (first_channel (suc i))) [
        | inl lt ↦ ap (λ (t : Bool). if t then true else is_coded_by place xs ss c) (coded_from b c (omega (arith, r.min, from)) (omega (arith, r.max, first_next i, lt)))
        | inr ge ↦ ap (λ (t : Bool). if t then true else is_coded_by place xs ss c) (uncoded_above b c (omega (arith, r.max, first_next i, ge)))
            ∙ all_coded (suc i) xs ss c h.1 ge (subst (λ (k : ℕ). c < first_channel k) at to)
      ])

  pub channel_is : (i : ℕ) (xs : List Coded) (ss : List Segment) (c : ℕ) → AreBack place frames i xs ss → first_channel i ≤ c → c < first_channel (i + length xs) → channel place xs ss c ≡ column c frames
  unfolding AreBack
  channel_is i [] ss c h from to = absurd (let e : i + 0 ≡ i = omega arith in let f = ap first_channel e in omega (arith, f, from, to))
  channel_is i (x ∷ xs) [] c h from to = absurd h
  channel_is i (x ∷ xs) (s ∷ ss) c h from to =
      let b : State = h.0.0 in
      let r = h.0.1 in
      let at : i + suc (length xs) ≡ suc i + length xs = omega arith in
      let here : List ℤ = if codes_channel (force_after place x.force s.blocks.items) c then outputs_in place x s c else [] in
      elim (cases_lt c (first_channel (suc i))) [
        | inl lt ↦ ap (λ (t : Bool). if t then channel place xs ss c else here) (not_below (suc i) xs ss c h.1 lt)
            ∙ ap (λ (f : Option State). if codes_channel f c then outputs_in place x s c else []) r.force
            ∙ ap (λ (t : Bool). if t then outputs_in place x s c else []) (coded_from b c (omega (arith, r.min, from)) (omega (arith, r.max, first_next i, lt)))
            ∙ r.outputs c from (omega (arith, first_next i, lt))
        | inr ge ↦ ap (λ (t : Bool). if t then channel place xs ss c else here) (all_coded (suc i) xs ss c h.1 ge (subst (λ (k : ℕ). c < first_channel k) at to))
            ∙ channel_is (suc i) xs ss c h.1 ge (subst (λ (k : ℕ). c < first_channel k) at to)
      ]

-- ---- frames side by side

front_values : (xs : List ℤ) (n : ℕ) → n ≤ length xs → map (λ c. get_or xs c (pos 0)) (range_with_len 0 n) ≡ take n xs
front_values xs n le = from_one xs 0 n le
  where
    shifted : (xs : List ℤ) (x : ℤ) (a n : ℕ) → map (λ c. get_or (x ∷ xs) c (pos 0)) (range_with_len (suc a) n) ≡ map (λ c. get_or xs c (pos 0)) (range_with_len a n)
    shifted xs x a zero = refl
    shifted xs x a (suc n) =
        let e : suc a + 1 ≡ suc (a + 1) = omega arith in
        ap (λ (k : ℕ). get_or xs a (pos 0) ∷ map (λ c. get_or (x ∷ xs) c (pos 0)) (range_with_len k n)) e
        ∙ ap (λ (ys : List ℤ). get_or xs a (pos 0) ∷ ys) (shifted xs x (a + 1) n)

    from_one : (xs : List ℤ) (a n : ℕ) → n ≤ length xs → map (λ c. get_or xs c (pos 0)) (range_with_len 0 n) ≡ take n xs
    from_one xs a zero le = refl
    from_one [] a (suc n) le = absurd (omega arith)
    from_one (x ∷ xs) a (suc n) le = ap (λ (ys : List ℤ). x ∷ ys) (shifted xs x 0 n ∙ from_one xs a n (omega arith))

abbrev no_frame : CodedFrame
no_frame = record { values = []; bypass = 0 }

-- frames of columns are the fronts of the frames that these stand in
pub frames_back : (channels : ℕ → List ℤ) (frames : List CodedFrame) (m : ℕ) → ((c : ℕ) → c < m + 1 → channels c ≡ column c frames)
    → ((f : ℕ) → f < length frames → m + 1 ≤ length (get_or frames f (record { values = []; bypass = 0 })).values)
    → frames_of channels m (length frames) ≡ map (λ f. take (m + 1) f.values) frames
frames_back channels frames m same wide =
    same_on_range (λ i. map (λ c. get_or (channels c) i (pos 0)) (range_with_len 0 (m + 1))) (λ i. take (m + 1) (get_or frames i no_frame).values) 0 (length frames)
    (λ i a b.
    same_on_range (λ c. get_or (channels c) i (pos 0)) (λ c. get_or (get_or frames i no_frame).values c (pos 0)) 0 (m + 1)
    (λ c from to. ap (λ (ys : List ℤ). get_or ys i (pos 0)) (same c (omega (arith, to))) ∙ get_or-map (λ (f : CodedFrame). get_or f.values c (pos 0)) frames i no_frame (pos 0) (omega (arith, b)))
    ∙ front_values (get_or frames i no_frame).values (m + 1) (wide i (omega (arith, b))))
    ∙ over_range (λ (f : CodedFrame). take (m + 1) f.values) no_frame frames 0 (length frames) (omega arith)
