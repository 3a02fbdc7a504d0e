-- A profile, a seed and a number of units have one end and one text.
use Rattle.std.proofs.Common.{◌≡◌, ℕ, zero, suc, ◌<◌, ◌≤◌, ◌*◌, List, [], ◌∷◌, ◌++◌, length, map, get_or, Some, Result, Ok, Err, ℤ, ◌⊎◌, inl, inr, refl, sym, ap, subst, ◌∙◌, arith}
use Rattle.std.specs.Prelude.{true}
use Rattle.std.proofs.lemmas.List.{ext_get_or}
use Rattle.mlp_syntax.specs.declared.refusal.NoRoom.{NoRoom}
use Rattle.mlp_syntax.specs.declared.refusal.ProfileFault.{ProfileFault}
use Rattle.mlp_syntax.specs.declared.refusal.PcmFault.TheVariants as pcm
use Rattle.mlp_bits.specs.Bits.{bits_of}
use Rattle.mlp_stream.specs.declared.stop.Stop.TheVariants.{Refused, ReadFault, WriteFault, TooLong}
use Rattle.mlp_stream.specs.declared.refusal.Refusal.{Refusal}
use Rattle.mlp_stream.specs.declared.refusal.Refusal.TheVariants as refused
use Rattle.mlp_answers.specs.declared.failure.Failure.{Failure}
use Rattle.mlp_answers.specs.declared.failure.Failure.TheVariants.{Usage, OutOfMemory, Stopped}
use Rattle.mlp_contents.specs.Units.{Unit_of}
use Rattle.mlp_contents.proofs.FormatLaws.{one_reading}
use Rattle.mlp_fold.specs.declared.profile.Profile.{Profile}
use Rattle.mlp_fold.specs.Mix.{presented_of}
use Rattle.mlp_fold.specs.Profile.{checked}
use Rattle.mlp_fold.specs.Substreams.{substreams_of}
use Rattle.mlp_encode.specs.Numbers.{low_zeros}
use Rattle.mlp_encode.specs.Left.{Left, going}
use Rattle.mlp_encode.specs.Unit.{joined}
use Rattle.mlp_encode.specs.Sent.{Stream, sent}
use Rattle.mlp_lossless.specs.Streams.{all_frames}
use Rattle.mlp_lossless.proofs.Owed.{all_given_back}
use Rattle.mlp_extract.specs.Extract.{extract}
use Rattle.mlp_gen.specs.declared.report.Shown.{Shown}
use Rattle.mlp_gen.specs.declared.report.Report.{Report}
use Rattle.mlp_gen.specs.Generator.{generated}
use Rattle.mlp_gen.specs.Player.{sum_with}
use Rattle.mlp_gen.specs.Report.{report_text}
use Rattle.mlp_gen.specs.Generated.{width_of, nothing_shown, IsShown, IsReport, IsRefused, Generates, IsAnswer, told, HasOneText}
use Rattle.mlp_gen.proofs.UnitFrames.{is_sent}

-- ---- no two reports

abbrev shown_as : ℕ → ℕ → ℕ → Shown
shown_as frames sum extracted = record { frames = frames; sum = sum; extracted = extracted }

abbrev report_as : ℕ → ℕ → List Shown → ℕ → Report
report_as pcm stream shown units = record { pcm = pcm; stream = stream; shown = record { items = shown }; units = units }

one_shown : (p : Profile) (k : ℕ) (frames : List (List ℤ)) (bytes : List ℕ) (s t : Shown) → IsShown p k frames bytes s → IsShown p k frames bytes t → s ≡ t
one_shown p k frames bytes s t a b =
    let us : a.units ≡ b.units = (one_reading k (bits_of bytes)).one_list a.units b.units a.stream b.stream in
    ap (λ (n : ℕ). shown_as n s.sum s.extracted) (a.frames ∙ sym b.frames)
    ∙ ap (λ (n : ℕ). shown_as t.frames n s.extracted) (a.sum ∙ sym b.sum)
    ∙ ap (shown_as t.frames t.sum) (a.extracted ∙ ap (λ (vs : List Unit_of). length (extract k vs)) us ∙ sym b.extracted)

module _ (p : Profile) (seed count : ℕ) where
  one_report : (r q : Report) → IsReport p seed count r → IsReport p seed count q → r ≡ q
  one_report r q a b =
      let units : a.units ≡ b.units = ap (λ (s : Stream). s.units) (sym a.sent_is ∙ b.sent_is) in
      let shown : r.shown.items ≡ q.shown.items = ext_get_or nothing_shown r.shown.items q.shown.items (a.presentations ∙ sym b.presentations)
      (λ k lt. let there : k < substreams_of p.channels = omega (arith, lt, a.presentations) in
      one_shown p k (all_frames (generated p seed count)) (joined b.units) (get_or r.shown.items k nothing_shown) (get_or q.shown.items k nothing_shown)
      (subst (λ (us : List (List ℕ)). IsShown p k (all_frames (generated p seed count)) (joined us) (get_or r.shown.items k nothing_shown)) units (a.shown k there)) (b.shown k there)) in
      ap (λ (n : ℕ). report_as n r.stream r.shown.items r.units) (a.pcm ∙ sym b.pcm)
      ∙ ap (λ (n : ℕ). report_as q.pcm n r.shown.items r.units) (a.stream ∙ ap (λ (us : List (List ℕ)). length (joined us)) units ∙ sym b.stream)
      ∙ ap (λ (xs : List Shown). report_as q.pcm q.stream xs r.units) shown
      ∙ ap (report_as q.pcm q.stream q.shown.items) (a.units_are ∙ sym b.units_are)

  -- ---- no two refusals, and not both

  one_refusal : (q r : Refusal) → IsRefused p seed count q → IsRefused p seed count r → q ≡ r
  one_refusal q r (inl x) (inl y) =
      let same : x.0 ≡ y.0 = (let z : Err x.0 ≡ Err y.0 = sym x.2 ∙ y.2 in cc) in
      x.1 ∙ ap (λ (f : ProfileFault). refused.Pcm (pcm.Profile f)) same ∙ sym y.1
  one_refusal q r (inl x) (inr y) = absurd (let z : Ok tt ≡ Err x.0 = sym y.2 ∙ x.2 in cc)
  one_refusal q r (inr x) (inl y) = absurd (let z : Ok tt ≡ Err y.0 = sym x.2 ∙ y.2 in cc)
  one_refusal q r (inr x) (inr y) =
      let same : x.0 ≡ y.0 = (let z : Err x.0 ≡ Err y.0 = sym x.3 ∙ y.3 in cc) in
      x.1 ∙ ap refused.NoRoom same ∙ sym y.1

  not_both : (r : Report) (refusal : Refusal) → IsReport p seed count r → IsRefused p seed count refusal → ⊥
  not_both r refusal a (inl x) = let z : Ok tt ≡ Err x.0 = sym a.profile ∙ x.2 in cc
  not_both r refusal a (inr x) = let z : Ok a.left ≡ Err x.0 = sym (ap (λ (s : Stream). s.end) a.sent_is) ∙ x.3 in cc

  -- ---- no two answers

  module _ (before : List ℕ) where
    -- what is behind an answer
    abbrev Answered : List ℕ → Result Unit Failure → Type 0
    Answered behind end =
        ((r : Report) × IsReport p seed count r × (end ≡ Ok tt) × (behind ≡ before ++ report_text r))
        ⊎ ((refusal : Refusal) × IsRefused p seed count refusal × (end ≡ Err (Stopped (Refused refusal))) × (behind ≡ before))

    answered : (xs : List ℕ) (end : Result Unit Failure) → IsAnswer end → Generates p seed count (told before xs) end → Answered xs end
    answered xs (Ok x) a g = inl (g.1.0, g.1.1, refl, g.2 ∙ ap (λ (text : List ℕ). before ++ text) g.1.2)
    answered xs (Err Usage) a g = absurd g
    answered xs (Err OutOfMemory) a g = absurd (a.0 refl)
    answered xs (Err (Stopped (Refused refusal))) a g = inr (refusal, g.0, refl, (let z : Some xs ≡ Some before = g.1 in cc))
    answered xs (Err (Stopped ReadFault)) a g = absurd g
    answered xs (Err (Stopped WriteFault)) a g = absurd (a.1 refl)
    answered xs (Err (Stopped TooLong)) a g = absurd g

    alike : (d e : Result Unit Failure) (xs ys : List ℕ) → Answered xs d → Answered ys e → (d ≡ e) × (xs ≡ ys)
    alike d e xs ys (inl x) (inl y) = (x.2 ∙ sym y.2, x.3 ∙ ap (λ (r : Report). before ++ report_text r) (one_report x.0 y.0 x.1 y.1) ∙ sym y.3)
    alike d e xs ys (inl x) (inr y) = absurd (not_both x.0 y.0 x.1 y.1)
    alike d e xs ys (inr x) (inl y) = absurd (not_both y.0 x.0 y.1 x.1)
    alike d e xs ys (inr x) (inr y) = (x.2 ∙ ap (λ (refusal : Refusal). Err (Stopped (Refused refusal))) (one_refusal x.0 y.0 x.1 y.1) ∙ sym y.2, x.3 ∙ sym y.3)

-- ---- a list of what there is at each place

put_first : {A : Type 0} (d : A) (n : ℕ) (P : ℕ → A → Type 0) (x : A) (xs : List A) → P 0 x → ((k : ℕ) → k < n → P (suc k) (get_or xs k d)) → (k : ℕ) → k < suc n → P k (get_or (x ∷ xs) k d)
put_first d n P x xs first later zero lt = first
put_first d n P x xs first later (suc k) lt = later k (omega (arith, lt))

listed : {A : Type 0} (d : A) (n : ℕ) (P : ℕ → A → Type 0) → ((k : ℕ) → k < n → (x : A) × P k x) → (xs : List A) × (length xs ≡ n) × ((k : ℕ) → k < n → P k (get_or xs k d))
listed d zero P each = ([], refl, λ k lt. absurd (omega (arith, lt)))
listed {A = A} d (suc n) P each =
    let first = each 0 (omega arith) in
    let later = listed d n (λ (k : ℕ) (x : A). P (suc k) x) (λ k lt. each (suc k) (omega (arith, lt))) in
    (first.0 ∷ later.0, ap suc later.1, put_first d n P first.0 later.0 first.1 later.2)

-- ---- an answer

module _ (p : Profile) (seed count : ℕ) (some : 1 ≤ count) where
  report : checked p ≡ Ok tt → (left : Left) → (sent true (Ok (going p)) (generated p seed count)).end ≡ Ok left → (r : Report) × IsReport p seed count r
  report is left end =
      let st : Stream = sent true (Ok (going p)) (generated p seed count) in
      let frames : List (List ℤ) = all_frames (generated p seed count) in
      let sent_is : st ≡ record { units = st.units; end = Ok left } = ap (λ (e : Result Left NoRoom). let s : Stream = record { units = st.units; end = e } in s) end in
      let shown = listed nothing_shown (substreams_of p.channels) (λ (k : ℕ) (s : Shown). IsShown p k frames (joined st.units) s) (λ k lt.
      let back = all_given_back p (generated p seed count) st.units left k (is_sent p seed count st.units left is some sent_is) lt in (
        record { frames = length frames; sum = sum_with k 0 (map (presented_of p.mix (low_zeros p.depth) p.channels k) frames); extracted = length (extract k back.units) },
        record { units = back.units; stream = back.stream; frames = refl; sum = refl; extracted = refl },
      )) in (
        record { pcm = length frames * (p.channels * width_of p.depth); stream = length (joined st.units); shown = record { items = shown.0 }; units = count },
        record { profile = is; units = st.units; left = left; sent_is = sent_is; pcm = refl; stream = refl; presentations = shown.1; shown = shown.2; units_are = refl },
      )

  module _ (before : List ℕ) where
    abbrev Answer : Type 0
    Answer = (end : Result Unit Failure) × (behind : List ℕ) × IsAnswer end × Generates p seed count (told before behind) end

    reported : (r : Report) → IsReport p seed count r → Answer
    reported r is = (Ok tt, before ++ report_text r, ((λ e. cc), (λ e. cc)), (report_text r, (r, is, refl), refl))

    refusing : (refusal : Refusal) → IsRefused p seed count refusal → Answer
    refusing refusal is = (Err (Stopped (Refused refusal)), before, ((λ e. cc), (λ e. cc)), (is, refl))

    by_end : checked p ≡ Ok tt → (r : Result Left NoRoom) → (sent true (Ok (going p)) (generated p seed count)).end ≡ r → Answer
    by_end is (Ok left) end = let r = report is left end in reported r.0 r.1
    by_end is (Err room) end = refusing (refused.NoRoom room) (inr (room, refl, is, end))

    by_profile : (r : Result Unit ProfileFault) → checked p ≡ r → Answer
    by_profile (Ok x) is = by_end is (sent true (Ok (going p)) (generated p seed count)).end refl
    by_profile (Err fault) is = refusing (refused.Pcm (pcm.Profile fault)) (inl (fault, refl, is))

pub one_text : (p : Profile) (seed count : ℕ) (before : List ℕ) → 1 ≤ count → HasOneText p seed count before
one_text p seed count before some = record {
  some = by_profile p seed count some before (checked p) refl;
  one = λ d e xs ys a b x y. alike p seed count before d e xs ys (answered p seed count before xs d a x) (answered p seed count before ys e b y);
}
