-- An input has one answer.
use Rattle.std.proofs.Common.{◌≡◌, ℕ, ◌<◌, Bool, true, false, List, [], ◌∷◌, ◌++◌, length, take, Result, Ok, Err, inl, inr, refl, sym, ap, subst, ◌∙◌, arith}
use Rattle.std.proofs.lemmas.Bool.{cases_lt}
use Rattle.std.proofs.lemmas.List.{append-nil, append_assoc}
use Rattle.mlp_io.specs.Limit.{limit}
use Rattle.mlp_bits.specs.Bits.{bits_of}
use Rattle.mlp_layout.specs.Streams.{UnitOf, Begins}
use Rattle.mlp_layout.proofs.StreamLaws.{begins_same}
use Rattle.mlp_walk.proofs.WalkLaws.{longer, begins_behind, first_next, some_more}
use Rattle.mlp_stream.specs.declared.refusal.Refusal.{Refusal}
use Rattle.mlp_stream.specs.declared.stop.Stop.{Stop}
use Rattle.mlp_answers.specs.Working.{Working, left_of, IsWorking}
use Rattle.mlp_answers.specs.Answers.{refusing, Gives, Answers, Answer}
use Rattle.mlp_answers.proofs.Deciding.{Decision, holds, ends, takes, declines, decide, decide_same, decide_takes, Ended, Closing, Closed, closed_of}

abbrev ok_of : List ℕ → Result (List ℕ) Refusal
ok_of xs = Ok xs

ok_is : (xs ys : List ℕ) → ok_of xs ≡ ok_of ys → xs ≡ ys
ok_is xs ys e = cc

abbrev err_of : Refusal → Result (List ℕ) Refusal
err_of r = Err r

err_is : (q r : Refusal) → err_of q ≡ err_of r → q ≡ r
err_is q r e = cc

ok_err : (xs : List ℕ) (r : Refusal) → ok_of xs ≡ err_of r → ⊥
ok_err xs r e = cc

module _ {L O C : Type 0} (w : Working L O C) where
  -- ---- what comes out of units

  gives_one : (before us : List (UnitOf O C)) (xs ys : List ℕ) → Gives w before us xs → Gives w before us ys → xs ≡ ys
  unfolding Gives
  gives_one before [] xs ys g h = g ∙ sym h
  gives_one before (u ∷ us) xs ys g h =
      let front : g.0 ≡ h.0 = ok_is _ _ (sym g.2 ∙ h.2) in
      let later = gives_one (before ++ u ∷ []) us g.1 h.1 g.3 h.3 in
      g.4 ∙ ap (λ (zs : List ℕ). zs ++ g.1) front ∙ ap (λ (zs : List ℕ). h.0 ++ zs) later ∙ sym h.4

  gives_at : (before us : List (UnitOf O C)) (u : UnitOf O C) (more : List (UnitOf O C)) (xs : List ℕ) → Gives w before (us ++ u ∷ more) xs → (ys : List ℕ) × (w.out (before ++ us) u ≡ Ok ys)
  unfolding Gives
  gives_at before [] u more xs g = (g.0, ap (λ (bs : List (UnitOf O C)). w.out bs u) (append-nil before) ∙ g.2)
  gives_at before (v ∷ us) u more xs g =
      let later = gives_at (before ++ v ∷ []) us u more g.1 g.3 in
      (later.0, ap (λ (bs : List (UnitOf O C)). w.out bs u) (sym (append_assoc before (v ∷ []) us)) ∙ later.1)

  pub gives_more : (before us : List (UnitOf O C)) (u : UnitOf O C) (xs ys : List ℕ) → Gives w before us xs → w.out (before ++ us) u ≡ Ok ys → Gives w before (us ++ u ∷ []) (xs ++ ys)
  unfolding Gives
  gives_more before [] u xs ys g e =
      (ys, [], ap (λ (bs : List (UnitOf O C)). w.out bs u) (sym (append-nil before)) ∙ e, refl, ap (λ (zs : List ℕ). zs ++ ys) g ∙ sym (append-nil ys))
  gives_more before (v ∷ us) u xs ys g e =
      let at = ap (λ (bs : List (UnitOf O C)). w.out bs u) (append_assoc before (v ∷ []) us) ∙ e in
      (g.0, g.1 ++ ys, g.2, gives_more (before ++ v ∷ []) us u g.1 ys g.3 at, ap (λ (zs : List ℕ). zs ++ ys) g.4 ∙ append_assoc g.0 g.1 ys)

module _ {L O C : Type 0} (w : Working L O C) (is : IsWorking w) where
  abbrev Same : Result Unit Stop → Result Unit Stop → List ℕ → List ℕ → Type 0
  Same e f xs ys = (e ≡ f) × (xs ≡ ys)

  -- ---- the same units, the same answer

  ended_same : (r : Result (List ℕ) Refusal) (e f : Result Unit Stop) (zs xs ys : List ℕ) → Ended w is r e zs xs → Ended w is r f zs ys → Same e f xs ys
  ended_same (Ok out) e f zs xs ys a b = (a.0 ∙ sym b.0, a.1 ∙ sym b.1)
  ended_same (Err r) e f zs xs ys a b = (a.0 ∙ sym b.0, a.1 ∙ sym b.1)

  closing_same : (d : Decision O C) (us : List (UnitOf O C)) (e f : Result Unit Stop) (zs xs ys : List ℕ) → Closing w is d us e zs xs → Closing w is d us f zs ys → Same e f xs ys
  closing_same holds us e f zs xs ys a b = (a.0 ∙ sym b.0, a.1 ∙ sym b.1)
  closing_same ends us e f zs xs ys a b =
      ended_same b.0 e f zs xs ys (subst (λ (r : Result (List ℕ) Refusal). Ended w is r e zs xs) (is.one_end us a.0 b.0 a.1 b.1) a.2) b.2
  closing_same (takes u) us e f zs xs ys a b =
      let same : a.0 ≡ b.0 = err_is _ _ (sym a.1 ∙ b.1) in
      (a.2 ∙ ap refusing same ∙ sym b.2, a.3 ∙ sym b.3)
  closing_same (declines r) us e f zs xs ys a b = (a.0 ∙ sym b.0, a.1 ∙ sym b.1)

  -- ---- no answer ends before units that let something come out

  early : (ended : Bool) (bytes : List ℕ) (e f : Result Unit Stop) (xs ys : List ℕ) → (a : Closed w is ended bytes e xs) → (b : Closed w is ended bytes f ys) → length a.us < length b.us → ⊥
  early ended bytes e f xs ys a b l =
      let go = longer w.format is.format_is w.start w.start (bits_of bytes) a.us b.us (bits_of a.rest) (bits_of b.rest) a.worked.taken.begins b.worked.taken.begins l in
      let begins = subst (λ (vs : List (UnitOf O C)). Begins w.format w.start (bits_of bytes) vs (bits_of b.rest)) go.2 b.worked.taken.begins in
      let behind = begins_behind w.format is.format_is w.start w.start (bits_of bytes) a.us (go.0 ∷ go.1) (bits_of a.rest) (bits_of b.rest) begins a.worked.taken.begins in
      let next = first_next w.format is.format_is w.start (left_of w a.us) (bits_of a.rest) go.0 go.1 (bits_of b.rest) behind in
      let told = b.worked.taken.there (λ none. some_more w.format is.format_is w.start a.us go.0 go.1 (sym go.2 ∙ none)) in
      let takes_it = decide_takes w is ended bytes a.us a.rest go.0 a.worked.taken told next in
      let closing = subst (λ (d : Decision O C). Closing w is d a.us e a.xs xs) takes_it a.closing in
      let out = gives_at w [] a.us go.0 go.1 b.xs (subst (λ (vs : List (UnitOf O C)). Gives w [] vs b.xs) go.2 b.worked.gives) in
      ok_err out.0 closing.0 (sym out.1 ∙ closing.1)

  alike : (ended : Bool) (bytes : List ℕ) (e f : Result Unit Stop) (xs ys : List ℕ) → (a : Closed w is ended bytes e xs) → (b : Closed w is ended bytes f ys) → length a.us ≡ length b.us → Same e f xs ys
  alike ended bytes e f xs ys a b l =
      let same = begins_same w.format is.format_is w.start (bits_of bytes) a.us b.us (bits_of a.rest) (bits_of b.rest) l a.worked.taken.begins b.worked.taken.begins in
      let gives = subst (λ (vs : List (UnitOf O C)). Gives w [] vs b.xs) (sym same.0) b.worked.gives in
      let out : b.xs ≡ a.xs = gives_one w [] a.us b.xs a.xs gives a.worked.gives in
      let moved = subst (λ (vs : List (UnitOf O C)). Closing w is (decide w is ended vs b.rest) vs f b.xs ys) (sym same.0) b.closing in
      let there = subst (λ (d : Decision O C). Closing w is d a.us f b.xs ys) (decide_same w is ended a.us b.rest a.rest (sym same.1)) moved in
      let here = subst (λ (zs : List ℕ). Closing w is (decide w is ended a.us a.rest) a.us f zs ys) out there in
      closing_same (decide w is ended a.us a.rest) a.us e f a.xs xs ys a.closing here

  one_closed : (ended : Bool) (bytes : List ℕ) (e f : Result Unit Stop) (xs ys : List ℕ) → Closed w is ended bytes e xs → Closed w is ended bytes f ys → Same e f xs ys
  one_closed ended bytes e f xs ys a b = elim (cases_lt (length a.us) (length b.us)) [
    | inl less ↦ absurd (early ended bytes e f xs ys a b less)
    | inr more ↦ elim (cases_lt (length b.us) (length a.us)) [
      | inl less ↦ absurd (early ended bytes f e ys xs b a less)
      | inr most ↦ alike ended bytes e f xs ys a b (omega arith)
    ]
  ]

  one_of : (ended : Bool) (bytes : List ℕ) (e f : Result Unit Stop) (xs ys : List ℕ) → Answers w ended bytes e xs → Answers w ended bytes f ys → Same e f xs ys
  one_of ended bytes e f xs ys a b = one_closed ended bytes e f xs ys (closed_of w is ended bytes e xs a) (closed_of w is ended bytes f ys b)

  pub one_answer : (all : List ℕ) (e f : Result Unit Stop) (xs ys : List ℕ) → Answer w all e xs → Answer w all f ys → (e ≡ f) × (xs ≡ ys)
  one_answer all e f xs ys a b = elim (cases_lt limit (length all)) [
    | inl past ↦ one_of false (take limit all) e f xs ys (a.past past) (b.past past)
    | inr within ↦ one_of true all e f xs ys (a.within within) (b.within within)
  ]
