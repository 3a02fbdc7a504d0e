-- What moves make of an input.
use Rattle.std.proofs.Common.{◌≡◌, ℕ, zero, suc, ◌+◌, ◌<◌, ◌≤◌, ◌++◌, Bool, true, false, List, [], ◌∷◌, length, drop, Result, refl, sym, ap, subst, ◌∙◌, append_assoc, inl, inr, arith, length-drop, length-append}
use Rattle.std.proofs.lemmas.Bool.{cases_lt}
use Rattle.std.proofs.lemmas.List.{append-nil, drop-append-le, nil_from_length}
use Rattle.mlp_stream.specs.declared.refusal.Refusal.{Refusal}
use Rattle.mlp_stream.specs.declared.stop.Stop.TheVariants.{Refused, TooLong}
use Rattle.mlp_stream.specs.Moves.{Move, Waits, Takes, Refuses, IsMove, TakesWithin, IsSession}
use Rattle.mlp_stream.specs.Streams.{Outcome, after, stopped, run_for, on_move, at_end, outcome, soon, IsPrefix}

abbrev with_output : {S : Type 0} → Outcome S → List ℕ → Outcome S
with_output o output = record { end = o.end; output = output; session = o.session }

-- from s with these bytes, moves that put this out leave t with this rest
pub data Went {S : Type 0} (step : S → Bool → List ℕ → Move S) (ended : Bool) : S → List ℕ → List ℕ → S → List ℕ → Type 0 where
  here : {s : S} {bytes : List ℕ} → Went step ended s bytes [] s bytes
  on : {s t u : S} {bytes put rest : List ℕ} (n : ℕ) (out : List ℕ) → step s ended bytes ≡ Takes n out t → 0 < length bytes → Went step ended t (drop n bytes) put u rest → Went step ended s bytes (out ++ put) u rest

module _ {S : Type 0} (step : S → Bool → List ℕ → Move S) (last : S → Result (List ℕ) Refusal) (count : S → ℕ) (laws : IsSession step count) where
  pub takes : (s : S) (next : List ℕ) (ended : Bool) (n : ℕ) (out : List ℕ) (t : S) → step s ended next ≡ Takes n out t → (0 < n) × (n ≤ length next) × (count t ≡ count s + 1)
  takes s next ended n out t e = subst (TakesWithin count s next) e (laws.within s next ended)

  -- it doesn't matter how many moves are allowed, if they are enough
  turns_move : (f g : ℕ) (ended : Bool) (s : S) (bytes : List ℕ)
      → ((t : S) (rest : List ℕ) → length rest < length bytes → run_for step last f ended t rest ≡ run_for step last g ended t rest) → (m : Move S) → TakesWithin count s bytes m
      → on_move step last (λ t rest. run_for step last f ended t rest) s bytes m ≡ on_move step last (λ t rest. run_for step last g ended t rest) s bytes m
  turns_move f g ended s bytes same Waits w = refl
  turns_move f g ended s bytes same (Takes n out t) w = ap (after out) (same t (drop n bytes) (omega (arith, length-drop n bytes)))
  turns_move f g ended s bytes same (Refuses r) w = refl

  turns : (f g : ℕ) (ended : Bool) (s : S) (bytes : List ℕ) → length bytes < f → length bytes < g → run_for step last f ended s bytes ≡ run_for step last g ended s bytes
  unfolding run_for
  turns zero g ended s bytes l k = absurd (omega arith)
  turns (suc f) zero ended s bytes l k = absurd (omega arith)
  turns (suc f) (suc g) ended s [] l k = refl
  turns (suc f) (suc g) ended s (b ∷ bytes) l k = turns_move f g ended s (b ∷ bytes) (λ t rest h. turns f g ended t rest (omega arith) (omega arith)) (step s ended (b ∷ bytes)) (laws.within s (b ∷ bytes) ended)

  -- the first move decides
  moves : (ended : Bool) (s : S) (bytes : List ℕ) (m : Move S) → step s ended bytes ≡ m → 0 < length bytes
      → outcome step last ended s bytes ≡ on_move step last (λ t rest. run_for step last (length bytes) ended t rest) s bytes m
  unfolding outcome run_for
  moves ended s [] m e l = absurd (omega arith)
  moves ended s (b ∷ bytes) m e l = ap (λ (x : Move S). on_move step last (λ t rest. run_for step last (suc (length bytes)) ended t rest) s (b ∷ bytes) x) e

  pub outcome-takes : (ended : Bool) (s : S) (bytes : List ℕ) (n : ℕ) (out : List ℕ) (t : S) → step s ended bytes ≡ Takes n out t → 0 < length bytes
      → outcome step last ended s bytes ≡ after out (outcome step last ended t (drop n bytes))
  unfolding outcome
  outcome-takes ended s bytes n out t e l =
      let w = takes s bytes ended n out t e in
      moves ended s bytes (Takes n out t) e l ∙ ap (after out) (turns (length bytes) (suc (length (drop n bytes))) ended t (drop n bytes) (omega (arith, length-drop n bytes, w.0, w.1)) (omega arith))

  pub outcome-refuses : (ended : Bool) (s : S) (bytes : List ℕ) (r : Refusal) → step s ended bytes ≡ Refuses r → 0 < length bytes → outcome step last ended s bytes ≡ stopped s (Refused r)
  outcome-refuses ended s bytes r e l = moves ended s bytes (Refuses r) e l

  pub outcome-waits : (ended : Bool) (s : S) (bytes : List ℕ) → step s ended bytes ≡ Waits → 0 < length bytes → outcome step last ended s bytes ≡ stopped s TooLong
  outcome-waits ended s bytes e l = moves ended s bytes Waits e l

  pub outcome-nil : (ended : Bool) (s : S) → outcome step last ended s [] ≡ at_end step last ended s
  unfolding outcome run_for
  outcome-nil ended s = refl

  after-after : (xs ys : List ℕ) (o : Outcome S) → after xs (after ys o) ≡ after (xs ++ ys) o
  after-after xs ys o = ap (with_output o) (sym (append_assoc xs ys o.output))

  with_put : {ended : Bool} {s t : S} {all put other rest : List ℕ} → put ≡ other → Went step ended s all put t rest → Went step ended s all other t rest
  with_put {ended = ended} {s = s} {t = t} {all = all} {rest = rest} e w = subst (λ (x : List ℕ). Went step ended s all x t rest) e w

  with_all : {ended : Bool} {s t : S} {all put other rest : List ℕ} → all ≡ other → Went step ended s all put t rest → Went step ended s other put t rest
  with_all {ended = ended} {s = s} {t = t} {put = put} {rest = rest} e w = subst (λ (x : List ℕ). Went step ended s x put t rest) e w

  -- one more move at the end
  pub snoc : (ended : Bool) {s t u : S} {all put rest : List ℕ} (n : ℕ) (out : List ℕ) → Went step ended s all put t rest → step t ended rest ≡ Takes n out u → 0 < length rest
      → Went step ended s all (put ++ out) u (drop n rest)
  snoc ended n out here e l = with_put (append-nil out) (on n out e l here)
  snoc ended n out (on {put = put} k first d m w) e l = with_put (sym (append_assoc first put out)) (on k first d m (snoc ended n out w e l))

  -- moves before the end was seen stand, however the input goes on
  pub grow : (ended : Bool) (x : List ℕ) {s t : S} {all put rest : List ℕ} → Went step false s all put t rest → Went step ended s (all ++ x) put t (rest ++ x)
  grow ended x here = here
  grow ended x (on {s = s} {t = t} {bytes = bytes} n out e l w) =
      let k = takes s bytes false n out t e in
      let same : step s ended (bytes ++ x) ≡ Takes n out t = laws.settled s bytes x ended (subst IsMove (sym e) tt) ∙ e in
      on n out same (omega (arith, length-append bytes x)) (with_all (sym (drop-append-le n bytes x k.1)) (grow ended x w))

  pub went_nil : (ended : Bool) {s t : S} {all put rest : List ℕ} → Went step ended s all put t rest → Went step ended s (all ++ []) put t (rest ++ [])
  went_nil ended {s = s} {t = t} {all = all} {put = put} {rest = rest} w =
      subst (λ (x : List ℕ). Went step ended s x put t (rest ++ [])) (sym (append-nil all)) (subst (λ (x : List ℕ). Went step ended s all put t x) (sym (append-nil rest)) w)

  -- what is made of all of it is what came out, and then what is made of the rest
  pub whole : (ended : Bool) {s t : S} {all put rest : List ℕ} → Went step ended s all put t rest → outcome step last ended s all ≡ after put (outcome step last ended t rest)
  whole ended here = refl
  whole ended (on {s = s} {t = t} {bytes = bytes} {put = put} n out e l w) = outcome-takes ended s bytes n out t e l ∙ ap (after out) (whole ended w) ∙ after-after out put _

  pub IsPrefix-append : (xs ys zs : List ℕ) → IsPrefix ys zs → IsPrefix (xs ++ ys) (xs ++ zs)
  IsPrefix-append xs ys zs p = (p.0, ap (λ (t : List ℕ). xs ++ t) p.1 ∙ sym (append_assoc xs ys p.0))

  Early : S → List ℕ → List ℕ → Type 0
  Early s early put = IsPrefix (soon step last s early) put

  -- what comes out for sure after bytes that moves have passed has come out
  early_move : (s : S) (bytes early late put : List ℕ) (n : ℕ) (out : List ℕ) (t : S) → bytes ≡ early ++ late → step s true bytes ≡ Takes n out t → 0 < length early
      → ((m : ℕ) → m ≤ length early → m ≡ n → IsPrefix (soon step last t (drop m early)) put)
      → (m : Move S) → step s false early ≡ m → Early s early (out ++ put)
  unfolding Early
  early_move s bytes early late put n out t all e l go Waits d = (out ++ put, ap (λ (o : Outcome S). o.output ++ (out ++ put)) (sym (outcome-waits false s early d l)))
  early_move s bytes early late put n out t all e l go (Refuses r) d = (out ++ put, ap (λ (o : Outcome S). o.output ++ (out ++ put)) (sym (outcome-refuses false s early r d l)))
  early_move s bytes early late put n out t all e l go (Takes m first u) d =
      let k = takes s early false m first u d in
      let same : step s true bytes ≡ Takes m first u = ap (λ (x : List ℕ). step s true x) all ∙ laws.settled s early late true (subst IsMove (sym d) tt) ∙ d in
      let one : Takes n out t ≡ Takes m first u = sym e ∙ same in
      let n_is : m ≡ n = cc in
      let out_is : first ≡ out = cc in
      let t_is : u ≡ t = cc in
      let is : soon step last s early ≡ first ++ soon step last u (drop m early) = ap (λ (o : Outcome S). o.output) (outcome-takes false s early m first u d l) in
      let then : IsPrefix (soon step last u (drop m early)) put = subst (λ (x : S). IsPrefix (soon step last x (drop m early)) put) (sym t_is) (go m k.1 n_is) in
      subst (λ (x : List ℕ). IsPrefix x (out ++ put)) (ap (λ (x : List ℕ). x ++ soon step last u (drop m early)) (sym out_is) ∙ sym is) (IsPrefix-append out _ _ then)

  early_none : (s : S) (early put : List ℕ) → length early ≡ 0 → Early s early put
  unfolding Early
  early_none s early put e = (put, subst (λ (x : List ℕ). put ≡ soon step last s x ++ put) (sym (nil_from_length early e)) (ap (λ (o : Outcome S). o.output ++ put) (sym (outcome-nil false s))))

  early_went : {s t : S} {all put rest : List ℕ} (early late : List ℕ) → Went step true s all put t rest → all ≡ early ++ late → length early + length rest ≤ length all → Early s early put
  unfolding Early
  early_went {s = s} early late here is le = early_none s early [] (omega arith)
  early_went {s = s} {all = all} {rest = rest} early late (on {t = t} {put = put} n out e l w) is le =
      elim (cases_lt 0 (length early)) [
        | inl some ↦ early_move s all early late put n out t is e some
            (λ m fits m_is. early_went (drop m early) late w (ap (λ (k : ℕ). drop k all) (sym m_is) ∙ ap (drop m) is ∙ drop-append-le m early late fits)
            (omega (arith, m_is, length-drop m early, length-drop n all, ap length is, length-append early late)))
            (step s false early) refl
        | inr none ↦ early_none s early _ (omega arith)
      ]

  -- what comes out for sure after bytes that moves have passed has come out
  pub early : {s t : S} {all put rest : List ℕ} (front late : List ℕ) → Went step true s all put t rest → all ≡ front ++ late → length front + length rest ≤ length all → IsPrefix (soon step last s front) put
  unfolding Early
  early front late w is le = early_went front late w is le

  -- what a step before the end says stands at the end
  pub settled_at : (s : S) (next : List ℕ) → IsMove (step s false next) → step s true next ≡ step s false next
  settled_at s next m = subst (λ (x : List ℕ). step s true x ≡ step s false next) (append-nil next) (laws.settled s next [] true m)
