-- What stands after each turn of the loop, and what follows at each exit.
use Rattle.std.proofs.Common.{◌≡◌, ℕ, ◌+◌, ◌-◌, ◌<◌, ◌≤◌, ◌++◌, Bool, true, false, List, [], ◌∷◌, length, take, drop, Result, Ok, Err}
use Rattle.std.proofs.Common.{Option, Some, None, IfSome, OnOk, IfErr, inl, inr, refl, sym, ap, subst, ◌∙◌, append_assoc, arith, length-drop, length-append, take-append-drop, if◌then◌else◌}
use Rattle.std.proofs.lemmas.Bool.{cases_lt, lt-leb, le-leb}
use Rattle.std.proofs.lemmas.List.{append-nil, nil_from_length, take_at}
use Rattle.std.proofs.Math.Seq.{take-append-add}
use Rattle.std.proofs.KnownBytes.{Consumes-nil, Consumes-trans, Appends-nil, Appends-trans}
use Rattle.std.specs.Io.KnownBytes.{Consumes, Appends, IsAtEnd}
use Rattle.mlp_stream.specs.declared.refusal.Refusal.{Refusal}
use Rattle.mlp_stream.specs.declared.window.Rest.{Rest}
use Rattle.mlp_stream.specs.declared.window.Rest.TheVariants.{More, Ended, Over}
use Rattle.mlp_stream.specs.declared.stop.Stop.{Stop}
use Rattle.mlp_stream.specs.declared.stop.Stop.TheVariants.{Refused, ReadFault, WriteFault, TooLong}
use Rattle.mlp_stream.specs.Moves.{Move, Waits, Takes, Refuses, IsMove, IsSession}
use Rattle.mlp_stream.specs.Streams.{Outcome, after, stopped, finished, outcome, IsPrefix}
use Rattle.mlp_io.specs.Limit.{limit}
use Rattle.mlp_stream.specs.Sizes.{most_of_unit, window_room}
use Rattle.mlp_stream.specs.Held.{Held, is_ended, Gave, GaveMore, Refills, Fails}
use Rattle.mlp_stream.specs.Gathers.{Gathers, IsWriteStop}
use Rattle.mlp_stream.specs.Pumped.{answer_to, Says, IsAnswer, IsTimely, Pumped, IsInputStop, IsUnitStop, IsLastStop}
use Rattle.mlp_stream.proofs.WindowLaws.{between}
use Rattle.mlp_stream.proofs.Runs.{Went, here, snoc, grow, whole, early, settled_at, takes, went_nil, outcome-refuses, outcome-waits, outcome-nil}

-- bytes that an input that tells its bytes lost were in front
consumed : (a b : Option (List ℕ)) (got all : List ℕ) → Consumes a b got → a ≡ Some all → (ys : List ℕ) × (b ≡ Some ys) × (all ≡ got ++ ys)
consumed None b got all p e = absurd cc
consumed (Some x) None got all p e = absurd p
consumed (Some x) (Some y) got all p e = let same : x ≡ all = cc in (y, refl, sym same ∙ p)

at_end_nil : (b : Option (List ℕ)) (ys : List ℕ) → b ≡ Some ys → IsAtEnd b → ys ≡ []
at_end_nil None ys e p = absurd cc
at_end_nil (Some x) ys e p = let same : x ≡ ys = cc in sym same ∙ p

if_told : (o : Option (List ℕ)) (P : List ℕ → Type 0) → ((all : List ℕ) → o ≡ Some all → P all) → IfSome o P
if_told None P h = tt
if_told (Some x) P h = h x refl

-- all that an input has: what it gave, and what is left
record Told (rest : Rest) (taken : ℕ) (got all : List ℕ) : Type 0 where
  left : List ℕ
  whole_is : all ≡ got ++ left
  ended : rest ≡ Ended → left ≡ []
  over : rest ≡ Over → (0 < length left) × (taken ≡ limit)

told : (rest : Rest) (taken : ℕ) (a b : Option (List ℕ)) (got all : List ℕ) → Gave rest taken a b got → a ≡ Some all → Told rest taken got all
told More taken a b got all g e = let c = consumed a b got all g e in record { left = c.0; whole_is = c.2; ended = λ x. absurd cc; over = λ x. absurd cc }
told Ended taken a b got all g e = let c = consumed a b got all g.0 e in record { left = c.0; whole_is = c.2; ended = λ x. at_end_nil b c.0 c.1 g.1; over = λ x. absurd cc }
told Over taken a b got all g e =
    let c = consumed a b (got ++ g.0 ∷ []) all g.1 e in
    record { left = g.0 ∷ c.0; whole_is = c.2 ∙ append_assoc got (g.0 ∷ []) c.0; ended = λ x. absurd cc; over = λ x. (omega arith, g.2) }

is_some_move : {S : Type 0} (m : Move S) → (m ≡ Waits → ⊥) → IsMove m
is_some_move Waits h = h refl
is_some_move (Takes n out t) h = tt
is_some_move (Refuses r) h = tt

-- from the first session s, with what the input held, to now: the input gave some bytes, and this was made of those before the window's
pub record Along {S : Type 0} (step : S → Bool → List ℕ → Move S) (count : S → ℕ) (before : ℕ) (s t : S) (input left : Option (List ℕ)) (made : List ℕ) (window : Held) : Type 0 where
  pub got : List ℕ
  pub went : Went step (is_ended window.rest) s got made t window.bytes
  pub gave : Gave window.rest window.taken input left got
  pub long : before + length got ≡ window.taken
  pub within : window.taken ≤ limit
  pub counted : count t + length window.bytes ≤ length got

-- the same, with what of it was written, and what is still gathered
pub record Runs {S : Type 0} (step : S → Bool → List ℕ → Move S) (count : S → ℕ) (before : ℕ) (s t : S) (input left written now : Option (List ℕ)) (held : List ℕ) (window : Held) : Type 0 where
  pub made : List ℕ
  pub put : List ℕ
  pub along : Along step count before s t input left made window
  pub wrote : Appends written now put
  pub split : made ≡ put ++ held

abbrev ended_by : {S : Type 0} → S → Stop → List ℕ → Outcome S
ended_by t stop output = record { end = Err stop; output = output; session = t }

module _ {S : Type 0} (step : S → Bool → List ℕ → Move S) (last : S → Result (List ℕ) Refusal) (count : S → ℕ) (laws : IsSession step count) (before : ℕ) where
  begin : (s : S) (input : Option (List ℕ)) → count s ≡ 0 → before ≤ limit → Along step count before s s input input [] (record { bytes = []; taken = before; rest = More })
  begin s input none few = record { got = []; went = here; gave = Consumes-nil input; long = omega arith; within = few; counted = omega arith }

  gave_same : (old new : Rest) (taken was : ℕ) (a b c : Option (List ℕ)) (xs ys : List ℕ) → Gave old was a b xs → new ≡ old → ys ≡ [] → c ≡ b → taken ≡ was → Gave new taken a c (xs ++ ys)
  gave_same old new taken was a b c xs ys g new_is none c_is taken_is =
      subst (λ (r : Rest). Gave r taken a c (xs ++ ys)) (sym new_is) (subst (λ (o : Option (List ℕ)). Gave old taken a o (xs ++ ys)) (sym c_is)
      (subst (λ (l : List ℕ). Gave old taken a b l) (sym (ap (λ (l : List ℕ). xs ++ l) none ∙ append-nil xs)) (subst (λ (k : ℕ). Gave old k a b xs) (sym taken_is) g)))

  gave_on : (old new : Rest) (taken was : ℕ) (a b c : Option (List ℕ)) (xs ys : List ℕ) → Gave old was a b xs → GaveMore old new taken b c ys → taken ≡ was + length ys → Gave new taken a c (xs ++ ys)
  gave_on More More taken was a b c xs ys g h e = Consumes-trans a b c xs ys g h
  gave_on More Ended taken was a b c xs ys g h e = (Consumes-trans a b c xs ys g h.0, h.1)
  gave_on More Over taken was a b c xs ys g h e = (h.0, subst (Consumes a c) (sym (append_assoc xs ys (h.0 ∷ []))) (Consumes-trans a b c xs (ys ++ h.0 ∷ []) g h.1), h.2)
  gave_on Ended new taken was a b c xs ys g h e = gave_same Ended new taken was a b c xs ys g h.0 h.1 h.2 (omega (arith, ap length h.1))
  gave_on Over new taken was a b c xs ys g h e = gave_same Over new taken was a b c xs ys g h.0 h.1 h.2 (omega (arith, ap length h.1))

  went_same : (old new : Rest) (s t : S) (xs ys put zs : List ℕ) → new ≡ old → ys ≡ [] → Went step (is_ended old) s xs put t zs → Went step (is_ended new) s (xs ++ ys) put t (zs ++ ys)
  went_same old new s t xs ys put zs new_is none w =
      subst (λ (r : Rest). Went step (is_ended r) s (xs ++ ys) put t (zs ++ ys)) (sym new_is) (subst (λ (l : List ℕ). Went step (is_ended old) s (xs ++ l) put t (zs ++ l)) (sym none) (went_nil step last count laws (is_ended old) w))

  went_on : (old new : Rest) (taken : ℕ) (b c : Option (List ℕ)) (s t : S) (xs ys put zs : List ℕ) → GaveMore old new taken b c ys → Went step (is_ended old) s xs put t zs
      → Went step (is_ended new) s (xs ++ ys) put t (zs ++ ys)
  went_on More new taken b c s t xs ys put zs h w = grow step last count laws (is_ended new) ys w
  went_on Ended new taken b c s t xs ys put zs h w = went_same Ended new s t xs ys put zs h.0 h.1 w
  went_on Over new taken b c s t xs ys put zs h w = went_same Over new s t xs ys put zs h.0 h.1 w

  refills : (s t : S) (input left next : Option (List ℕ)) (made : List ℕ) (old new : Held) → Along step count before s t input left made old → Refills old new (between left next)
      → Along step count before s t input next made new
  refills s t input left next made old new a r = record {
    got = a.got ++ r.got;
    went = subst (λ (x : List ℕ). Went step (is_ended new.rest) s (a.got ++ r.got) made t x) (sym r.bytes) (went_on old.rest new.rest new.taken left next s t a.got r.got made old.bytes r.gave a.went);
    gave = gave_on old.rest new.rest new.taken old.taken input left next a.got r.got a.gave r.gave r.taken;
    long = omega (arith, length-append a.got r.got, a.long, r.taken);
    within = r.within;
    counted = omega (arith, a.counted, ap length r.bytes, length-append old.bytes r.got, length-append a.got r.got);
  }

  goes_on : (s t u : S) (input left : Option (List ℕ)) (made : List ℕ) (window : Held) (n : ℕ) (out : List ℕ) → Along step count before s t input left made window
      → step t (is_ended window.rest) window.bytes ≡ Takes n out u → 0 < length window.bytes → Along step count before s u input left (made ++ out) (record window { bytes = drop n window.bytes })
  goes_on s t u input left made window n out a e some =
      let k = takes step last count laws t window.bytes (is_ended window.rest) n out u e in
      record {
        got = a.got;
        went = snoc step last count laws (is_ended window.rest) n out a.went e some;
        gave = a.gave;
        long = a.long;
        within = a.within;
        counted = omega (arith, a.counted, length-drop n window.bytes, k.0, k.1, k.2);
      }

  -- what a step says with all that is in the window, once it has enough
  pub step_now : (rest : Rest) (s : S) (bytes : List ℕ) (m : Move S) → (rest ≡ More → most_of_unit ≤ length bytes) → (rest ≡ Over → step s false bytes ≡ Waits → ⊥) → step s true bytes ≡ m
      → step s (is_ended rest) bytes ≡ m
  step_now More s bytes m enough whole_unit e = sym (settled_at step last count laws s bytes (laws.enough s bytes (enough refl))) ∙ e
  step_now Ended s bytes m enough whole_unit e = e
  step_now Over s bytes m enough whole_unit e = sym (settled_at step last count laws s bytes (is_some_move (step s false bytes) (whole_unit refl))) ∙ e

  answer-within : (s : S) (all : List ℕ) → length all ≤ limit - before → answer_to step last before s all ≡ outcome step last true s all
  answer-within s all le = ap (λ (b : Bool). if b then outcome step last true s all else outcome step last false s (take (limit - before) all)) (le-leb (length all) (limit - before) le)

  answer-past : (s : S) (all : List ℕ) → limit - before < length all → answer_to step last before s all ≡ outcome step last false s (take (limit - before) all)
  answer-past s all lt = ap (λ (b : Bool). if b then outcome step last true s all else outcome step last false s (take (limit - before) all)) (lt-leb (length all) (limit - before) lt)

  -- the answer to all of the input is what came out so far, and what is made of the window with what may follow
  record Ahead (s t : S) (all put bytes : List ℕ) (rest : Rest) : Type 0 where
    ended : Bool
    more : List ℕ
    is : answer_to step last before s all ≡ after put (outcome step last ended t (bytes ++ more))
    same : IsMove (step t (is_ended rest) bytes) → step t ended (bytes ++ more) ≡ step t (is_ended rest) bytes
    last_of : rest ≡ Ended → (ended ≡ true) × (more ≡ [])
    cut : rest ≡ Over → (ended ≡ false) × (more ≡ [])

  ahead_within : (s t : S) (got put bytes left : List ℕ) → length (got ++ left) ≤ limit - before → Went step false s got put t bytes → Ahead s t (got ++ left) put bytes More
  ahead_within s t got put bytes left le w = record {
    ended = true;
    more = left;
    is = answer-within s (got ++ left) le ∙ whole step last count laws true (grow step last count laws true left w);
    same = laws.settled t bytes left true;
    last_of = λ e. absurd cc;
    cut = λ e. absurd cc;
  }

  take-front : (xs ys : List ℕ) (n : ℕ) → length xs ≤ n → take n (xs ++ ys) ≡ xs ++ take (n - length xs) ys
  take-front xs ys n le = let e : length xs + (n - length xs) ≡ n = omega arith in subst (λ (k : ℕ). take k (xs ++ ys) ≡ xs ++ take (n - length xs) ys) e (take-append-add xs ys (n - length xs))

  ahead_past : (s t : S) (got put bytes left : List ℕ) → limit - before < length (got ++ left) → length got ≤ limit - before → Went step false s got put t bytes
      → Ahead s t (got ++ left) put bytes More
  ahead_past s t got put bytes left lt le w =
      let more = take (limit - before - length got) left in
      record {
        ended = false;
        more = more;
        is = answer-past s (got ++ left) lt ∙ ap (outcome step last false s) (take-front got left (limit - before) le) ∙ whole step last count laws false (grow step last count laws false more w);
        same = laws.settled t bytes more false;
        last_of = λ e. absurd cc;
        cut = λ e. absurd cc;
      }

  ahead_of : (rest : Rest) (s t : S) (got put bytes left : List ℕ) (taken : ℕ) → Went step (is_ended rest) s got put t bytes → before + length got ≡ taken → taken ≤ limit
      → (rest ≡ Ended → left ≡ []) → (rest ≡ Over → (0 < length left) × (taken ≡ limit))
      → Ahead s t (got ++ left) put bytes rest
  ahead_of More s t got put bytes left taken w long within e o =
      elim (cases_lt (limit - before) (length (got ++ left))) [
        | inl lt ↦ ahead_past s t got put bytes left lt (omega arith) w
        | inr le ↦ ahead_within s t got put bytes left le w
      ]
  ahead_of Ended s t got put bytes left taken w long within e o =
      let none = e refl in
      let all_is : got ≡ got ++ left = sym (ap (λ (l : List ℕ). got ++ l) none ∙ append-nil got) in
      record {
        ended = true;
        more = [];
        is = subst (λ (l : List ℕ). answer_to step last before s l ≡ after put (outcome step last true t (bytes ++ []))) all_is
            (answer-within s got (omega arith) ∙ whole step last count laws true w ∙ ap (λ (l : List ℕ). after put (outcome step last true t l)) (sym (append-nil bytes)));
        same = λ m. ap (step t true) (append-nil bytes);
        last_of = λ x. (refl, refl);
        cut = λ x. absurd cc;
      }
  ahead_of Over s t got put bytes left taken w long within e o =
      let past = o refl in
      record {
        ended = false;
        more = [];
        is = answer-past s (got ++ left) (omega (arith, length-append got left, past.0, past.1, long)) ∙
            ap (outcome step last false s) (take_at got left (limit - before) (omega (arith, past.1, long))) ∙ whole step last count laws false w ∙
            ap (λ (l : List ℕ). after put (outcome step last false t l)) (sym (append-nil bytes));
        same = λ m. ap (step t false) (append-nil bytes);
        last_of = λ x. absurd cc;
        cut = λ x. (refl, refl);
      }

  ahead : (s t : S) (input left : Option (List ℕ)) (made : List ℕ) (window : Held) (a : Along step count before s t input left made window) (all : List ℕ) → input ≡ Some all
      → Ahead s t all made window.bytes window.rest
  ahead s t input left made window a all e =
      let h = told window.rest window.taken input left a.got all a.gave e in
      subst (λ (l : List ℕ). Ahead s t l made window.bytes window.rest) (sym h.whole_is) (ahead_of window.rest s t a.got made window.bytes h.left window.taken a.went a.long a.within h.ended h.over)

  -- ---- the exits

  taken_of : (rest : Rest) (n : ℕ) (input left : Option (List ℕ)) (got : List ℕ) → Gave rest n input left got → before + length got ≤ limit
      → (taken : List ℕ) × Consumes input left taken × (before + length taken ≤ limit + 1)
  taken_of More n input left got g few = (got, g, omega arith)
  taken_of Ended n input left got g few = (got, g.0, omega arith)
  taken_of Over n input left got g few = (got ++ g.0 ∷ [], g.1, omega (arith, length-append got (g.0 ∷ [])))

  all_taken : (s t : S) (input left : Option (List ℕ)) (made : List ℕ) (window : Held) → Along step count before s t input left made window
      → (taken : List ℕ) × Consumes input left taken × (before + length taken ≤ limit + 1)
  all_taken s t input left made window a = taken_of window.rest window.taken input left a.got a.gave (omega (arith, a.long, a.within))

  abbrev Pumps : S → S → Option (List ℕ) → Option (List ℕ) → Option (List ℕ) → Option (List ℕ) → Result Unit Stop → Type 0
  Pumps s u input left written now result = Pumped step last before s u (between input left) (between written now) result

  stopped_here : (s t : S) (all put bytes : List ℕ) (rest : Rest) (h : Ahead s t all put bytes rest) (stop : Stop) → outcome step last h.ended t (bytes ++ h.more) ≡ stopped t stop
      → answer_to step last before s all ≡ ended_by t stop put
  stopped_here s t all put bytes rest h stop e = h.is ∙ ap (after put) e ∙ ap (ended_by t stop) (append-nil put)

  told_by : (o : Outcome S) (t : S) (stop : Stop) (put : List ℕ) → o ≡ ended_by t stop put → (o.end ≡ Err stop) × (o.output ≡ put)
  told_by o t stop put e = (ap (λ (x : Outcome S). x.end) e, ap (λ (x : Outcome S). x.output) e)

  -- an exit with an answer
  answered : (s t : S) (input left : Option (List ℕ)) (made : List ℕ) (window : Held) (a : Along step count before s t input left made window) (stop : Stop)
      → ((all : List ℕ) (h : Ahead s t all made window.bytes window.rest) → outcome step last h.ended t (window.bytes ++ h.more) ≡ stopped t stop) → IsAnswer step last before s input (Err stop) made
  answered s t input left made window a stop go =
      if_told input _ (λ all e. let h = ahead s t input left made window a all e in told_by _ t stop made (stopped_here s t all made window.bytes window.rest h stop (go all h)))

  -- all that was made is written, and it stops
  stops : {u : S} (s t : S) (input left written now : Option (List ℕ)) (made : List ℕ) (window : Held) (a : Along step count before s t input left made window) (stop : Stop) → Appends written now made
      → ((taken : List ℕ) → Says step last before s (between input left) taken made u (Err stop)) → Pumps s u input left written now (Err stop)
  stops s t input left written now made window a stop wrote says =
      let k = all_taken s t input left made window a in
      record { taken = k.0; put = made; few = k.2; reads = k.1; writes = wrote; says = says k.0 }

  longer : (bytes more : List ℕ) → 0 < length bytes → 0 < length (bytes ++ more)
  longer bytes more l = omega (arith, length-append bytes more)

  -- the next unit is refused, or cut off by the limit
  at_unit : {u : S} (s t : S) (input left written now : Option (List ℕ)) (made : List ℕ) (window : Held) (stop : Stop) → Along step count before s t input left made window
      → Appends written now made → 0 < length window.bytes
      → IsUnitStop (step t (is_ended window.rest) window.bytes) window.rest stop → Pumps s u input left written now (Err stop)
  at_unit s t input left written now made window (Refused r) a wrote some e =
      stops s t input left written now made window a (Refused r) wrote (λ _. answered s t input left made window a (Refused r) (λ all h.
      outcome-refuses step last count laws h.ended t (window.bytes ++ h.more) r (h.same (subst IsMove (sym e) tt) ∙ e) (longer window.bytes h.more some)))
  at_unit s t input left written now made window TooLong a wrote some e =
      stops s t input left written now made window a TooLong wrote (λ _. answered s t input left made window a TooLong (λ all h.
      let waits : step t (is_ended Over) window.bytes ≡ Waits = subst (λ (r : Rest). step t (is_ended r) window.bytes ≡ Waits) e.1 e.0 in
      let c = h.cut e.1 in
      let all_is : window.bytes ++ h.more ≡ window.bytes = ap (λ (l : List ℕ). window.bytes ++ l) c.1 ∙ append-nil window.bytes in
      let here_too : step t h.ended (window.bytes ++ h.more) ≡ Waits = rw (c.0, all_is) waits in
      outcome-waits step last count laws h.ended t (window.bytes ++ h.more) here_too (longer window.bytes h.more some)))
  at_unit s t input left written now made window ReadFault a wrote some e = absurd e
  at_unit s t input left written now made window WriteFault a wrote some e = absurd e

  ended_cases : (rest : Rest) → (rest ≡ More → ⊥) → (rest ≡ Over → ⊥) → rest ≡ Ended
  ended_cases More m o = absurd (m refl)
  ended_cases Ended m o = refl
  ended_cases Over m o = absurd (o refl)

  -- what is made of nothing at the end
  at_last : (s t : S) (all put bytes : List ℕ) (rest : Rest) (h : Ahead s t all put bytes rest) → bytes ≡ [] → rest ≡ Ended → outcome step last h.ended t (bytes ++ h.more) ≡ finished t (last t)
  at_last s t all put bytes rest h none e =
      let k = h.last_of e in
      let nothing : bytes ++ h.more ≡ [] = ap (λ (l : List ℕ). l ++ h.more) none ∙ k.1 in
      rw (k.0, nothing) (outcome-nil step last count laws true t)

  at_limit : (s t : S) (all put bytes : List ℕ) (rest : Rest) (h : Ahead s t all put bytes rest) → bytes ≡ [] → rest ≡ Over → outcome step last h.ended t (bytes ++ h.more) ≡ stopped t TooLong
  at_limit s t all put bytes rest h none e =
      let k = h.cut e in
      let nothing : bytes ++ h.more ≡ [] = ap (λ (l : List ℕ). l ++ h.more) none ∙ k.1 in
      rw (k.0, nothing) (outcome-nil step last count laws false t)

  not_more : (window : Held) → (window.rest ≡ More → most_of_unit ≤ length window.bytes) → length window.bytes ≡ 0 → window.rest ≡ More → ⊥
  not_more window ready none e = let l = ready e in omega arith

  -- the end is refused, or past the limit
  at_last_stop : {u : S} (s t : S) (input left written now : Option (List ℕ)) (made : List ℕ) (window : Held) (stop : Stop) → Along step count before s t input left made window
      → Appends written now made → length window.bytes ≡ 0 → (window.rest ≡ More → most_of_unit ≤ length window.bytes)
      → IsLastStop (last t) window.rest stop → Pumps s u input left written now (Err stop)
  at_last_stop s t input left written now made window (Refused r) a wrote none ready e =
      let is_end = ended_cases window.rest (not_more window ready none) e.1 in
      stops s t input left written now made window a (Refused r) wrote (λ _. answered s t input left made window a (Refused r) (λ all h.
      at_last s t all made window.bytes window.rest h (nil_from_length window.bytes none) is_end ∙ ap (finished t) e.0))
  at_last_stop s t input left written now made window TooLong a wrote none ready e =
      stops s t input left written now made window a TooLong wrote (λ _. answered s t input left made window a TooLong (λ all h. at_limit s t all made window.bytes window.rest h (nil_from_length window.bytes none) e))
  at_last_stop s t input left written now made window ReadFault a wrote none ready e = absurd e
  at_last_stop s t input left written now made window WriteFault a wrote none ready e = absurd e

  end_of : (rest : Rest) (n : ℕ) (input left : Option (List ℕ)) (got : List ℕ) → Gave rest n input left got → rest ≡ Ended → IsAtEnd left
  end_of More n input left got g e = absurd cc
  end_of Ended n input left got g e = g.1
  end_of Over n input left got g e = absurd cc

  -- the whole answer, at the end
  whole_answer : (s t : S) (input left : Option (List ℕ)) (made : List ℕ) (window : Held) (out : List ℕ) → Along step count before s t input left made window → length window.bytes ≡ 0
      → window.rest ≡ Ended → last t ≡ Ok out
      → (all : List ℕ) → input ≡ Some all → answer_to step last before s all ≡ record { end = Ok tt; output = made ++ out; session = t }
  whole_answer s t input left made window out a none is_end e all told_is =
      let h = ahead s t input left made window a all told_is in
      h.is ∙ ap (after made) (at_last s t all made window.bytes window.rest h (nil_from_length window.bytes none) is_end ∙ ap (finished t) e)

  -- the end
  at_end : (s t : S) (input left written now later : Option (List ℕ)) (made : List ℕ) (window : Held) (out : List ℕ) → Along step count before s t input left made window
      → Appends written now made → length window.bytes ≡ 0 → (window.rest ≡ More → most_of_unit ≤ length window.bytes)
      → (window.rest ≡ Over → ⊥) → last t ≡ Ok out → Appends now later out → Pumps s t input left written later (Ok tt)
  at_end s t input left written now later made window out a wrote none ready over e w =
      let k = all_taken s t input left made window a in
      let is_end = ended_cases window.rest (not_more window ready none) over in
      record {
        taken = k.0;
        put = made ++ out;
        few = k.2;
        reads = k.1;
        writes = Appends-trans written now later made out wrote w;
        says = (
          end_of window.rest window.taken input left a.got a.gave is_end,
          if_told input _ (λ all told_is. let h = whole_answer s t input left made window out a none is_end e all told_is in (ap (λ (o : Outcome S). o.end) h, ap (λ (o : Outcome S). o.output) h)),
          if_told input _ (λ all told_is. ap (λ (o : Outcome S). o.session) (whole_answer s t input left made window out a none is_end e all told_is)),
        );
      }

  -- a write failed behind some bytes, which with others begin what is made and then comes out next
  write_failed : {u : S} (s t : S) (input left written now : Option (List ℕ)) (made put out : List ℕ) (window : Held) (a : Along step count before s t input left made window)
      → ((all : List ℕ) (h : Ahead s t all made window.bytes window.rest) → IsPrefix out (outcome step last h.ended t (window.bytes ++ h.more)).output) → IsPrefix put (made ++ out)
      → Appends written now put → Pumps s u input left written now (Err WriteFault)
  write_failed s t input left written now made put out window a go front wrote =
      let k = all_taken s t input left made window a in
      record {
        taken = k.0;
        put = put;
        few = k.2;
        reads = k.1;
        writes = wrote;
        says = if_told input _ (λ all told_is.
            let h = ahead s t input left made window a all told_is in
            let p = go all h in (
              front.0 ++ p.0,
              ap (λ (o : Outcome S). o.output) h.is ∙ ap (λ (l : List ℕ). made ++ l) p.1 ∙ sym (append_assoc made out p.0) ∙ ap (λ (l : List ℕ). l ++ p.0) front.1 ∙
                  append_assoc put front.0 p.0,
            ));
      }

  -- so many of the next bytes were written
  cut_at : (xs held : List ℕ) (n : ℕ) → IsPrefix (xs ++ take n held) (xs ++ held)
  cut_at xs held n = (drop n held, ap (λ (l : List ℕ). xs ++ l) (sym (take-append-drop n held)) ∙ sym (append_assoc xs (take n held) (drop n held)))

  -- a write of what was gathered failed
  at_failed_write : {u : S} (s t : S) (input left written now later : Option (List ℕ)) (made put held : List ℕ) (window : Held) (stop : Stop)
      → Along step count before s t input left made window → Appends written now put → made ≡ put ++ held
      → IsWriteStop (between now later) held stop → Pumps s u input left written later (Err stop)
  at_failed_write {u = u} s t input left written now later made put held window stop a wrote split f =
      let front : IsPrefix (put ++ take f.1.0 held) (made ++ []) = subst (IsPrefix (put ++ take f.1.0 held)) (sym (append-nil made ∙ split)) (cut_at put held f.1.0) in
      subst (λ (x : Stop). Pumps s u input left written later (Err x)) (sym f.0)
      (write_failed s t input left written later made (put ++ take f.1.0 held) [] window a
      (λ all h. ((outcome step last h.ended t (window.bytes ++ h.more)).output, refl)) front (Appends-trans written now later put (take f.1.0 held) wrote f.1.1))

  at_last_write : {u : S} (s t : S) (input left written now later : Option (List ℕ)) (made : List ℕ) (window : Held) (out : List ℕ) (stop : Stop)
      → Along step count before s t input left made window → Appends written now made → length window.bytes ≡ 0 → (window.rest ≡ More → most_of_unit ≤ length window.bytes)
      → (window.rest ≡ Over → ⊥) → last t ≡ Ok out → IsWriteStop (between now later) out stop → Pumps s u input left written later (Err stop)
  at_last_write {u = u} s t input left written now later made window out stop a wrote none ready over e f =
      let is_end = ended_cases window.rest (not_more window ready none) over in
      subst (λ (x : Stop). Pumps s u input left written later (Err x)) (sym f.0)
      (write_failed s t input left written later made (made ++ take f.1.0 out) out window a (λ all h.
      ([], ap (λ (o : Outcome S). o.output) (at_last s t all made window.bytes window.rest h (nil_from_length window.bytes none) is_end ∙ ap (finished t) e) ∙ sym (append-nil out)))
      (cut_at made out f.1.0) (Appends-trans written now later made (take f.1.0 out) wrote f.1.1))

  -- the last bytes are written, or that fails
  at_last_put : (s t : S) (input left written now later : Option (List ℕ)) (made : List ℕ) (window : Held) (out : List ℕ) (result : Result Unit Stop)
      → Along step count before s t input left made window → Appends written now made → length window.bytes ≡ 0 → (window.rest ≡ More → most_of_unit ≤ length window.bytes)
      → (window.rest ≡ Over → ⊥) × (last t ≡ Ok out) → OnOk result (Appends now later out) → IfErr result (λ stop. IsWriteStop (between now later) out stop) → Pumps s t input left written later result
  at_last_put s t input left written now later made window out (Ok x) a wrote none ready e w f = at_end s t input left written now later made window out a wrote none ready e.0 e.1 w
  at_last_put s t input left written now later made window out (Err stop) a wrote none ready e w f = at_last_write s t input left written now later made window out stop a wrote none ready e.0 e.1 f

  read_failed : (s t : S) (rest : Rest) (got put bytes x : List ℕ) → rest ≡ More → Went step (is_ended rest) s got put t bytes → length bytes + length x ≤ window_room
      → IsTimely step last before s (got ++ x) put
  read_failed s t More got put bytes x e w room = record {
    sure = ((outcome step last false t (bytes ++ x)).output, ap (λ (o : Outcome S). o.output) (whole step last count laws false (grow step last count laws false x w)));
    prompt = λ front late is far. early step last count laws front late (grow step last count laws true x w) is
        (omega (arith, ap length is, length-append got x, length-append front late, length-append bytes x));
  }
  read_failed s t Ended got put bytes x e w room = absurd cc
  read_failed s t Over got put bytes x e w room = absurd cc

  gave_open : (rest : Rest) (n : ℕ) (a b c : Option (List ℕ)) (xs ys : List ℕ) → rest ≡ More → Gave rest n a b xs → Consumes b c ys → Consumes a c (xs ++ ys)
  gave_open More n a b c xs ys e g h = Consumes-trans a b c xs ys g h
  gave_open Ended n a b c xs ys e g h = absurd cc
  gave_open Over n a b c xs ys e g h = absurd cc

  -- a read failed
  at_read : {u : S} (s t : S) (input left next written now : Option (List ℕ)) (made : List ℕ) (window : Held) → Along step count before s t input left made window
      → Appends written now made → Fails window (between left next) → Pumps s u input next written now (Err ReadFault)
  at_read s t input left next written now made window a wrote f =
      record {
        taken = a.got ++ f.got;
        put = made;
        few = omega (arith, a.long, f.few, length-append a.got f.got);
        reads = gave_open window.rest window.taken input left next a.got f.got f.more a.gave f.gave;
        writes = wrote;
        says = read_failed s t window.rest a.got made window.bytes f.got f.more a.went f.room;
      }

  -- ---- with what is gathered

  pub run_begins : (s : S) (input written : Option (List ℕ)) → count s ≡ 0 → before ≤ limit
      → Runs step count before s s input input written written [] (record { bytes = []; taken = before; rest = More })
  run_begins s input written none few = record { made = []; put = []; along = begin s input none few; wrote = Appends-nil written; split = refl }

  gathered_on : (made put held out more new : List ℕ) → made ≡ put ++ held → held ++ out ≡ more ++ new → made ++ out ≡ (put ++ more) ++ new
  gathered_on made put held out more new e f =
      ap (λ (l : List ℕ). l ++ out) e ∙ append_assoc put held out ∙ ap (λ (l : List ℕ). put ++ l) f ∙ sym (append_assoc put more new)

  pub run_fills : {s t : S} {input left next written now later : Option (List ℕ)} {held new_held : List ℕ} {old new : Held} → Runs step count before s t input left written now held old
      → Refills old new (between left next) → Gathers (between now later) held [] new_held → Runs step count before s t input next written later new_held new
  run_fills {written = written} {now = now} {later = later} {held = held} {new_held = new_held} {old = old} {new = new} r f g = record {
    made = r.made;
    put = r.put ++ g.put;
    along = refills _ _ _ _ _ r.made old new r.along f;
    wrote = Appends-trans written now later r.put g.put r.wrote g.wrote;
    split = sym (append-nil r.made) ∙ gathered_on r.made r.put held [] g.put new_held r.split g.same;
  }

  pub run_goes_on : {s t u : S} {input left written now later : Option (List ℕ)} {held new_held : List ℕ} {window : Held} {n : ℕ} {out : List ℕ}
      → Runs step count before s t input left written now held window
      → step t (is_ended window.rest) window.bytes ≡ Takes n out u → 0 < length window.bytes → Gathers (between now later) held out new_held
      → Runs step count before s u input left written later new_held (record window { bytes = drop n window.bytes })
  run_goes_on {written = written} {now = now} {later = later} {held = held} {new_held = new_held} {window = window} {n = n} {out = out} r e some g = record {
    made = r.made ++ out;
    put = r.put ++ g.put;
    along = goes_on _ _ _ _ _ r.made window n out r.along e some;
    wrote = Appends-trans written now later r.put g.put r.wrote g.wrote;
    split = gathered_on r.made r.put held out g.put new_held r.split g.same;
  }

  all_written : {s t : S} {input left written now : Option (List ℕ)} (later : Option (List ℕ)) {held : List ℕ} {window : Held}
      (r : Runs step count before s t input left written now held window) → Appends now later held → Appends written later r.made
  all_written {written = written} {now = now} later {held = held} r w = subst (Appends written later) (sym r.split) (Appends-trans written now later r.put held r.wrote w)

  pub run_flush_fails : {s t u : S} {input left written now later : Option (List ℕ)} {held : List ℕ} {window : Held} {stop : Stop} → Runs step count before s t input left written now held window
      → IsWriteStop (between now later) held stop → Pumps s u input left written later (Err stop)
  run_flush_fails {held = held} {window = window} {stop = stop} r f = at_failed_write _ _ _ _ _ _ _ r.made r.put held window stop r.along r.wrote r.split f

  pub run_input_stops : {s t u : S} {input left next written now later : Option (List ℕ)} {held : List ℕ} {window : Held} (stop : Stop) → Runs step count before s t input left written now held window
      → IsInputStop window (between left next) (between now later) held stop → Pumps s u input next written later (Err stop)
  run_input_stops (Refused x) r f = absurd f
  run_input_stops {window = window} ReadFault r f = at_read _ _ _ _ _ _ _ r.made window r.along (all_written _ r f.1) f.0
  run_input_stops {s = s} {u = u} {input = input} {written = written} {later = later} WriteFault r f =
      subst (λ (o : Option (List ℕ)). Pumps s u input o written later (Err WriteFault)) (sym f.0) (run_flush_fails r f.1)
  run_input_stops TooLong r f = absurd f

  pub run_unit_stops : {s t u : S} {input left written now later : Option (List ℕ)} {held : List ℕ} {window : Held} {stop : Stop} → Runs step count before s t input left written now held window
      → Appends now later held → 0 < length window.bytes → IsUnitStop (step t (is_ended window.rest) window.bytes) window.rest stop → Pumps s u input left written later (Err stop)
  run_unit_stops {window = window} {stop = stop} r w some e = at_unit _ _ _ _ _ _ r.made window stop r.along (all_written _ r w) some e

  pub run_last_stops : {s t u : S} {input left written now later : Option (List ℕ)} {held : List ℕ} {window : Held} {stop : Stop} → Runs step count before s t input left written now held window
      → Appends now later held → length window.bytes ≡ 0 → (window.rest ≡ More → most_of_unit ≤ length window.bytes) → IsLastStop (last t) window.rest stop
      → Pumps s u input left written later (Err stop)
  run_last_stops {window = window} {stop = stop} r w none ready e = at_last_stop _ _ _ _ _ _ r.made window stop r.along (all_written _ r w) none ready e

  pub run_ends : {s t : S} {input left written now : Option (List ℕ)} (mid : Option (List ℕ)) {later : Option (List ℕ)} {held : List ℕ} {window : Held} {out : List ℕ} (result : Result Unit Stop)
      → Runs step count before s t input left written now held window
      → Appends now mid held → length window.bytes ≡ 0 → (window.rest ≡ More → most_of_unit ≤ length window.bytes) → (window.rest ≡ Over → ⊥) × (last t ≡ Ok out)
      → OnOk result (Appends mid later out) → IfErr result (λ stop. IsWriteStop (between mid later) out stop) → Pumps s t input left written later result
  run_ends mid {window = window} {out = out} result r w none ready e ok err = at_last_put _ _ _ _ _ _ _ r.made window out result r.along (all_written _ r w) none ready e ok err
