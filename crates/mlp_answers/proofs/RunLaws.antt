-- A session that does a command's work gives its answer.
use Rattle.std.proofs.Common.{◌≡◌, ◌≢◌, ℕ, zero, suc, ◌<◌, ◌≤◌, ◌++◌, cond, Bool, true, false, List, [], ◌∷◌, length, take, drop, Result, Ok}
use Rattle.std.proofs.Common.{Err, Option, Some, None, IfSome, ◌⊎◌, inl, inr, refl, sym, ap, subst, ◌∙◌, arith, append_assoc, length-drop}
use Rattle.std.proofs.lemmas.Bool.{cases_lt, lt-leb, le-leb}
use Rattle.std.proofs.lemmas.List.{append-nil, nil_from_length}
use Rattle.mlp_io.specs.Limit.{limit}
use Rattle.mlp_bits.specs.Bits.{bits_of}
use Rattle.mlp_bits.proofs.BitLists.{length-bits_of}
use Rattle.mlp_layout.specs.Streams.{UnitOf, Begins}
use Rattle.mlp_walk.specs.declared.refusal.Refusal.{Refusal as Declined}
use Rattle.mlp_walk.specs.declared.refusal.Refusal.TheVariants as declined
use Rattle.mlp_walk.specs.Next.{next_of}
use Rattle.mlp_walk.specs.Meaning as walk
use Rattle.mlp_walk.proofs.NextLaws.{fault_from, unit_within}
use Rattle.mlp_walk.proofs.WalkLaws.{taken_none, takes_one, law_next, law_end}
use Rattle.mlp_stream.specs.declared.refusal.Refusal.{Refusal}
use Rattle.mlp_stream.specs.declared.refusal.Refusal.TheVariants as refused
use Rattle.mlp_stream.specs.declared.stop.Stop.{Stop}
use Rattle.mlp_stream.specs.declared.stop.Stop.TheVariants.{Refused, ReadFault, WriteFault, TooLong}
use Rattle.mlp_stream.specs.Moves.{Move, Waits, Takes, Refuses}
use Rattle.mlp_stream.specs.Sides.{Side}
use Rattle.mlp_stream.specs.Streams.{Outcome, IsPrefix, after, stopped, finished as ended_by, at_end, on_move, run_for, outcome, soon}
use Rattle.mlp_stream.specs.Pumped as pumped
use Rattle.mlp_answers.specs.Working.{Working, left_of, IsWorking}
use Rattle.mlp_answers.specs.Answers.{refusing, Gives, HasTaken, AreUnits, Worked, IsDecided, Answers, finished, unfinished, breaks, lacks, refuses, waits, Answer, Soon}
use Rattle.mlp_answers.specs.Works.{Begun, Wrote, Works}
use Rattle.mlp_answers.specs.Reading.{refusal_of}
use Rattle.mlp_answers.specs.Follows.{IsRefused, IsMoved, Follows}
use Rattle.mlp_answers.proofs.OneAnswer.{gives_more}

module _ {L O C : Type 0} (w : Working L O C) (is : IsWorking w) where
  -- ---- what is refused of the next unit

  none_out : (us : List (UnitOf O C)) (xs : List ℕ) → us ≡ [] → Gives w [] us xs → xs ≡ []
  unfolding Gives
  none_out us xs none g = subst (λ (vs : List (UnitOf O C)). Gives w [] vs xs) none g

  same_rest : (bytes : List ℕ) (us : List (UnitOf O C)) (rest : List ℕ) → us ≡ [] → HasTaken w bytes us rest → bits_of bytes ≡ bits_of rest
  unfolding Begins
  same_rest bytes us rest none h = subst (λ (vs : List (UnitOf O C)). Begins w.format w.start (bits_of bytes) vs (bits_of rest)) none h.begins

  decided_first : (ended : Bool) (us : List (UnitOf O C)) (bytes rest : List ℕ) → us ≡ [] → bits_of bytes ≡ bits_of rest → IsDecided w ended us rest → IsDecided w ended [] bytes
  decided_first ended us bytes rest none same (inl all) = inl all
  decided_first ended us bytes rest none same (inr closed) =
      inr (is.open_is.by_bits (left_of w []) bytes rest same ∙ ap (λ (vs : List (UnitOf O C)). w.is_open (left_of w vs) rest) (sym none) ∙ closed)

  refused_next : (ended : Bool) (bytes : List ℕ) (us : List (UnitOf O C)) (rest xs : List ℕ) → Worked w bytes us rest xs → (rest ≢ []) ⊎ (bytes ≡ []) → IsDecided w ended us rest
      → (e : Declined) → next_of w.format w.wanted (length us) (left_of w us) rest ≡ Err e → Answers w ended bytes (refusing (refusal_of e)) xs
  refused_next ended bytes us rest xs worked begun d (declined.Fault fault) e =
      let means = law_next w.format is.format_is w.start is.takes_bytes w.wanted bytes us rest worked.taken begun in
      let fails = subst (walk.Means w.format w.start w.wanted bytes us rest) e means in
      let number = (fault_from w.format is.format_is w.wanted (length us) (left_of w us) rest fault e).unit_fails.number_is in
      breaks us rest fault worked (sym number) fails d
  refused_next ended bytes us rest xs worked begun d (declined.NoPresentation have) e =
      let means = law_next w.format is.format_is w.start is.takes_bytes w.wanted bytes us rest worked.taken begun in
      let lack = subst (walk.Means w.format w.start w.wanted bytes us rest) e means in
      let same = same_rest bytes us rest lack.0 worked.taken in
      subst (Answers w ended bytes (refusing (refused.NoPresentation have))) (sym (none_out us xs lack.0 worked.gives)) (lacks have lack.1 (decided_first ended us bytes rest lack.0 same d))

  -- ---- a run

  module _ {S : Type 0} (Sums : List (UnitOf O C) → S → Type 0) (step : S → Bool → List ℕ → Move S) (last : S → Result (List ℕ) Refusal) (follows : Follows w Sums step last) where
    abbrev stopped_by : Stop → Result Unit Stop
    stopped_by e = Err e

    abbrev at_its_end : Result Unit Stop
    at_its_end = Ok tt

    -- the answer, and at an end that isn't refused the units that the session took
    pub record Summed (ended : Bool) (bytes xs : List ℕ) (o : Outcome S) : Type 0 where
      pub answers : Answers w ended bytes o.end (xs ++ o.output)
      pub behind : o.end ≡ Ok tt → (us : List (UnitOf O C)) × AreUnits w bytes us × Sums us o.session

    err_ok : (e : Stop) → stopped_by e ≡ at_its_end → ⊥
    err_ok e h = cc

    stops : (ended : Bool) (bytes xs : List ℕ) (s : S) (e : Stop) → Answers w ended bytes (Err e) xs → Summed ended bytes xs (stopped s e)
    stops ended bytes xs s e a = record { answers = subst (Answers w ended bytes (Err e)) (sym (append-nil xs)) a; behind = λ h. absurd (err_ok e h) }

    ends_by : (bytes : List ℕ) (us : List (UnitOf O C)) (xs : List ℕ) (s : S) → AreUnits w bytes us → Gives w [] us xs → Sums us s → (r : Result (List ℕ) Refusal) → w.Ends us r → Summed true bytes xs (ended_by s r)
    ends_by bytes us xs s units gives sums (Ok ys) e = record { answers = finished us xs ys refl units gives e refl; behind = λ h. (us, units, sums) }
    ends_by bytes us xs s units gives sums (Err r) e = stops true bytes xs s (Refused r) (unfinished us r refl units gives e)

    no_bytes : (bytes : List ℕ) → bits_of bytes ≡ bits_of [] → bytes ≡ []
    no_bytes bytes e = nil_from_length bytes (omega (arith, ap length e, length-bits_of bytes, length-bits_of []))

    ends_at : (bytes : List ℕ) (us : List (UnitOf O C)) (xs : List ℕ) (s : S) → Worked w bytes us [] xs → Sums us s → Summed true bytes xs (ended_by s (last s))
    ends_at bytes [] xs s worked sums =
        let l = follows.ends [] s sums in
        let none = no_bytes bytes (same_rest bytes [] [] refl worked.taken) in
        subst (λ (r : Result (List ℕ) Refusal). Summed true bytes xs (ended_by s r)) (sym l.2)
        (stops true bytes xs s (Refused (refusal_of l.0)) (refused_next true bytes [] [] xs worked (inr none) (inl refl) l.0 l.1))
    ends_at bytes (u ∷ us) xs s worked sums =
        ends_by bytes (u ∷ us) xs s (law_end w.format is.format_is w.start w.wanted bytes (u ∷ us) worked.taken (λ e. cc)) worked.gives sums (last s) (follows.ends (u ∷ us) s sums)

    at_the_end : (ended : Bool) (bytes : List ℕ) (us : List (UnitOf O C)) (xs : List ℕ) (s : S) → Worked w bytes us [] xs → Sums us s → Summed ended bytes xs (at_end step last ended s)
    at_the_end true bytes us xs s worked sums = ends_at bytes us xs s worked sums
    at_the_end false bytes us xs s worked sums = stops false bytes xs s TooLong (waits us [] refl worked (is.open_is.none (left_of w us)))

    -- what later moves make of the rest
    abbrev Later : ℕ → Bool → List ℕ → Type 0
    Later turns ended bytes =
        (us : List (UnitOf O C)) (xs rest : List ℕ) (s : S) → Worked w bytes us rest xs → Sums us s → length rest < turns → Summed ended bytes xs (run_for step last turns ended s rest)

    with_front : (ended : Bool) (bytes xs out : List ℕ) (o : Outcome S) → Summed ended bytes (xs ++ out) o → Summed ended bytes xs (after out o)
    with_front ended bytes xs out o q = record { answers = subst (Answers w ended bytes o.end) (append_assoc xs out o.output) q.answers; behind = q.behind }

    on_refusal : (ended : Bool) (bytes : List ℕ) (us : List (UnitOf O C)) (xs rest : List ℕ) (r : Refusal) → Worked w bytes us rest xs → rest ≢ [] → IsDecided w ended us rest → IsRefused w Sums us rest r
        → Answers w ended bytes (refusing r) xs
    on_refusal ended bytes us xs rest r worked some d (inl q) =
        subst (λ (k : Refusal). Answers w ended bytes (refusing k) xs) (sym q.2) (refused_next ended bytes us rest xs worked (inl some) d q.0 q.1)
    on_refusal ended bytes us xs rest r worked some d (inr q) =
        refuses us rest _ q.0.unit r worked (takes_one w.format is.format_is w.start is.takes_bytes w.wanted bytes us rest q.0 worked.taken q.1) q.2

    on_step : (turns : ℕ) (ended : Bool) (bytes : List ℕ) (us : List (UnitOf O C)) (xs rest : List ℕ) (s : S) → Worked w bytes us rest xs → 0 < length rest → length rest < suc turns → Later turns ended bytes
        → (m : Move S) → IsMoved w Sums ended us rest m → Summed ended bytes xs (on_move step last (λ t later. run_for step last turns ended t later) s rest m)
    on_step turns ended bytes us xs rest s worked some few go Waits m = stops ended bytes xs s TooLong (waits us rest m.0 worked m.1)
    on_step turns ended bytes us xs rest s worked some few go (Refuses r) m = stops ended bytes xs s (Refused r) (on_refusal ended bytes us xs rest r worked (λ e. omega (arith, ap length e)) m.0 m.1)
    on_step turns ended bytes us xs rest s worked some few go (Takes n out t) m =
        let taken = takes_one w.format is.format_is w.start is.takes_bytes w.wanted bytes us rest m.taken worked.taken m.next in
        let within = unit_within w.format is.format_is is.takes_bytes w.wanted (length us) (left_of w us) rest m.taken m.next in
        let gives = gives_more w [] us m.taken.unit xs out worked.gives m.gives in
        let worked_on = subst (λ (k : ℕ). Worked w bytes (us ++ m.taken.unit ∷ []) (drop k rest) (xs ++ out)) m.size (record { taken = taken; gives = gives }) in
        with_front ended bytes xs out (run_for step last turns ended t (drop n rest))
        (go (us ++ m.taken.unit ∷ []) (xs ++ out) (drop n rest) t worked_on m.sums (omega (arith, length-drop n rest, within.0, within.1, m.size)))

    sums_from : (turns : ℕ) (ended : Bool) (bytes : List ℕ) (us : List (UnitOf O C)) (xs rest : List ℕ) (s : S)
        → Worked w bytes us rest xs → Sums us s → length rest < turns → Summed ended bytes xs (run_for step last turns ended s rest)
    unfolding run_for
    sums_from zero ended bytes us xs rest s worked sums few = absurd (omega arith)
    sums_from (suc turns) ended bytes us xs [] s worked sums few = at_the_end ended bytes us xs s worked sums
    sums_from (suc turns) ended bytes us xs (x ∷ rest) s worked sums few =
        on_step turns ended bytes us xs (x ∷ rest) s worked (omega arith) few (sums_from turns ended bytes) (step s ended (x ∷ rest)) (follows.moves us s ended (x ∷ rest) sums (omega arith))

    sums_all : (ended : Bool) (bytes : List ℕ) (s : S) → Sums [] s → Summed ended bytes [] (outcome step last ended s bytes)
    unfolding outcome Gives
    sums_all ended bytes s sums = sums_from (suc (length bytes)) ended bytes [] [] bytes s (record { taken = taken_none w.format is.format_is w.start w.wanted bytes; gives = refl }) sums (omega arith)

    -- ---- the answer to an input

    abbrev pub told_all : S → List ℕ → Outcome S
    told_all s all = pumped.answer_to step last 0 s all

    within_is : (s : S) (all : List ℕ) → length all ≤ limit → told_all s all ≡ outcome step last true s all
    within_is s all le = ap (λ (b : Bool). cond b (outcome step last true s all) (outcome step last false s (take limit all))) (le-leb (length all) limit le)

    past_is : (s : S) (all : List ℕ) → limit < length all → told_all s all ≡ outcome step last false s (take limit all)
    past_is s all lt = ap (λ (b : Bool). cond b (outcome step last true s all) (outcome step last false s (take limit all))) (lt-leb (length all) limit lt)

    pub answer_is : (s : S) (all : List ℕ) → Sums [] s → Answer w all (told_all s all).end (told_all s all).output
    answer_is s all sums = record {
      within = λ le. subst (λ (o : Outcome S). Answers w true all o.end o.output) (sym (within_is s all le)) (sums_all true all s sums).answers;
      past = λ lt. subst (λ (o : Outcome S). Answers w false (take limit all) o.end o.output) (sym (past_is s all lt)) (sums_all false (take limit all) s sums).answers;
    }

    ended_ok : (bytes output : List ℕ) (end : Result Unit Stop) → Answers w false bytes end output → end ≡ Ok tt → ⊥
    ended_ok bytes output end (finished us xs ys all units gives out e) h = cc
    ended_ok bytes output end (unfinished us r all units gives out) h = cc
    ended_ok bytes output end (breaks us rest fault worked n fails d) h = cc
    ended_ok bytes output end (lacks have d c) h = cc
    ended_ok bytes output end (refuses us rest more u r worked taken out) h = cc
    ended_ok bytes output end (waits us rest on worked opens) h = cc

    behind_all : (s : S) (all : List ℕ) → Sums [] s → (told_all s all).end ≡ Ok tt → (us : List (UnitOf O C)) × AreUnits w all us × Sums us (told_all s all).session
    behind_all s all sums e = elim (cases_lt limit (length all)) [
      | inl lt ↦ absurd (ended_ok (take limit all) (outcome step last false s (take limit all)).output (outcome step last false s (take limit all)).end (sums_all false (take limit all) s sums).answers
          (sym (ap (λ (o : Outcome S). o.end) (past_is s all lt)) ∙ e))
      | inr le ↦ (let same = within_is s all le in
          let q = (sums_all true all s sums).behind (sym (ap (λ (o : Outcome S). o.end) same) ∙ e) in
          (q.0, q.1, subst (λ (o : Outcome S). Sums q.0 o.session) (sym same) q.2))
    ]

    -- ---- over an input and an output

    answered : (s : S) (input : Option (List ℕ)) (end : Result Unit Stop) (put : List ℕ) → Sums [] s → pumped.IsAnswer step last 0 s input end put → IfSome input (λ all. Answer w all end put)
    answered s None end put sums a = tt
    answered s (Some all) end put sums a = subst (λ (e : Result Unit Stop). Answer w all e put) a.0 (subst (Answer w all (told_all s all).end) a.1 (answer_is s all sums))

    begun : (s : S) (input : Option (List ℕ)) (put : List ℕ) → Sums [] s → IfSome input (λ all. IsPrefix put (told_all s all).output) → IfSome input (λ all. Begun w all put)
    begun s None put sums p = tt
    begun s (Some all) put sums p = ((told_all s all).end, (told_all s all).output, answer_is s all sums, p)

    soon_is : (s : S) (bytes : List ℕ) → Sums [] s → Soon w bytes (soon step last s bytes)
    soon_is s bytes sums = record { end = (outcome step last false s bytes).end; is = (sums_all false bytes s sums).answers }

    wrote : (s t : S) (input : Side) (taken put : List ℕ) (end : Result Unit Stop) → Sums [] s → pumped.Says step last 0 s input taken put t end → Wrote w input taken put end
    wrote s t input taken put (Ok x) sums q = (q.0, answered s input.before (Ok tt) put sums q.1)
    wrote s t input taken put (Err (Refused r)) sums q = answered s input.before (Err (Refused r)) put sums q
    wrote s t input taken put (Err ReadFault) sums q = record {
      sure = (soon step last s taken, soon_is s taken sums, q.sure);
      prompt = λ early late e l. (soon step last s early, soon_is s early sums, q.prompt early late e l);
    }
    wrote s t input taken put (Err WriteFault) sums q = begun s input.before put sums q
    wrote s t input taken put (Err TooLong) sums q = answered s input.before (Err TooLong) put sums q

    -- what a run of the session says, in the command's terms
    pub works : (s t : S) (input output : Side) (end : Result Unit Stop) → Sums [] s → pumped.Pumped step last 0 s t input output end → Works w input output end
    works s t input output end sums p = record { taken = p.taken; put = p.put; few = omega (arith, p.few); reads = p.reads; writes = p.writes; wrote = wrote s t input p.taken p.put end sums p.says }

    behind_by : (s t : S) (input : Option (List ℕ)) (put : List ℕ) → Sums [] s → pumped.IsAnswer step last 0 s input (Ok tt) put → pumped.IsBehind step last 0 s input t
        → IfSome input (λ all. (us : List (UnitOf O C)) × AreUnits w all us × Sums us t)
    behind_by s t None put sums a b = tt
    behind_by s t (Some all) put sums a b = let q = behind_all s all sums a.0 in (q.0, q.1, subst (Sums q.0) b q.2)

    -- at the end the session took all units
    pub took_all : (s t : S) (input output : Side) → Sums [] s → pumped.Pumped step last 0 s t input output (Ok tt) → IfSome input.before (λ all. (us : List (UnitOf O C)) × AreUnits w all us × Sums us t)
    took_all s t input output sums p = behind_by s t input.before p.put sums p.says.1 p.says.2
