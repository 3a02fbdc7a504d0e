-- What a run of the session does to an input and an output, behind bytes that were taken before.
use Rattle.std.proofs.Common.{◌≡◌, ℕ, ◌+◌, ◌-◌, ◌<◌, ◌≤◌, ◌++◌, cond, Bool, true, false, List, [], length, take, Option, None, Some, Result, Ok, Err, IfSome, refl, sym, ap, subst, ◌∙◌, arith, length-append}
use Rattle.std.proofs.lemmas.Bool.{lt-leb, le-leb}
use Rattle.std.proofs.Math.Seq.{take-append-add}
use Rattle.std.specs.Io.KnownBytes.{Consumes}
use Rattle.std.proofs.KnownBytes.{Consumes-nil, Consumes-trans, Appends-nil}
use Rattle.mlp_io.specs.Limit.{limit}
use Rattle.mlp_stream.specs.declared.stop.Stop.{Stop}
use Rattle.mlp_stream.specs.declared.stop.Stop.TheVariants.{Refused, ReadFault, WriteFault, TooLong}
use Rattle.mlp_stream.specs.Sides.{Side}
use Rattle.mlp_stream.specs.Sizes.{window_room}
use Rattle.mlp_stream.specs.Streams.{Outcome, IsPrefix, soon}
use Rattle.mlp_stream.specs.Pumped as pumped
use Rattle.mlp_answers.specs.declared.failure.Failure.{Failure}
use Rattle.mlp_answers.specs.declared.failure.Failure.TheVariants.{OutOfMemory}
use Rattle.mlp_encoding.specs.Encoding.{Encoding, encode_step, encode_last}
use Rattle.mlp_answers.specs.Failures.{end_of}
use Rattle.mlp_encoding.specs.Encodes.{Answer, Soon, IsTimely, Begun, Wrote, Does}
use Rattle.mlp_encoding.proofs.Sending.{runs}

abbrev pub between : Option (List ℕ) → Option (List ℕ) → Side
between before behind = record { before = before; behind = behind }

-- bytes up to some late ones go on behind the front, or end in it
pub data Splits (Made : Bool → List ℕ → Result Unit Stop → List ℕ → Type 0) (front taken early late : List ℕ) : Type 0 where
  behind_it : (rest : List ℕ) → taken ≡ rest ++ late → early ≡ front ++ rest → Splits Made front taken early late
  in_it : (end : Result Unit Stop) → Made false early end [] → Splits Made front taken early late

-- of a session whose runs are what is made of bytes with a front before them
module _ (Made : Bool → List ℕ → Result Unit Stop → List ℕ → Type 0) (front : List ℕ) (fits : length front ≤ limit) (s : Encoding)
    (gives : (ended : Bool) (bytes : List ℕ) → Made ended (front ++ bytes) (runs ended s bytes).end (runs ended s bytes).output)
    (splits : (taken early late : List ℕ) → front ++ taken ≡ early ++ late → Splits Made front taken early late) where
  abbrev answer_to : List ℕ → Outcome Encoding
  answer_to rest = pumped.answer_to encode_step encode_last (length front) s rest

  within_is : (rest : List ℕ) → length (front ++ rest) ≤ limit → answer_to rest ≡ runs true s rest
  within_is rest le =
      ap (λ (b : Bool). cond b (runs true s rest) (runs false s (take (limit - length front) rest)))
      (le-leb (length rest) (limit - length front) (omega (arith, le, fits, length-append front rest)))

  past_is : (rest : List ℕ) → limit < length (front ++ rest) → answer_to rest ≡ runs false s (take (limit - length front) rest)
  past_is rest lt =
      ap (λ (b : Bool). cond b (runs true s rest) (runs false s (take (limit - length front) rest)))
      (lt-leb (length rest) (limit - length front) (omega (arith, lt, fits, length-append front rest)))

  cut_is : (rest : List ℕ) → take limit (front ++ rest) ≡ front ++ take (limit - length front) rest
  cut_is rest =
      let sum : limit ≡ length front + (limit - length front) = omega (arith, fits) in
      ap (λ (n : ℕ). take n (front ++ rest)) sum ∙ take-append-add front rest (limit - length front)

  answer_is : (rest : List ℕ) → Answer Made (front ++ rest) (answer_to rest).end (answer_to rest).output
  answer_is rest = record {
    within = λ le. subst (λ (o : Outcome Encoding). Made true (front ++ rest) o.end o.output) (sym (within_is rest le)) (gives true rest);
    past = λ lt. subst (λ (o : Outcome Encoding). Made false (take limit (front ++ rest)) o.end o.output) (sym (past_is rest lt))
        (subst (λ (xs : List ℕ). Made false xs (runs false s (take (limit - length front) rest)).end (runs false s (take (limit - length front) rest)).output) (sym (cut_is rest)) (gives false (take (limit - length front) rest)));
  }

  -- what holds of what was left holds of all
  told : (before middle : Option (List ℕ)) (Q R : List ℕ → Type 0) → Consumes before middle front → IfSome middle Q → ((rest : List ℕ) → Q rest → R (front ++ rest)) → IfSome before R
  told None middle Q R c q f = tt
  told (Some all) None Q R c q f = absurd c
  told (Some all) (Some rest) Q R c q f = subst R (sym c) (f rest q)

  answered : (before middle : Option (List ℕ)) (end : Result Unit Stop) (put : List ℕ) → Consumes before middle front → pumped.IsAnswer encode_step encode_last (length front) s middle end put → IfSome before (λ all. Answer Made all end put)
  answered before middle end put c a =
      told before middle (λ rest. ((answer_to rest).end ≡ end) × ((answer_to rest).output ≡ put)) (λ all. Answer Made all end put) c a
      (λ rest q. subst (λ (e : Result Unit Stop). Answer Made (front ++ rest) e put) q.0 (subst (Answer Made (front ++ rest) (answer_to rest).end) q.1 (answer_is rest)))

  begun : (before middle : Option (List ℕ)) (put : List ℕ) → Consumes before middle front → IfSome middle (λ rest. IsPrefix put (answer_to rest).output) → IfSome before (λ all. Begun Made all put)
  begun before middle put c a =
      told before middle (λ rest. IsPrefix put (answer_to rest).output) (λ all. Begun Made all put) c a (λ rest q. ((answer_to rest).end, (answer_to rest).output, answer_is rest, q))

  soon_is : (rest : List ℕ) → Soon Made (front ++ rest) (soon encode_step encode_last s rest)
  soon_is rest = record { end = (runs false s rest).end; is = gives false rest }

  prompt_by : (taken put early late : List ℕ) → pumped.IsTimely encode_step encode_last (length front) s taken put → window_room ≤ length late → Splits Made front taken early late → (xs : List ℕ) × Soon Made early xs × IsPrefix xs put
  prompt_by taken put early late h far (behind_it rest split is) =
      (soon encode_step encode_last s rest, subst (λ (xs : List ℕ). Soon Made xs (soon encode_step encode_last s rest)) (sym is) (soon_is rest), h.prompt rest late split far)
  prompt_by taken put early late h far (in_it end made) = ([], record { end = end; is = made }, (put, refl))

  timely : (taken put : List ℕ) → pumped.IsTimely encode_step encode_last (length front) s taken put → IsTimely Made (front ++ taken) put
  timely taken put h = record {
    sure = (soon encode_step encode_last s taken, soon_is taken, h.sure);
    prompt = λ early late split far. prompt_by taken put early late h far (splits taken early late split);
  }

  wrote : (before middle behind : Option (List ℕ)) (taken put : List ℕ) (t : Encoding) (end : Result Unit Stop) → Consumes before middle front → pumped.Says encode_step encode_last (length front) s (between middle behind) taken put t end
      → Wrote Made (between before behind) (front ++ taken) put (end_of end)
  wrote before middle behind taken put t (Ok x) c q = (q.0, answered before middle (Ok tt) put c q.1)
  wrote before middle behind taken put t (Err (Refused r)) c q = answered before middle (Err (Refused r)) put c q
  wrote before middle behind taken put t (Err ReadFault) c q = timely taken put q
  wrote before middle behind taken put t (Err WriteFault) c q = begun before middle put c q
  wrote before middle behind taken put t (Err TooLong) c q = answered before middle (Err TooLong) put c q

  pub does : (before middle behind written later : Option (List ℕ)) (t : Encoding) (end : Result Unit Stop) → Consumes before middle front
      → pumped.Pumped encode_step encode_last (length front) s t (between middle behind) (between written later) end → Does Made (between before behind) (between written later) (end_of end)
  does before middle behind written later t end c q = record {
    taken = front ++ q.taken;
    put = q.put;
    few = omega (arith, q.few, length-append front q.taken);
    reads = Consumes-trans before middle behind front q.taken c q.reads;
    writes = q.writes;
    wrote = wrote before middle behind q.taken q.put t end c q.says;
  }

-- ---- a run that stops before the session begins

module _ (Made : Bool → List ℕ → Result Unit Stop → List ℕ → Type 0) where
  -- there is no memory
  pub does_nothing : (input output : Option (List ℕ)) → Does Made (between input input) (between output output) (Err OutOfMemory)
  does_nothing input output = record { taken = []; put = []; few = omega arith; reads = Consumes-nil input; writes = Appends-nil output; wrote = (refl, refl) }

  -- bytes that were taken tell the answer, whatever comes behind them, or once they are all
  pub stops_at : (before behind output : Option (List ℕ)) (front : List ℕ) (end : Stop) (failure : Failure) → Consumes before behind front → length front ≤ limit + 1
      → Wrote Made (between before behind) front [] (Err failure) → Does Made (between before behind) (between output output) (Err failure)
  stops_at before behind output front end failure c few h = record { taken = front; put = []; few = few; reads = c; writes = Appends-nil output; wrote = h }

-- no more bytes were taken than one past the limit
pub takes_few : (Made : Bool → List ℕ → Result Unit Stop → List ℕ → Type 0) (before behind written later : Option (List ℕ)) (end : Result Unit Failure) → Does Made (between before behind) (between written later) end
    → (taken : List ℕ) × Consumes before behind taken × (length taken ≤ limit + 1)
takes_few Made before behind written later end d = (d.taken, d.reads, d.few)
