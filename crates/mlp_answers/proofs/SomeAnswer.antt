-- There is an answer: that of a session that holds the units themselves.
use Rattle.std.proofs.Common.{◌≡◌, ℕ, ◌++◌, List, [], ◌∷◌, length, Result, Ok, Err, None, refl, sym, ap, subst, arith}
use Rattle.mlp_layout.specs.Streams.{UnitOf}
use Rattle.mlp_walk.specs.declared.refusal.Refusal.{Refusal as Declined}
use Rattle.mlp_walk.specs.Next.{Taken}
use Rattle.mlp_walk.proofs.NextLaws.{unit_within}
use Rattle.mlp_stream.specs.declared.refusal.Refusal.{Refusal}
use Rattle.mlp_answers.specs.Working.{Working, left_of, IsWorking}
use Rattle.mlp_answers.specs.Answers.{HasOneAnswer}
use Rattle.mlp_answers.specs.Reading.{refusal_of, Reader, read_step}
use Rattle.mlp_answers.specs.Follows.{next_behind, IsLast, Follows, IsGiven, ReadsOn}
use Rattle.mlp_answers.proofs.OneAnswer.{one_answer}
use Rattle.mlp_answers.proofs.RunLaws.{answer_is}
use Rattle.mlp_answers.proofs.ReadingLaws.{read_follows}

module _ {L O C : Type 0} (w : Working L O C) (is : IsWorking w) where
  abbrev Units : Type 0
  Units = List (UnitOf O C)

  abbrev Sums : Units → Units → Type 0
  Sums us s = s ≡ us

  abbrev with_unit : Units → UnitOf O C → Result (List ℕ) Refusal → Result (List ℕ × Units) Refusal
  with_unit us u (Ok out) = Ok (out, us ++ u ∷ [])
  with_unit us u (Err r) = Err r

  abbrev reader : Reader Units L O C
  reader = record { left = left_of w; count = length; refusal = λ s. None; gives = λ us t. with_unit us t.unit (w.out us t.unit) }

  given : (us : Units) (t : Taken O C) (x : Result (List ℕ) Refusal) → w.out us t.unit ≡ x → IsGiven w Sums us t (with_unit us t.unit x)
  given us t (Ok out) e = (e, refl)
  given us t (Err r) e = e

  reads_on : ReadsOn w Sums reader
  reads_on = record {
    left = λ us s e. ap (left_of w) e;
    count = λ us s e. ap length e;
    refusal = λ us s e. refl;
    given = λ us s bytes t e next. subst (λ (vs : Units). IsGiven w Sums us t (with_unit vs t.unit (w.out vs t.unit))) (sym e) (given us t (w.out us t.unit) refl);
  }

  -- no unit is there where no byte is
  none_next : (r : Result (Taken O C) Declined) → next_behind w Sums [] [] ≡ r → (e : Declined) × (next_behind w Sums [] [] ≡ Err e)
  none_next (Ok t) e = absurd (let h = unit_within w.format is.format_is is.takes_bytes w.wanted 0 w.start [] t e in omega (arith, h.0, h.1))
  none_next (Err d) e = (d, e)

  last : Units → Result (List ℕ) Refusal
  last [] = Err (refusal_of (none_next (next_behind w Sums [] []) refl).0)
  last (u ∷ us) = (is.some_end (u ∷ us)).0

  ends : (us s : Units) → Sums us s → IsLast w Sums us (last s)
  unfolding last
  ends [] s e = let n = none_next (next_behind w Sums [] []) refl in (n.0, n.1, ap last e)
  ends (u ∷ us) s e = subst (w.Ends (u ∷ us)) (sym (ap last e)) (is.some_end (u ∷ us)).1

  follows : Follows w Sums (read_step w.format w.wanted w.is_open reader) last
  follows = read_follows w Sums reader reads_on last ends

  -- each input has an answer, and no other
  pub has_one_answer : (all : List ℕ) → HasOneAnswer w all
  has_one_answer all = record {
    some = (_, _, answer_is w is Sums (read_step w.format w.wanted w.is_open reader) last follows [] all refl);
    one = one_answer w is all;
  }
