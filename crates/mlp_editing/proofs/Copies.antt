-- What copying a whole input gives.
use Rattle.std.proofs.Common.{◌≡◌, ℕ, zero, suc, ◌+◌, ◌<◌, ◌≤◌, cond, Bool, true, false, List, [], ◌∷◌, ◌++◌, length, take, drop, Result, Ok, Err, Option, Some, None, IfSome, inl, inr, refl, sym, ap, subst, ◌∙◌, arith, length-drop}
use Rattle.std.proofs.lemmas.Bool.{cases_lt, lt-leb, le-leb}
use Rattle.std.proofs.lemmas.List.{take-append-drop}
use Rattle.mlp_io.specs.Limit.{limit}
use Rattle.mlp_stream.specs.declared.refusal.Refusal.{Refusal}
use Rattle.mlp_stream.specs.declared.stop.Stop.{Stop}
use Rattle.mlp_stream.specs.declared.stop.Stop.TheVariants.{Refused, TooLong}
use Rattle.mlp_stream.specs.Moves.{Move}
use Rattle.mlp_stream.specs.Streams.{Outcome, on_move, run_for, outcome}
use Rattle.mlp_stream.specs.Pumped.{answer_to, IsAnswer}
use Rattle.mlp_editing.specs.Copying.{least, piece_of, copy_step, copy_last}
use Rattle.mlp_editing.specs.CopyLaws.{step_takes, step_waits}

-- all of the bytes come out, where they are all; else it waits for more
abbrev Copied : Bool → List ℕ → Outcome ℕ → Type 0
Copied true bytes o = (o.end ≡ Ok tt) × (o.output ≡ bytes)
Copied false bytes o = o.end ≡ Err TooLong

abbrev runs : ℕ → Bool → ℕ → List ℕ → Outcome ℕ
runs turns ended s bytes = run_for copy_step copy_last turns ended s bytes

piece_first : (ended : Bool) (turns s : ℕ) (bytes : List ℕ) → Copied ended (drop (piece_of bytes) bytes) (runs turns ended (s + 1) (drop (piece_of bytes) bytes)) → least ended ≤ length bytes
    → Copied ended bytes (on_move copy_step copy_last (λ t rest. runs turns ended t rest) s bytes (copy_step s ended bytes))
piece_first true turns s bytes later le =
    subst (λ (m : Move ℕ). Copied true bytes (on_move copy_step copy_last (λ t rest. runs turns true t rest) s bytes m)) (sym (step_takes s true bytes le))
    (later.0, ap (λ (xs : List ℕ). take (piece_of bytes) bytes ++ xs) later.1 ∙ take-append-drop (piece_of bytes) bytes)
piece_first false turns s bytes later le =
    subst (λ (m : Move ℕ). Copied false bytes (on_move copy_step copy_last (λ t rest. runs turns false t rest) s bytes m)) (sym (step_takes s false bytes le)) later

none_yet : (turns s : ℕ) (bytes : List ℕ) → length bytes < least false → Copied false bytes (on_move copy_step copy_last (λ t rest. runs turns false t rest) s bytes (copy_step s false bytes))
none_yet turns s bytes lt = subst (λ (m : Move ℕ). Copied false bytes (on_move copy_step copy_last (λ t rest. runs turns false t rest) s bytes m)) (sym (step_waits s false bytes lt)) refl

one_piece : (ended : Bool) (turns s : ℕ) (bytes : List ℕ) → Copied ended (drop (piece_of bytes) bytes) (runs turns ended (s + 1) (drop (piece_of bytes) bytes)) → 0 < length bytes
    → Copied ended bytes (on_move copy_step copy_last (λ t rest. runs turns ended t rest) s bytes (copy_step s ended bytes))
one_piece true turns s bytes later some = piece_first true turns s bytes later some
one_piece false turns s bytes later some = elim (cases_lt (length bytes) (least false)) [
  | inl lt ↦ none_yet turns s bytes lt
  | inr ge ↦ piece_first false turns s bytes later ge
]

copies : (turns : ℕ) (ended : Bool) (s : ℕ) (bytes : List ℕ) → length bytes < turns → Copied ended bytes (runs turns ended s bytes)
unfolding run_for
copies zero ended s bytes lt = absurd (omega arith)
copies (suc turns) true s [] lt = (refl, refl)
copies (suc turns) false s [] lt = refl
copies (suc turns) ended s (b ∷ bytes) lt =
    let xs = b ∷ bytes in
    one_piece ended turns s xs (copies turns ended (s + 1) (drop (piece_of xs) xs) (omega (arith, length-drop (piece_of xs) xs))) (omega arith)

all_copied : (ended : Bool) (bytes : List ℕ) → Copied ended bytes (outcome copy_step copy_last ended 0 bytes)
unfolding outcome
all_copied ended bytes = copies (suc (length bytes)) ended 0 bytes (omega arith)

-- ---- the answer to an input

abbrev told : List ℕ → Outcome ℕ
told all = answer_to copy_step copy_last 0 0 all

within_is : (all : List ℕ) → length all ≤ limit → told all ≡ outcome copy_step copy_last true 0 all
within_is all le = ap (λ (b : Bool). cond b (outcome copy_step copy_last true 0 all) (outcome copy_step copy_last false 0 (take limit all))) (le-leb (length all) limit le)

past_is : (all : List ℕ) → limit < length all → told all ≡ outcome copy_step copy_last false 0 (take limit all)
past_is all lt = ap (λ (b : Bool). cond b (outcome copy_step copy_last true 0 all) (outcome copy_step copy_last false 0 (take limit all))) (lt-leb (length all) limit lt)

record Within (all : List ℕ) : Type 0 where
  few : length all ≤ limit
  end : (told all).end ≡ Ok tt
  output : (told all).output ≡ all

record Past (all : List ℕ) : Type 0 where
  many : limit < length all
  end : (told all).end ≡ Err TooLong

copied_within : (all : List ℕ) → length all ≤ limit → Within all
copied_within all le =
    let c = all_copied true all in
    let same = within_is all le in
    record { few = le; end = ap (λ (o : Outcome ℕ). o.end) same ∙ c.0; output = ap (λ (o : Outcome ℕ). o.output) same ∙ c.1 }

copied_past : (all : List ℕ) → limit < length all → Past all
copied_past all lt = record { many = lt; end = ap (λ (o : Outcome ℕ). o.end) (past_is all lt) ∙ all_copied false (take limit all) }

ok_long : (e : Result Unit Stop) → e ≡ Ok tt → e ≡ Err TooLong → ⊥
ok_long e a b = cc

ok_refused : (e : Result Unit Stop) (r : Refusal) → e ≡ Ok tt → e ≡ Err (Refused r) → ⊥
ok_refused e r a b = cc

long_refused : (e : Result Unit Stop) (r : Refusal) → e ≡ Err TooLong → e ≡ Err (Refused r) → ⊥
long_refused e r a b = cc

-- it ends well: the input isn't too long, and this is it
pub copied_all : (input : Option (List ℕ)) (put : List ℕ) → IsAnswer copy_step copy_last 0 0 input (Ok tt) put → IfSome input (λ all. (length all ≤ limit) × (put ≡ all))
copied_all None put a = tt
copied_all (Some all) put a = elim (cases_lt limit (length all)) [
  | inl lt ↦ absurd (ok_long (told all).end a.0 (copied_past all lt).end)
  | inr le ↦ (le, sym a.1 ∙ (copied_within all le).output)
]

pub copied_long : (input : Option (List ℕ)) (put : List ℕ) → IsAnswer copy_step copy_last 0 0 input (Err TooLong) put → IfSome input (λ all. limit < length all)
copied_long None put a = tt
copied_long (Some all) put a = elim (cases_lt limit (length all)) [
  | inl lt ↦ lt
  | inr le ↦ absurd (ok_long (told all).end (copied_within all le).end a.0)
]

-- it refuses nothing
pub copied_refused : (input : Option (List ℕ)) (r : Refusal) (put : List ℕ) → IsAnswer copy_step copy_last 0 0 input (Err (Refused r)) put → IfSome input (λ all. ⊥)
copied_refused None r put a = tt
copied_refused (Some all) r put a = elim (cases_lt limit (length all)) [
  | inl lt ↦ long_refused (told all).end r (copied_past all lt).end a.0
  | inr le ↦ ok_refused (told all).end r (copied_within all le).end a.0
]
