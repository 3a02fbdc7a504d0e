-- What a run says.
use Rattle.std.proofs.Common.{ℕ, List, length, take, Bool, Result, Ok, Err, Option, OnOk, IfErr, sym, subst, arith}
use Rattle.std.proofs.lemmas.List.{take_all}
use Rattle.std.specs.Io.KnownBytes.{Appends}
use Rattle.mlp_io.specs.Causes.{HasCause}
use Rattle.mlp_io.specs.declared.sink.PutFailed.{PutFailed}
use Rattle.mlp_stream.specs.declared.refusal.Refusal.{Refusal}
use Rattle.mlp_stream.specs.declared.stop.Stop.{Stop}
use Rattle.mlp_stream.specs.Sides.{Side}
use Rattle.mlp_stream.specs.Moves.{Move}
use Rattle.mlp_stream.specs.Pumped.{Pumped}
use Rattle.mlp_tool.specs.Run.{Told, TakesFew}

pub told : (line : List ℕ) (before now : ℕ) (a b : Option (List ℕ)) (r : Result Unit PutFailed) → OnOk r (Appends a b line)
    → IfErr r (λ e. Appends a b (take e.written line)) → HasCause before now r → Told line before now (record { before = a; behind = b })
told line before now a b (Ok x) ok err cause = record { front = (length line, subst (Appends a b) (sym (take_all (length line) line (omega arith))) ok); whole = λ _. ok }
told line before now a b (Err e) ok err cause = record { front = (e.written, err); whole = λ stayed. absurd (stayed cause.failed) }

-- a session takes no more bytes than one past the limit
pub pumped_few : {S : Type 0} (step : S → Bool → List ℕ → Move S) (last : S → Result (List ℕ) Refusal) (s t : S) (input output : Side) (end : Result Unit Stop) → Pumped step last 0 s t input output end → TakesFew input
pumped_few step last s t input output end p = (p.taken, p.reads, omega (arith, p.few))
