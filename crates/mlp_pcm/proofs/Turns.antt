-- Chunks that were taken, and then more.
use Rattle.std.proofs.Common.{◌≡◌, ℕ, suc, ◌+◌, ◌<◌, List, [], ◌∷◌, ◌++◌, length, Option, None, Ok, Err, IfErr, Result, inl, inr, arith, sym, ◌∙◌, ap, subst}
use Rattle.std.specs.Prelude.{IfOk}
use Rattle.std.proofs.lemmas.List.{append_assoc, length-append}
use Rattle.std.specs.Io.KnownBytes.{Consumes}
use Rattle.mlp_io.proofs.Bytes.{Consumes-append}
use Rattle.mlp_syntax.specs.declared.refusal.WaveField.{WaveField}
use Rattle.mlp_pcm.specs.declared.wave_format.Format.{Format}
use Rattle.mlp_pcm.specs.declared.wave_bytes.WaveRefusal.{WaveRefusal}
use Rattle.mlp_pcm.specs.declared.wave_bytes.WaveRefusal.TheVariants.{Read, Header, TooLong}
use Rattle.mlp_pcm.specs.declared.wave_chunks.Turn.{Turn}
use Rattle.mlp_pcm.specs.declared.wave_chunks.Turn.TheVariants.{Data, Passed}
use Rattle.mlp_pcm.specs.WaveBytes.{Stops}
use Rattle.mlp_pcm.specs.WaveScan.{Answer, refused, unfinished, chunks, IsTurn, Ends}

turn_after : (a b c : Option (List ℕ)) (xs : List ℕ) (taken at : ℕ) (whole left : ℕ → List ℕ → Answer) (turn : Turn) → Consumes a b xs → at ≡ taken + length xs
    → ((n : ℕ) (rest : List ℕ) → whole n (xs ++ rest) ≡ left n rest) → IsTurn b c at left turn → IsTurn a c taken whole turn
turn_after a b c xs taken at whole left (Data format size next) h l step (ys, k, m, w, e) =
    (xs ++ ys, Consumes-append a b c xs ys h k, omega (arith, length-append xs ys), w, λ n rest. ap (whole n) (append_assoc xs ys rest) ∙ step n (ys ++ rest) ∙ e n rest)
turn_after a b c xs taken at whole left (Passed format next) h l step (ys, k, m, w, e) =
    (xs ++ ys, Consumes-append a b c xs ys h k, omega (arith, length-append xs ys), w, λ n rest. ap (whole n) (append_assoc xs ys rest) ∙ step n (ys ++ rest) ∙ e n rest)

pub turns : (a b c : Option (List ℕ)) (xs : List ℕ) (taken at : ℕ) (whole left : ℕ → List ℕ → Answer) (r : Result Turn WaveRefusal) → Consumes a b xs → at ≡ taken + length xs
    → ((n : ℕ) (rest : List ℕ) → whole n (xs ++ rest) ≡ left n rest) → IfOk r (IsTurn b c at left) → IfOk r (IsTurn a c taken whole)
turns a b c xs taken at whole left (Ok turn) h l step t = turn_after a b c xs taken at whole left turn h l step t
turns a b c xs taken at whole left (Err e) h l step t = tt

pub ends_after : (a b c : Option (List ℕ)) (xs : List ℕ) (taken at : ℕ) (Whole Left : List ℕ → Answer → Type 0) (e : WaveRefusal) → Consumes a b xs → at ≡ taken + length xs
    → ((ys : List ℕ) (says : Answer) → Left ys says → Whole (xs ++ ys) says) → Ends b c at Left e → Ends a c taken Whole e
ends_after a b c xs taken at Whole Left Read h l step (ys, k, w, field, m) =
    (xs ++ ys, Consumes-append a b c xs ys h k, omega (arith, length-append xs ys), field, step ys (unfinished field) m)
ends_after a b c xs taken at Whole Left (Header field) h l step (ys, k, w, inl m) = (xs ++ ys, Consumes-append a b c xs ys h k, omega (arith, length-append xs ys), inl (step ys (refused field) m))
ends_after a b c xs taken at Whole Left (Header field) h l step (ys, k, w, inr (m, q)) = (xs ++ ys, Consumes-append a b c xs ys h k, omega (arith, length-append xs ys), inr (step ys (unfinished field) m, q))
ends_after a b c xs taken at Whole Left TooLong h l step (ys, y, k, w, field, m) =
    (xs ++ ys, y, subst (Consumes a c) (sym (append_assoc xs ys (y ∷ []))) (Consumes-append a b c xs (ys ++ y ∷ []) h k), omega (arith, length-append xs ys), field, step ys (unfinished field) m)

pub ends_result : {T : Type 0} (a b c : Option (List ℕ)) (xs : List ℕ) (taken at : ℕ) (Whole Left : List ℕ → Answer → Type 0) (r : Result T WaveRefusal) → Consumes a b xs → at ≡ taken + length xs
    → ((ys : List ℕ) (says : Answer) → Left ys says → Whole (xs ++ ys) says) → IfErr r (Ends b c at Left) → IfErr r (Ends a c taken Whole)
ends_result a b c xs taken at Whole Left (Ok turn) h l step s = tt
ends_result a b c xs taken at Whole Left (Err e) h l step s = ends_after a b c xs taken at Whole Left e h l step s

-- bytes that are too few
pub stops_ends : (a b : Option (List ℕ)) (taken count : ℕ) (short : WaveField) (Whole : List ℕ → Answer → Type 0) (e : WaveRefusal) → ((xs : List ℕ) → length xs < count → Whole xs (unfinished short))
    → Stops a b taken count short e → Ends a b taken Whole e
stops_ends a b taken count short Whole Read step (xs, k, small, within) = (xs, k, within, short, step xs small)
stops_ends a b taken count short Whole (Header field) step (f, (xs, k, q, small, within)) = (xs, k, within, inr (subst (λ g. Whole xs (unfinished g)) (sym f) (step xs small), q))
stops_ends a b taken count short Whole TooLong step (xs, x, k, small, all) = (xs, x, k, all, short, step xs small)

-- a run of chunks, and one more
module _ (k : ℕ) (seen : Option Format) (xs ys : List ℕ) (run : (n : ℕ) (rest : List ℕ) → chunks (k + n) None (xs ++ rest) ≡ chunks n seen rest) where
  one_more : (n : ℕ) → k + 1 + n ≡ k + suc n
  one_more n = omega arith

  pub run_passed : (next : Option Format) → ((n : ℕ) (rest : List ℕ) → chunks (suc n) seen (ys ++ rest) ≡ chunks n next rest) → (n : ℕ) (rest : List ℕ) → chunks (k + 1 + n) None ((xs ++ ys) ++ rest) ≡ chunks n next rest
  run_passed next e n rest = ap (λ m. chunks m None ((xs ++ ys) ++ rest)) (one_more n) ∙ ap (chunks (k + suc n) None) (append_assoc xs ys rest) ∙ run (suc n) (ys ++ rest) ∙ e n rest

  pub run_says : (says : Answer) → chunks (suc 0) seen ys ≡ says → chunks (k + suc 0) None (xs ++ ys) ≡ says
  run_says says e = run (suc 0) ys ∙ e
