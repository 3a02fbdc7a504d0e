-- What comes out of bytes that are units.
use Rattle.std.proofs.Common.{◌≡◌, ℕ, ◌+◌, ◌<◌, ◌≤◌, cond, not, ◌&&◌, ◌==◌, Bool, true, false, List, [], ◌∷◌, ◌++◌, length, take, drop, Result, Ok, Err, None, refl, sym, ap, subst, ◌∙◌, arith}
use Rattle.std.proofs.lemmas.Bool.{le-leb, lt-leb}
use Rattle.std.proofs.lemmas.List.{append-nil, take-append-drop, length-take, length-drop}
use Rattle.std.specs.Prelude.{is_none}
use Rattle.mlp_io.specs.Limit.{limit}
use Rattle.mlp_bits.specs.Bits.{bits_of}
use Rattle.mlp_bits.proofs.Words.{bits_of-drop}
use Rattle.mlp_layout.specs.Streams.{Format, UnitOf, IsFormat, rest_of, left_after, Begins}
use Rattle.mlp_layout.proofs.StreamLaws.{begins_none, begins_more}
use Rattle.mlp_stream.specs.declared.refusal.Refusal.{Refusal}
use Rattle.mlp_stream.specs.declared.refusal.Refusal.TheVariants.{NoRestart, NotThere}
use Rattle.mlp_stream.specs.declared.stop.Stop.{Stop}
use Rattle.mlp_unit.specs.Outline.{outline, Outline}
use Rattle.mlp_walk.specs.Next.{TakesBytes}
use Rattle.mlp_answers.specs.Answers.{Answer, Answers, finished, unfinished, refuses, refusing, HasTaken}
use Rattle.mlp_unit.proofs.OutlineLaws.{outline_is}
use Rattle.mlp_outline.proofs.Outlines.{outline_bytes}
use Rattle.mlp_cut.specs.Cut.{cut, lacks_sync}
use Rattle.mlp_cut.specs.Cutting.{OuterUnit, cut_end, cutting}
use Rattle.mlp_cut.specs.Laws.{IsCut}
use Rattle.mlp_cut.proofs.Pieces.{gives_cut, gives_none, out_refuses}

module _ {L O C : Type 0} (f : Format L O C) (is : IsFormat f) (b : TakesBytes f) where
  -- units that begin bytes, and the bytes behind them
  pub begins_split : (left : L) (bytes : List ℕ) (us vs : List (UnitOf O C)) (rest : List Bool) → Begins f left (bits_of bytes) (us ++ vs) rest
      → (middle : List ℕ) × Begins f left (bits_of bytes) us (bits_of middle) × Begins f (left_after f left us) (bits_of middle) vs rest
  unfolding Begins
  begins_split left bytes [] vs rest h = (bytes, begins_none f is left (bits_of bytes), h)
  begins_split left bytes (u ∷ us) vs rest h =
      let whole = b.whole left u.outer h.0.outer.fits in
      let behind : rest_of f left (bits_of bytes) u ≡ bits_of (drop whole.0 bytes) = ap (λ (n : ℕ). drop n (bits_of bytes)) whole.1 ∙ bits_of-drop bytes whole.0 in
      let later = begins_split (f.after left u) (drop whole.0 bytes) us vs rest (subst (λ (t : List Bool). Begins f (f.after left u) t (us ++ vs) rest) behind h.1) in
      (later.0, (h.0, subst (λ (t : List Bool). Begins f (f.after left u) t us (bits_of later.0)) (sym behind) later.1), later.2)

module _ (f c : ℕ) (bytes : List ℕ) (us : List OuterUnit) (within : length bytes ≤ limit) (units : Outline bytes us) where
  answer : (end : Result Unit Stop) (output : List ℕ) → Answers (cutting f c) true bytes end output → Answer (cutting f c) bytes end output
  answer end output a = record { within = λ le. a; past = λ lt. absurd (omega arith) }

  abbrev end_of : Bool → Result (List ℕ) Refusal
  end_of there = cond there (Ok []) (Err (NotThere (length us)))

  all_out : lacks_sync c (drop f us) ≡ false → f + c ≤ length us → Answer (cutting f c) bytes (Ok tt) (cut f c us)
  all_out free enough =
      let ends : Ok [] ≡ cut_end f c (length us) = sym (ap end_of (le-leb (f + c) (length us) enough)) in
      answer (Ok tt) (cut f c us) (finished us (cut f c us) [] refl units (gives_cut f c us free) ends (sym (append-nil (cut f c us))))

  some_out : lacks_sync c (drop f us) ≡ false → length us < f + c → Answer (cutting f c) bytes (refusing (NotThere (length us))) (cut f c us)
  some_out free few =
      let ends : Err (NotThere (length us)) ≡ cut_end f c (length us) = sym (ap end_of (lt-leb (f + c) (length us) few)) in
      answer (refusing (NotThere (length us))) (cut f c us) (unfinished us (NotThere (length us)) refl units (gives_cut f c us free) ends)

  none_out : (front more : List OuterUnit) (u : OuterUnit) → us ≡ front ++ u ∷ more → length front ≡ f → (not (c == 0) && is_none u.outer.major) ≡ true
      → Answer (cutting f c) bytes (refusing (NoRestart f)) []
  none_out front more u e at lacks =
      let begins = subst (λ (vs : List OuterUnit). Begins outline None (bits_of bytes) vs []) e units.begins in
      let split = begins_split outline outline_is outline_bytes None bytes front (u ∷ more) [] begins in
      let next = begins_split outline outline_is outline_bytes (left_after outline None front) split.0 (u ∷ []) more [] split.2 in
      let taken : HasTaken (cutting f c) bytes front split.0 = record { begins = split.1; there = λ some. tt } in
      let on : HasTaken (cutting f c) bytes (front ++ u ∷ []) next.0 =
      record { begins = begins_more outline outline_is None (bits_of bytes) front (bits_of split.0) (u ∷ []) (bits_of next.0) split.1 next.1; there = λ some. tt } in
      answer (refusing (NoRestart f)) [] (refuses front split.0 next.0 u (NoRestart f) (record { taken = taken; gives = gives_none f c front (omega arith) }) on (out_refuses f c front u at lacks))

  by_drop : (vs : List OuterUnit) → drop f us ≡ vs → lacks_sync c vs ≡ true → Answer (cutting f c) bytes (refusing (NoRestart f)) []
  by_drop [] e lacks = let no : false ≡ true = lacks in absurd cc
  by_drop (u ∷ vs) e lacks =
      let whole : us ≡ take f us ++ u ∷ vs = sym (take-append-drop f us) ∙ ap (λ (xs : List OuterUnit). take f us ++ xs) e in
      none_out (take f us) vs u whole (omega (arith, length-take f us, ap length e, length-drop f us)) lacks

  pub is_cut : IsCut f c bytes us
  is_cut = record { all = all_out; some = some_out; none = λ lacks. by_drop (drop f us) refl lacks }
