-- Units that stand at the front of bits, whatever follows.
use Rattle.std.proofs.Common.{◌≤◌, List, Bool, [], ◌∷◌, ◌++◌, length, ap, sym, subst, ◌∙◌, arith, length-append, length-drop}
use Rattle.std.proofs.lemmas.List.{nil_from_length, take-append-le, drop-append-le}
use Rattle.mlp_layout.specs.Streams.{Format, UnitOf, IsFormat, spelling_of, rest_of, IsNext, Begins}

module _ {L O C : Type 0} (f : Format L O C) (is : IsFormat f) where
  -- a unit that has its text among the first bits
  next_front : (left : L) (all more : List Bool) (u : UnitOf O C) → IsNext f left (all ++ more) u → length (spelling_of f left u) ≤ length all → IsNext f left all u
  next_front left all more u next le = record {
    outer = record {
      fits = next.outer.fits;
      meets = next.outer.meets;
      stands = record {
        within = omega (arith, le);
        text_is = let same = take-append-le (length (spelling_of f left u)) all more le in sym same ∙ next.outer.stands.text_is;
      };
    };
    contents = next.contents;
  }

  pub rest_within : (left : L) (all : List Bool) (us : List (UnitOf O C)) (rest : List Bool) → Begins f left all us rest → length rest ≤ length all
  unfolding Begins
  rest_within left all [] rest b = omega (arith, ap length b)
  rest_within left all (u ∷ us) rest b =
      let later = rest_within (f.after left u) (rest_of f left all u) us rest b.1 in
      omega (arith, later, length-drop (length (spelling_of f left u)) all)

  -- units that end where the first bits end
  pub begins_front : (left : L) (all more : List Bool) (us : List (UnitOf O C)) → Begins f left (all ++ more) us more → Begins f left all us []
  unfolding Begins
  begins_front left all more [] b = nil_from_length all (omega (arith, ap length b, length-append all more))
  begins_front left all more (u ∷ us) b =
      let n = length (spelling_of f left u) in
      let later = rest_within (f.after left u) (rest_of f left (all ++ more) u) us more b.1 in
      let le : n ≤ length all = omega (arith, later, length-drop n (all ++ more), length-append all more, b.0.outer.stands.within, is.takes_bits left u.outer b.0.outer.fits) in
      let rest = drop-append-le n all more le in
      (next_front left all more u b.0 le, begins_front (f.after left u) (rest_of f left all u) more us (subst (λ (t : List Bool). Begins f (f.after left u) t us more) rest b.1))
