-- The outer parts of a stream, of which a cut is made.
use Rattle.std.proofs.Common.{◌≡◌, ℕ, zero, suc, ◌+◌, ◌≤◌, not, ◌&&◌, ◌==◌, Bool, true, false, List, [], ◌∷◌, ◌++◌, length, take, drop, Ok, Option, Some, None, refl, sym, ap, subst, ◌∙◌, arith}
use Rattle.std.specs.Prelude.{is_some, is_none, IsTrue}
use Rattle.std.proofs.lemmas.List.Concat.{flat_map-cons}
use Rattle.mlp_io.specs.Limit.{limit}
use Rattle.mlp_syntax.specs.declared.major.MajorSync.{MajorSync}
use Rattle.mlp_bits.specs.Bits.{bits_of}
use Rattle.mlp_layout.specs.Layout.{tested}
use Rattle.mlp_layout.specs.Contents.{nothing}
use Rattle.mlp_layout.specs.Streams.{rest_of, Begins, Stream}
use Rattle.mlp_unit.specs.Outline.{outline, Outline}
use Rattle.mlp_contents.specs.Units.{Left, Unit_of, start, after, whole}
use Rattle.mlp_answers.specs.Answers.{Answer}
use Rattle.mlp_cut.specs.Cut.{unit_bytes, units_bytes, cut, first_sync, HasSync, lacks_sync}
use Rattle.mlp_cut.specs.Cutting.{OuterUnit, cutting}
use Rattle.mlp_cut.proofs.CutLaws.{is_cut}

abbrev outer_of : Unit_of → OuterUnit
outer_of u = record { outer = u.outer; contents = tt }

abbrev outers : List Unit_of → List OuterUnit
outers [] = []
outers (u ∷ us) = outer_of u ∷ outers us

outers_begin : (k : ℕ) (l : Left) (all : List Bool) (us : List Unit_of) (rest : List Bool) → Begins (whole k) l all us rest → Begins outline l.sync all (outers us) rest
unfolding Begins tested nothing after
outers_begin k l all [] rest b = b
outers_begin k l all (u ∷ us) rest b = (
  record {
    outer = record { fits = b.0.outer.fits; meets = b.0.outer.meets.1; stands = b.0.outer.stands };
    contents = record { fits = tt; meets = tt };
  },
  outers_begin k (after k l u) (rest_of (whole k) l all u) us rest b.1,
)

outline_of : (k : ℕ) (bytes : List ℕ) (us : List Unit_of) → Stream (whole k) (start k) k (bits_of bytes) us → Outline bytes (outers us)
outline_of k bytes us s = record { begins = outers_begin k (start k) (bits_of bytes) us [] s.units.begins; some = s.units.some }

-- ---- their bytes

bytes_same : (us : List Unit_of) → units_bytes (outers us) ≡ units_bytes us
bytes_same [] = refl
bytes_same (u ∷ us) =
    flat_map-cons (λ (v : OuterUnit). unit_bytes v.outer) (outer_of u) (outers us) ∙ ap (λ (bs : List ℕ). unit_bytes u.outer ++ bs) (bytes_same us)
    ∙ sym (flat_map-cons (λ (v : Unit_of). unit_bytes v.outer) u us)

outers_take : (n : ℕ) (us : List Unit_of) → take n (outers us) ≡ outers (take n us)
outers_take zero us = refl
outers_take (suc n) [] = refl
outers_take (suc n) (u ∷ us) = ap (λ (vs : List OuterUnit). outer_of u ∷ vs) (outers_take n us)

outers_drop : (n : ℕ) (us : List Unit_of) → drop n (outers us) ≡ outers (drop n us)
outers_drop zero us = refl
outers_drop (suc n) [] = refl
outers_drop (suc n) (u ∷ us) = outers_drop n us

cut_same : (f c : ℕ) (us : List Unit_of) → cut f c (outers us) ≡ cut f c us
cut_same f c us = ap (λ (vs : List OuterUnit). units_bytes (take c vs)) (outers_drop f us) ∙ ap units_bytes (outers_take c (drop f us)) ∙ bytes_same (take c (drop f us))

outers_long : (us : List Unit_of) → length (outers us) ≡ length us
outers_long [] = refl
outers_long (u ∷ us) = ap suc (outers_long us)

-- ---- a cut that can begin comes out

none_lacks : (b : Bool) (o : Option MajorSync) → IsTrue (is_some o) → (b && is_none o) ≡ false
none_lacks true (Some m) e = refl
none_lacks false (Some m) e = refl
none_lacks b None e = absurd (let no : false ≡ true = e in cc)

lacks_none : (c : ℕ) (us : List Unit_of) → IsTrue (is_some (first_sync us)) → lacks_sync c (outers us) ≡ false
lacks_none c [] e = refl
lacks_none c (u ∷ us) e = none_lacks (not (c == 0)) u.outer.major e

pub cut_comes_out : (k f c : ℕ) (bytes : List ℕ) (us : List Unit_of) → length bytes ≤ limit → Stream (whole k) (start k) k (bits_of bytes) us → f + c ≤ length us → HasSync f us
    → Answer (cutting f c) bytes (Ok tt) (cut f c us)
cut_comes_out k f c bytes us few stream within has =
    let is = is_cut f c bytes (outers us) few (outline_of k bytes us stream) in
    let free : lacks_sync c (drop f (outers us)) ≡ false = ap (lacks_sync c) (outers_drop f us) ∙ lacks_none c (drop f us) has in
    subst (Answer (cutting f c) bytes (Ok tt)) (cut_same f c us) (is.all free (omega (arith, outers_long us)))
