-- Where more bits behind change nothing of what is read. A stream is read so, unit by unit: a layout that is `sized`
-- looks at no bit behind its last, so the next unit is known once the bits before its size and its own are there.
use Rattle.std.proofs.Common.{◌≡◌, ℕ, ◌+◌, ◌≤◌, Bool, true, leb, List, [], ◌∷◌, ◌++◌, length, take, drop, Ok, Err, refl, sym, ap, subst, ◌∙◌, arith}
use Rattle.std.proofs.lemmas.List.{length-append, length-drop, take-append-le, drop-append-le}
use Rattle.std.proofs.lemmas.Bool.{le-leb}
use Rattle.mlp_syntax.specs.declared.fault.Field.{Field}
use Rattle.mlp_layout.specs.Reading.{Read, ◌>>=◌, Stands, broken, number_at}
use Rattle.mlp_layout.specs.Layout.{Layout, Found, behind, IsLayout, Rule, number_of, ruled, whole, renamed, made, part, sized}
use Rattle.mlp_layout.specs.Combined.{under}
use Rattle.mlp_layout.proofs.LayoutLaws.{is_found}

-- more bits behind change nothing of what is read here
pub record Settled {A : Type 0} (l : Layout A) (all : List Bool) (p : ℕ) : Type 0 where
  pub same : (more : List Bool) → l.read (all ++ more) p ≡ l.read all p

-- ---- what is there stays there

pub stands_more : (all more : List Bool) (p : ℕ) (text : List Bool) → Stands all p text → Stands (all ++ more) p text
stands_more all more p text s = record {
  within = omega (arith, length-append all more, s.within);
  text_is =
      let enough : length text ≤ length (drop p all) = omega (arith, length-drop p all, s.within) in
      let front : take (length text) (drop p all ++ more) ≡ take (length text) (drop p all) = take-append-le (length text) (drop p all) more enough in
      let at : drop p (all ++ more) ≡ drop p all ++ more = drop-append-le p all more (omega (arith, s.within)) in
      rw (at, front) s.text_is;
}

pub found_more : {A : Type 0} (l : Layout A) (all more : List Bool) (p : ℕ) (x : A) → Found l all p x → Found l (all ++ more) p x
found_more l all more p x f = record { fits = f.fits; meets = f.meets; stands = stands_more all more p (l.spelling x) f.stands }

-- ---- layouts

pub number_settled : (w : ℕ) (all : List Bool) (p : ℕ) → p + w ≤ length all → Settled (number_of w) all p
unfolding number_of number_at
number_settled w all p le = record {
  same = λ more.
      let there : leb (p + w) (length all) ≡ true = le-leb _ _ le in
      let longer : leb (p + w) (length (all ++ more)) ≡ true = le-leb _ _ (omega (arith, length-append all more)) in
      let at : drop p (all ++ more) ≡ drop p all ++ more = drop-append-le p all more (omega arith) in
      let front : take w (drop p all ++ more) ≡ take w (drop p all) = take-append-le w (drop p all) more (omega (arith, length-drop p all)) in
      rw (there, longer, at, front) refl;
}

pub ruled_settled : {A : Type 0} (rule : Rule A) (l : Layout A) (all : List Bool) (p : ℕ) → Settled l all p → Settled (ruled rule l) all p
unfolding ruled
ruled_settled rule l all p s = record { same = λ more. rw (s.same more) refl }

pub under_settled : {A : Type 0} (rules : List (Rule A)) (l : Layout A) (all : List Bool) (p : ℕ) → Settled l all p → Settled (under rules l) all p
unfolding under
under_settled [] l all p s = s
under_settled (rule ∷ rules) l all p s = under_settled rules (ruled rule l) all p (ruled_settled rule l all p s)

pub whole_settled : {A : Type 0} (field : Field) (l : Layout A) (all : List Bool) (p : ℕ) → Settled l all p → Settled (whole field l) all p
unfolding whole
whole_settled field l all p s = record { same = λ more. ap (renamed (broken field p)) (s.same more) }

pub made_settled : {R : Type 0} (it : R) (all : List Bool) (p : ℕ) → Settled (made it) all p
unfolding made
made_settled it all p = record { same = λ more. refl }

-- what is read next is the same, where it is settled behind what was read first
next_settled : {A B : Type 0} (r s : Read A) (f g : A × ℕ → Read B) → s ≡ r → ((x : A × ℕ) → r ≡ Ok x → g x ≡ f x) → (s >>= g) ≡ (r >>= f)
next_settled r s f g e h = ap (λ (t : Read _). t >>= g) e ∙ go r refl
  where
    go : (t : Read _) → r ≡ t → (t >>= g) ≡ (t >>= f)
    go (Ok x) e = h x e
    go (Err d) e = refl

pub part_settled : {A R : Type 0} (first : Layout A) (of_record : R → A) (rest : A → Layout R) (all : List Bool) (p : ℕ) → IsLayout first → p ≤ length all
    → Settled first all p → ((a : A) → Found first all p a → Settled (rest a) all (behind first p a)) → Settled (part first of_record rest) all p
unfolding part
part_settled first of_record rest all p h le s k = record {
  same = λ more. next_settled (first.read all p) (first.read (all ++ more) p) (λ a. (rest a.0).read all a.1) (λ a. (rest a.0).read (all ++ more) a.1) (s.same more)
      (λ a e. let f = is_found h all p le a e in (subst (λ (q : ℕ). Settled (rest a.0) all q) (sym f.1) (k a.0 f.0)).same more);
}

-- a value whose size is there
pub sized_settled : {A : Type 0} (size : ℕ) (field : Field) (back : ℕ) (l : Layout A) (all : List Bool) (p : ℕ) → p + size ≤ length all → Settled (sized size field back l) all p
unfolding sized
sized_settled size field back l all p le = record {
  same = λ more.
      let there : leb (p + size) (length all) ≡ true = le-leb _ _ le in
      let longer : leb (p + size) (length (all ++ more)) ≡ true = le-leb _ _ (omega (arith, length-append all more)) in
      let front : take (p + size) (all ++ more) ≡ take (p + size) all = take-append-le (p + size) all more le in
      rw (there, longer, front) refl;
}
