-- A layout says how values are spelled in bits, which values have a spelling (Fits), which of these the rules
-- accept (Meets), where reading fails and with which fault (Fails), and how it is read.
use Rattle.std.specs.Prelude.{◌≡◌, ℕ, ◌+◌, ◌-◌, ◌<◌, ◌≤◌, ◌^◌, ◌==◌, nat_le, ◌&&◌, Bool, false, IsTrue, List, [], ◌∷◌, ◌++◌, length, take, drop, Ok, Err, Option, Some, None, if◌then◌else◌, ◌⊎◌}
use Rattle.mlp_syntax.specs.declared.fault.Field.{Field}
use Rattle.mlp_syntax.specs.declared.fault.Broken.{Broken}
use Rattle.mlp_bits.specs.Bits.{bits, number}
use Rattle.mlp_layout.specs.Reading.{Read, ◌>>=◌, Stands, broken, short, number_at}

pub record Layout (A : Type 0) : Type 1 where
  pub spelling : A → List Bool
  pub Fits : A → Type 0
  pub Meets : A → Type 0
  pub Fails : List Bool → ℕ → Broken → Type 0
  pub read : List Bool → ℕ → Read A

-- a value that fits stands at this place, and meets the rules
pub record Found {A : Type 0} (l : Layout A) (all : List Bool) (place : ℕ) (x : A) : Type 0 where
  pub fits : l.Fits x
  pub meets : l.Meets x
  pub stands : Stands all place (l.spelling x)

-- the place behind it
abbrev pub behind : {A : Type 0} → Layout A → ℕ → A → ℕ
behind l place x = place + length (l.spelling x)

-- ---- numbers

-- a number of so many bits
unfoldable pub number_of : ℕ → Layout ℕ
number_of width = record {
  spelling = λ n. bits width n;
  Fits = λ n. n < 2 ^ width;
  Meets = λ n. Unit {0};
  Fails = λ all place e. (length all < place + width) × (e ≡ short place);
  read = λ all place. number_at width all place;
}

-- ---- other values, spelled as those of a layout are

abbrev pub spelling_as : {A : Type 0} → (A → List Bool) → Option A → List Bool
spelling_as spelling None = []
spelling_as spelling (Some a) = spelling a

abbrev pub FitsAs : {A B : Type 0} → (A → B) → (A → Type 0) → Option A → B → Type 0
FitsAs into fits None b = ⊥
FitsAs into fits (Some a) b = fits a × (into a ≡ b)

abbrev pub MeetsAs : {A : Type 0} → (A → Type 0) → Option A → Type 0
MeetsAs meets None = Unit {0}
MeetsAs meets (Some a) = meets a

unfoldable pub seen : {A B : Type 0} → (A → B) → (B → Option A) → Layout A → Layout B
seen into back l = record {
  spelling = λ b. spelling_as l.spelling (back b);
  Fits = λ b. FitsAs into l.Fits (back b) b;
  Meets = λ b. MeetsAs l.Meets (back b);
  Fails = l.Fails;
  read = λ all place. l.read all place >>= λ a. Ok (into a.0, a.1);
}

-- ---- rules

-- a rule on a value: whether it fails, and at which bit, counted from the value's first
pub record Rule (A : Type 0) : Type 0 where
  pub field : Field
  pub fails : A → Option ℕ

-- a rule that is tried once the value was read
abbrev pub judged : {A : Type 0} → Field → A × ℕ → ℕ → Option ℕ → Read A
judged field x place None = Ok x
judged field x place (Some at) = Err (broken field (place + at))

unfoldable pub ruled : {A : Type 0} → Rule A → Layout A → Layout A
ruled rule l = record {
  spelling = l.spelling;
  Fits = l.Fits;
  Meets = λ x. l.Meets x × (rule.fails x ≡ None);
  Fails = λ all place e. l.Fails all place e ⊎ ((x : _) × (at : ℕ) × Found l all place x
      × (rule.fails x ≡ Some at) × (e ≡ broken rule.field (place + at)));
  read = λ all place. l.read all place >>= λ x. judged rule.field x place (rule.fails x.0);
}

-- a rule that is tried here, before the value is read
unfoldable pub tested : {A : Type 0} → Field → Bool → Layout A → Layout A
tested field holds l = record {
  spelling = l.spelling;
  Fits = l.Fits;
  Meets = λ x. IsTrue holds × l.Meets x;
  Fails = λ all place e. ((holds ≡ false) × (e ≡ broken field place)) ⊎ (IsTrue holds × l.Fails all place e);
  read = λ all place. if holds then l.read all place else Err (broken field place);
}

-- a rule on the number that the value's first bits are, which is tried before the value is read
unfoldable pub opening : {A : Type 0} → ℕ → Field → (ℕ → Bool) → Layout A → Layout A
opening width field holds l = record {
  spelling = l.spelling;
  Fits = l.Fits;
  Meets = λ x. IsTrue (holds (number (take width (l.spelling x)))) × l.Meets x;
  Fails = λ all place e. let ok = holds (number (take width (drop place all))) in
      ((ok ≡ false) × (e ≡ broken field place)) ⊎ (IsTrue ok × l.Fails all place e);
  read = λ all place. if holds (number (take width (drop place all))) then l.read all place
      else Err (broken field place);
}

-- whatever fails in the value fails as this, at the value's first bit
abbrev pub renamed : {A : Type 0} → Broken → Read A → Read A
renamed e (Ok x) = Ok x
renamed e (Err d) = Err e

unfoldable pub whole : {A : Type 0} → Field → Layout A → Layout A
whole field l = record {
  spelling = l.spelling;
  Fits = l.Fits;
  Meets = l.Meets;
  Fails = λ all place e. ((d : Broken) × l.Fails all place d) × (e ≡ broken field place);
  read = λ all place. renamed (broken field place) (l.read all place);
}

-- ---- records

-- nothing is left to read
unfoldable pub made : {R : Type 0} → R → Layout R
made it = record {
  spelling = λ r. [];
  Fits = λ r. r ≡ it;
  Meets = λ r. Unit {0};
  Fails = λ all place e. ⊥;
  read = λ all place. Ok (it, place);
}

-- no value may stand here
unfoldable pub never : {A : Type 0} → Field → Layout A
never field = record {
  spelling = λ x. [];
  Fits = λ x. ⊥;
  Meets = λ x. Unit {0};
  Fails = λ all place e. e ≡ broken field place;
  read = λ all place. Err (broken field place);
}

-- a part of a record, before the rest, which may depend on it
unfoldable pub part : {A R : Type 0} → Layout A → (R → A) → (A → Layout R) → Layout R
part first of_record rest = record {
  spelling = λ r. first.spelling (of_record r) ++ (rest (of_record r)).spelling r;
  Fits = λ r. first.Fits (of_record r) × (rest (of_record r)).Fits r;
  Meets = λ r. first.Meets (of_record r) × (rest (of_record r)).Meets r;
  Fails = λ all place e. first.Fails all place e
      ⊎ ((a : _) × Found first all place a × (rest a).Fails all (behind first place a) e);
  read = λ all place. first.read all place >>= λ a. (rest a.0).read all a.1;
}

-- ---- lists

-- the first item of a list, before the others, which may depend on it
abbrev cons_spelling : {A : Type 0} → (A → List Bool) → (A → List A → List Bool) → List A → List Bool
cons_spelling first rest [] = []
cons_spelling first rest (x ∷ xs) = first x ++ rest x xs

abbrev pub ConsFits : {A : Type 0} → (A → Type 0) → (A → List A → Type 0) → List A → Type 0
ConsFits first rest [] = ⊥
ConsFits first rest (x ∷ xs) = first x × rest x xs

unfoldable pub item : {A : Type 0} → Layout A → (A → Layout (List A)) → Layout (List A)
item first rest = record {
  spelling = cons_spelling first.spelling (λ x xs. (rest x).spelling xs);
  Fits = ConsFits first.Fits (λ x xs. (rest x).Fits xs);
  Meets = ConsFits first.Meets (λ x xs. (rest x).Meets xs);
  Fails = λ all place e. first.Fails all place e
      ⊎ ((x : _) × Found first all place x × (rest x).Fails all (behind first place x) e);
  read = λ all place. first.read all place >>= λ x. (rest x.0).read all x.1 >>= λ xs. Ok (x.0 ∷ xs.0, xs.1);
}

-- ---- a part that is there exactly where the next bits are these

abbrev pub next_is : ℕ → ℕ → List Bool → Bool
next_is width value text = number (take width text) == value

-- the layout that such bits choose; where there is no room for them they aren't there
unfoldable pub marked : {R : Type 0} → Bool → ℕ → ℕ → (R → Bool) → (Bool → Layout R) → Layout R
marked room width value is_there l = record {
  spelling = λ r. (l (is_there r)).spelling r;
  Fits = λ r. (l (is_there r)).Fits r × (is_there r ≡ (room && next_is width value ((l (is_there r)).spelling r)));
  Meets = λ r. (l (is_there r)).Meets r;
  Fails = λ all place e. (l (room && next_is width value (drop place all))).Fails all place e;
  read = λ all place. (l (room && next_is width value (drop place all))).read all place;
}

-- ---- a value of a known size, whose end ends what can be read

-- where not so many bits are left this fails, so many bits before
unfoldable pub sized : {A : Type 0} → ℕ → Field → ℕ → Layout A → Layout A
sized size field back l = record {
  spelling = l.spelling;
  Fits = λ x. l.Fits x × (length (l.spelling x) ≡ size);
  Meets = l.Meets;
  Fails = λ all place e. ((length all < place + size) × (e ≡ broken field (place - back)))
      ⊎ ((place + size ≤ length all) × l.Fails (take (place + size) all) place e);
  read = λ all place. if nat_le (place + size) (length all)
      then l.read (take (place + size) all) place else Err (broken field (place - back));
}

-- ---- what a layout owes

-- what reading gave is there
abbrev pub Sound : {A : Type 0} → Layout A → List Bool → ℕ → Read A → Type 0
Sound l all place (Ok x) = Found l all place x.0 × (x.1 ≡ behind l place x.0)
Sound l all place (Err e) = l.Fails all place e

-- what reading gives is there, and what is there is what reading gives
pub record IsLayout {A : Type 0} (l : Layout A) : Type 0 where
  pub sound : (all : List Bool) (place : ℕ) → place ≤ length all → Sound l all place (l.read all place)
  pub found : (all : List Bool) (place : ℕ) (x : A)
      → Found l all place x → l.read all place ≡ Ok (x, behind l place x)
  pub failed : (all : List Bool) (place : ℕ) (e : Broken) → l.Fails all place e → l.read all place ≡ Err e

-- so at each place there is one value or one fault, and not both
pub record HasOneReading {A : Type 0} (l : Layout A) (all : List Bool) (place : ℕ) : Type 0 where
  pub some : ((x : A) × Found l all place x) ⊎ ((e : Broken) × l.Fails all place e)
  pub not_both : (x : A) (e : Broken) → Found l all place x → l.Fails all place e → ⊥
  pub one_value : (x y : A) → Found l all place x → Found l all place y → x ≡ y
  pub one_fault : (d e : Broken) → l.Fails all place d → l.Fails all place e → d ≡ e
