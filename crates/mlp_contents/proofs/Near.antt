-- A fault of a segment is at most 128 bits behind the segment's last bit. So its place in the unit has 32 bits.
use Rattle.std.proofs.Common.{◌≡◌, ℕ, zero, suc, ◌+◌, ◌≤◌, Bool, true, false, cond, leb, List, [], ◌∷◌, ◌++◌, length, take, drop, Ok, Err, Option, Some, None, refl, arith}
use Rattle.std.proofs.lemmas.Bool.{leb-true}
use Rattle.mlp_syntax.specs.declared.fault.Field.{Field}
use Rattle.mlp_bits.specs.Bits.{number}
use Rattle.mlp_layout.specs.Reading.{Read, ◌>>=◌, broken, short, number_at}
use Rattle.mlp_layout.specs.Layout.{Layout, Rule, judged, number_of, seen, ruled, tested, made, never, part, item}
use Rattle.mlp_layout.specs.Combined.{must_at, must, flag, signed_of, fixed, checked, chosen, present, group, times, listed, each, series, up_to_last}

-- the place behind what was read, or that of the fault
abbrev pub NearRead : {A : Type 0} → List Bool → Read A → Type 0
NearRead all (Ok x) = x.1 ≤ length all
NearRead all (Err e) = e.bit ≤ length all + 128

pub record IsNear {A : Type 0} (l : Layout A) : Type 0 where
  pub near : (all : List Bool) (p : ℕ) → p ≤ length all → NearRead all (l.read all p)

pub near_then : {A B : Type 0} (all : List Bool) (r : Read A) (f : A × ℕ → Read B) → NearRead all r → ((x : A × ℕ) → x.1 ≤ length all → NearRead all (f x)) → NearRead all (r >>= f)
near_then all (Ok x) f h k = k x h
near_then all (Err e) f h k = h

-- ---- the simple ones

pub number_near : (w : ℕ) → IsNear (number_of w)
unfolding number_of number_at
number_near w = record { near = λ all p le. go all p le (leb (p + w) (length all)) refl }
  where
    go : (all : List Bool) (p : ℕ) → p ≤ length all → (b : Bool) → leb (p + w) (length all) ≡ b → NearRead all (cond {A = Read ℕ} b (Ok (number (take w (drop p all)), p + w)) (Err (short p)))
    go all p le true is = leb-true _ _ is
    go all p le false is = omega arith

pub seen_near : {A B : Type 0} (into : A → B) (back : B → Option A) {l : Layout A} → IsNear l → IsNear (seen into back l)
unfolding seen
seen_near into back {l} h = record { near = λ all p le. near_then all (l.read all p) (λ a. Ok (into a.0, a.1)) (h.near all p le) (λ x q. q) }

abbrev pub NearFault : Option ℕ → Type 0
NearFault None = Unit {0}
NearFault (Some at) = at ≤ 128

pub record IsNearRule {A : Type 0} (r : Rule A) : Type 0 where
  pub near : (x : A) → NearFault (r.fails x)

pub ruled_near : {A : Type 0} {r : Rule A} {l : Layout A} → IsNearRule r → IsNear l → IsNear (ruled r l)
unfolding ruled
ruled_near {A} {r} {l} k h = record { near = λ all p le. near_then all (l.read all p) (λ x. judged r.field x p (r.fails x.0)) (h.near all p le) (λ x q. go all p le x q (r.fails x.0) (k.near x.0)) }
  where
    go : (all : List Bool) (p : ℕ) → p ≤ length all → (x : A × ℕ) → x.1 ≤ length all → (o : Option ℕ) → NearFault o → NearRead all (judged r.field x p o)
    go all p le x q None n = q
    go all p le x q (Some at) n = omega arith

pub must_at_near : {A : Type 0} (at : ℕ) (field : Field) (holds : A → Bool) → at ≤ 128 → IsNearRule (must_at at field holds)
must_at_near {A} at field holds le = record { near = λ x. go (holds x) }
  where
    go : (b : Bool) → NearFault (cond {A = Option ℕ} b None (Some at))
    go true = tt
    go false = le

pub must_near : {A : Type 0} (field : Field) (holds : A → Bool) → IsNearRule (must field holds)
must_near field holds = must_at_near 0 field holds (omega arith)

pub tested_near : {A : Type 0} (field : Field) (holds : Bool) {l : Layout A} → IsNear l → IsNear (tested field holds l)
unfolding tested
tested_near {A} field holds {l} h = record { near = λ all p le. go all p le holds }
  where
    go : (all : List Bool) (p : ℕ) → p ≤ length all → (b : Bool) → NearRead all (cond {A = Read A} b (l.read all p) (Err (broken field p)))
    go all p le true = h.near all p le
    go all p le false = omega arith

pub made_near : {R : Type 0} (it : R) → IsNear (made it)
unfolding made
made_near it = record { near = λ all p le. le }

pub never_near : {A : Type 0} (field : Field) → IsNear (never {A = A} field)
unfolding never
never_near field = record { near = λ all p le. omega arith }

pub part_near : {A R : Type 0} {first : Layout A} (of_record : R → A) {rest : A → Layout R} → IsNear first → ((a : A) → IsNear (rest a)) → IsNear (part first of_record rest)
unfolding part
part_near of_record {rest} h k = record { near = λ all p le. near_then all _ (λ a. (rest a.0).read all a.1) (h.near all p le) (λ x q. (k x.0).near all x.1 q) }

pub item_near : {A : Type 0} {first : Layout A} {rest : A → Layout (List A)} → IsNear first → ((a : A) → IsNear (rest a)) → IsNear (item first rest)
unfolding item
item_near {A} {first} {rest} h k = record {
  near = λ all p le. near_then all (first.read all p) (λ x. (rest x.0).read all x.1 >>= λ xs. Ok (x.0 ∷ xs.0, xs.1)) (h.near all p le)
      (λ x q. near_then all ((rest x.0).read all x.1) (λ xs. Ok (x.0 ∷ xs.0, xs.1)) ((k x.0).near all x.1 q) (λ xs r. r));
}

-- ---- those made of them

pub flag_near : IsNear flag
unfolding flag
flag_near = seen_near _ _ (number_near 1)

pub signed_near : (w : ℕ) → IsNear (signed_of w)
unfolding signed_of
signed_near w = seen_near _ _ (number_near w)

pub fixed_near : {A : Type 0} (w v : ℕ) (field : Field) {rest : Layout A} → IsNear rest → IsNear (fixed w v field rest)
unfolding fixed
fixed_near w v field h = part_near _ (ruled_near (must_near field _) (number_near w)) (λ n. h)

pub checked_near : {A : Type 0} (w : ℕ) (check : List Bool → ℕ) (field : Field) {l : Layout A} → IsNear l → IsNear (checked w check field l)
unfolding checked
checked_near w check field h = part_near _ h (λ x. fixed_near w _ field (made_near x))

pub chosen_near : {A : Type 0} (b : Bool) {l m : Layout A} → IsNear l → IsNear m → IsNear (chosen b l m)
unfolding chosen
chosen_near true h k = h
chosen_near false h k = k

pub present_near : {A : Type 0} (there : Bool) {l : Layout A} → IsNear l → IsNear (present there l)
unfolding present
present_near there h = chosen_near there (seen_near _ _ h) (made_near None)

pub group_near : {A : Type 0} (there : Bool) {l : Layout A} → IsNear l → IsNear (group there l)
unfolding group
group_near there h = chosen_near there (part_near _ flag_near (λ b. present_near b h)) (made_near None)

pub times_near : {A : Type 0} (n : ℕ) {l : Layout A} → IsNear l → IsNear (times n l)
unfolding times
times_near zero h = made_near []
times_near (suc n) h = item_near h (λ x. times_near n h)

pub listed_near : {A : Type 0} (n : ℕ) {l : Layout A} → IsNear l → IsNear (listed n l)
unfolding listed
listed_near n h = part_near _ (times_near n h) (λ items. made_near _)

pub each_near : {S A : Type 0} {l : S → Layout A} → ((s : S) → IsNear (l s)) → (ss : List S) → IsNear (each l ss)
unfolding each
each_near h [] = made_near []
each_near h (s ∷ ss) = item_near (h s) (λ x. each_near h ss)

pub series_near : {A : Type 0} {l : List A → Layout A} (n : ℕ) (before : List A) → ((before : List A) → IsNear (l before)) → IsNear (series l n before)
unfolding series
series_near zero before h = made_near []
series_near (suc n) before h = item_near (h before) (λ x. series_near n (before ++ x ∷ []) h)

pub up_to_last_near : {S A : Type 0} {value : S → Layout A} (after : S → A → S) (field : Field) (n : ℕ) (s : S) → ((s : S) → IsNear (value s)) → IsNear (up_to_last value after field n s)
unfolding up_to_last
up_to_last_near after field zero s h = never_near field
up_to_last_near after field (suc n) s h = item_near (h s) (λ x. part_near _ flag_near (λ last. chosen_near last (made_near []) (up_to_last_near after field n (after s x) h)))

pub ruleset nears = (
  number_near,
  seen_near,
  ruled_near,
  must_near,
  tested_near,
  made_near,
  never_near,
  part_near,
  item_near,
  flag_near,
  signed_near,
  fixed_near,
  checked_near,
  chosen_near,
  present_near,
  group_near,
  times_near,
  listed_near,
  each_near,
  series_near,
)
