-- Texts at places.
use Rattle.std.proofs.Common.{◌≡◌, ℕ, ◌+◌, ◌≤◌, Bool, List, [], ◌++◌, length, take, drop, refl, sym, ap, ◌∙◌, arith}
use Rattle.std.proofs.lemmas.List.{length-append, length-take, take_at, drop_at, take-append-drop, drop-drop, drop-take, take-take}
use Rattle.mlp_layout.specs.Reading.{Stands}

take_add : (n m : ℕ) (xs : List Bool) → take (n + m) xs ≡ take n xs ++ take m (drop n xs)
take_add n m xs =
    let e : take n (take (n + m) xs) ++ drop n (take (n + m) xs) ≡ take (n + m) xs = take-append-drop n (take (n + m) xs) in
    sym e ∙ rw (drop-take n m xs, take-take n (n + m) xs (omega arith)) refl

pub Stands-nil : (all : List Bool) (p : ℕ) → p ≤ length all → Stands all p []
Stands-nil all p le = record { within = omega arith; text_is = refl }

-- a text and the text behind it
pub Stands-append : (all : List Bool) (p : ℕ) (a b : List Bool) → Stands all p a → Stands all (p + length a) b → Stands all p (a ++ b)
Stands-append all p a b h k = record {
  within = omega (arith, length-append a b, h.within, k.within);
  text_is =
      let second : take (length b) (drop (length a) (drop p all)) ≡ b = rw drop-drop k.text_is in
      rw (length-append a b, take_add (length a) (length b) (drop p all), h.text_is, second) refl;
}

pub Stands-front : (all : List Bool) (p : ℕ) (a b : List Bool) → Stands all p (a ++ b) → Stands all p a
Stands-front all p a b h = record {
  within = omega (arith, length-append a b, h.within);
  text_is =
      let e : take (length a) (take (length (a ++ b)) (drop p all)) ≡ take (length a) (drop p all) = take-take (length a) (length (a ++ b)) (drop p all) (omega (arith, length-append a b)) in
      sym e ∙ ap (take (length a)) h.text_is ∙ take_at a b (length a) refl;
}

pub Stands-back : (all : List Bool) (p : ℕ) (a b : List Bool) → Stands all p (a ++ b) → Stands all (p + length a) b
Stands-back all p a b h = record {
  within = omega (arith, length-append a b, h.within);
  text_is =
      let e : drop (length a) (take (length a + length b) (drop p all)) ≡ take (length b) (drop (length a) (drop p all)) = drop-take (length a) (length b) (drop p all) in
      let t : take (length a + length b) (drop p all) ≡ a ++ b = rw (← length-append a b) h.text_is in
      let d : drop (length a) (drop p all) ≡ drop (p + length a) all = drop-drop (length a) p all in
      rw (← d) (sym e ∙ ap (drop (length a)) t ∙ drop_at a b (length a) refl);
}

-- the first bits of a text are the first bits that are there
pub Stands-first : (all : List Bool) (p w : ℕ) (a : List Bool) → Stands all p a → w ≤ length a → take w (drop p all) ≡ take w a
Stands-first all p w a s le = sym (take-take w (length a) (drop p all) le) ∙ ap (take w) s.text_is

-- a text in the first bits
pub Stands-cut : (all : List Bool) (p n : ℕ) (a : List Bool) → p + n ≤ length all → length a ≤ n → Stands all p a → Stands (take (p + n) all) p a
Stands-cut all p n a room le s = record {
  within = omega (arith, length-take (p + n) all);
  text_is =
      let e : drop p (take (p + n) all) ≡ take n (drop p all) = drop-take p n all in
      rw (e, take-take (length a) n (drop p all) le) s.text_is;
}

pub Stands-uncut : (all : List Bool) (p n : ℕ) (a : List Bool) → p + n ≤ length all → Stands (take (p + n) all) p a → Stands all p a × (length a ≤ n)
Stands-uncut all p n a room s =
    let le : length a ≤ n = omega (arith, s.within, length-take (p + n) all) in
    let e : drop p (take (p + n) all) ≡ take n (drop p all) = drop-take p n all in
    let t : take (length a) (take n (drop p all)) ≡ a = rw (← e) s.text_is in
    (record { within = omega arith; text_is = sym (take-take (length a) n (drop p all) le) ∙ t }, le)
