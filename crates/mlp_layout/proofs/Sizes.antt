-- How many bits values take.
use Rattle.std.proofs.Common.{◌≡◌, ℕ, zero, suc, ◌+◌, ◌*◌, Bool, true, false, List, [], ◌∷◌, length, Option, Some, None, refl, sym, ap, ◌∙◌, arith}
use Rattle.std.proofs.lemmas.List.{length-append}
use Rattle.mlp_syntax.specs.declared.fault.Field.{Field}
use Rattle.mlp_bits.proofs.BitLists.{length-bits}
use Rattle.mlp_layout.specs.Layout.{Layout, Rule, number_of, seen, FitsAs, spelling_as, ruled, tested, opening, whole, made, part, item}
use Rattle.mlp_layout.specs.Combined.{under, flag, fixed, checked, chosen, present, times}

-- each value that fits takes so many bits
pub record Takes {A : Type 0} (l : Layout A) (size : A → ℕ) : Type 0 where
  pub takes : (x : A) → l.Fits x → length (l.spelling x) ≡ size x

pub number_takes : (w : ℕ) → Takes (number_of w) (λ n. w)
unfolding number_of
number_takes w = record { takes = λ n fits. length-bits w n }

as_takes : {A B : Type 0} (into : A → B) (l : Layout A) (m : A → ℕ) (size : B → ℕ) → Takes l m → ((a : A) → size (into a) ≡ m a)
    → (o : Option A) (b : B) → FitsAs into l.Fits o b → length (spelling_as l.spelling o) ≡ size b
as_takes into l m size t same None b fits = absurd fits
as_takes into l m size t same (Some a) b fits = t.takes a fits.0 ∙ sym (same a) ∙ ap size fits.1

pub seen_takes : {A B : Type 0} (into : A → B) (out : B → Option A) (l : Layout A) (m : A → ℕ) (size : B → ℕ) → Takes l m → ((a : A) → size (into a) ≡ m a) → Takes (seen into out l) size
unfolding seen
seen_takes into out l m size t same = record { takes = λ b fits. as_takes into l m size t same (out b) b fits }

pub flag_takes : Takes flag (λ b. 1)
unfolding flag
flag_takes = seen_takes _ _ (number_of 1) (λ n. 1) (λ b. 1) (number_takes 1) (λ n. refl)

pub ruled_takes : {A : Type 0} (rule : Rule A) (l : Layout A) (size : A → ℕ) → Takes l size → Takes (ruled rule l) size
unfolding ruled
ruled_takes rule l size t = record { takes = t.takes }

pub under_takes : {A : Type 0} (rules : List (Rule A)) (l : Layout A) (size : A → ℕ) → Takes l size → Takes (under rules l) size
unfolding under
under_takes [] l size t = t
under_takes (rule ∷ rules) l size t = under_takes rules (ruled rule l) size (ruled_takes rule l size t)

pub tested_takes : {A : Type 0} (field : Field) (holds : Bool) (l : Layout A) (size : A → ℕ) → Takes l size → Takes (tested field holds l) size
unfolding tested
tested_takes field holds l size t = record { takes = t.takes }

pub opening_takes : {A : Type 0} (width : ℕ) (field : Field) (holds : ℕ → Bool) (l : Layout A) (size : A → ℕ) → Takes l size → Takes (opening width field holds l) size
unfolding opening
opening_takes width field holds l size t = record { takes = t.takes }

pub whole_takes : {A : Type 0} (field : Field) (l : Layout A) (size : A → ℕ) → Takes l size → Takes (whole field l) size
unfolding whole
whole_takes field l size t = record { takes = t.takes }

pub made_takes : {R : Type 0} (it : R) → Takes (made it) (λ r. 0)
unfolding made
made_takes it = record { takes = λ r fits. refl }

pub part_takes : {A R : Type 0} (first : Layout A) (of_record : R → A) (rest : A → Layout R) (m : A → ℕ) (n : R → ℕ)
    → Takes first m → ((a : A) → Takes (rest a) n) → Takes (part first of_record rest) (λ r. m (of_record r) + n r)
unfolding part
part_takes first of_record rest m n t u = record {
  takes = λ r fits. let a = of_record r in omega (arith, length-append (first.spelling a) ((rest a).spelling r), t.takes a fits.0, (u a).takes r fits.1);
}

pub fixed_takes : {A : Type 0} (w v : ℕ) (field : Field) (rest : Layout A) (n : A → ℕ) → Takes rest n → Takes (fixed w v field rest) (λ x. w + n x)
unfolding fixed
fixed_takes w v field rest n t = part_takes _ _ _ (λ k. w) n (ruled_takes _ (number_of w) (λ k. w) (number_takes w)) (λ k. t)

pub checked_takes : {A : Type 0} (w : ℕ) (check : List Bool → ℕ) (field : Field) (l : Layout A) (n : A → ℕ) → Takes l n → Takes (checked w check field l) (λ x. n x + (w + 0))
unfolding checked
checked_takes w check field l n t = part_takes _ _ _ n (λ x. w + 0) t (λ x. fixed_takes w (check (l.spelling x)) field (made x) (λ r. 0) (made_takes x))

pub chosen_takes : {A : Type 0} (b : Bool) (l m : Layout A) (size : A → ℕ) → (b ≡ true → Takes l size) → (b ≡ false → Takes m size) → Takes (chosen b l m) size
unfolding chosen
chosen_takes true l m size h k = h refl
chosen_takes false l m size h k = k refl

abbrev pub option_size : {A : Type 0} → (A → ℕ) → Option A → ℕ
option_size size None = 0
option_size size (Some x) = size x

none_takes : {A : Type 0} (size : A → ℕ) → Takes (made {R = Option A} None) (option_size size)
unfolding made
none_takes size = record { takes = λ o fits. ap (option_size size) (sym fits) }

pub present_takes : {A : Type 0} (there : Bool) (l : Layout A) (size : A → ℕ) → Takes l size → Takes (present there l) (option_size size)
unfolding present
present_takes there l size t = chosen_takes there _ _ (option_size size) (λ is. seen_takes _ _ l size (option_size size) t (λ a. refl)) (λ is. none_takes size)

-- ---- lists

abbrev pub total : {A : Type 0} → (A → ℕ) → List A → ℕ
total size [] = 0
total size (x ∷ xs) = size x + total size xs

pub nil_takes : {A : Type 0} (size : A → ℕ) → Takes (made {R = List A} []) (total size)
unfolding made
nil_takes size = record { takes = λ xs fits. ap (total size) (sym fits) }

list_takes : {A : Type 0} (first : Layout A) (rest : A → Layout (List A)) (size : A → ℕ) → Takes first size
    → ((x : A) → Takes (rest x) (total size)) → (xs : List A) → (item first rest).Fits xs → length ((item first rest).spelling xs) ≡ total size xs
unfolding item
list_takes first rest size t u [] fits = absurd fits
list_takes first rest size t u (x ∷ xs) fits = omega (arith, length-append (first.spelling x) ((rest x).spelling xs), t.takes x fits.0, (u x).takes xs fits.1)

pub item_takes : {A : Type 0} (first : Layout A) (rest : A → Layout (List A)) (size : A → ℕ) → Takes first size → ((x : A) → Takes (rest x) (total size)) → Takes (item first rest) (total size)
item_takes first rest size t u = record { takes = list_takes first rest size t u }

pub times_takes : {A : Type 0} (n : ℕ) (l : Layout A) (size : A → ℕ) → Takes l size → Takes (times n l) (total size)
unfolding times
times_takes zero l size t = nil_takes size
times_takes (suc n) l size t = item_takes l _ size t (λ x. times_takes n l size t)

-- values of one size
pub total-same : {A : Type 0} (w : ℕ) (xs : List A) → total (λ x. w) xs ≡ w * length xs
total-same w [] = omega arith
total-same w (x ∷ xs) = let later = total-same w xs in grind (arith, later)

pub takes_is : {A : Type 0} (l : Layout A) (m n : A → ℕ) → Takes l m → ((x : A) → m x ≡ n x) → Takes l n
takes_is l m n t same = record { takes = λ x fits. t.takes x fits ∙ same x }

pub bytes_take : (n : ℕ) → Takes (times n (number_of 8)) (λ bytes. 8 * length bytes)
bytes_take n = takes_is _ (total (λ b. 8)) _ (times_takes n _ (λ b. 8) (number_takes 8)) (total-same 8)
