-- The frames of a block that is sent can be written.
use Rattle.std.proofs.Common.{◌≡◌, ℕ, zero, suc, ◌+◌, ◌<◌, ◌≤◌, ℤ, pos, true, false, List, [], ◌∷◌, ◌++◌, map, length, get_or, Option, Some, None, refl, sym, ap, ◌∙◌, subst, arith}
use Rattle.std.specs.Prelude.{unwrap_or, IfSome, IsSome}
use Rattle.std.specs.List.{range_with_len}
use Rattle.std.specs.Option.{option_map}
use Rattle.std.proofs.lemmas.List.{length-append}
use Rattle.mlp_syntax.specs.declared.segment.Code.{Code}
use Rattle.mlp_layout.specs.Layout.{Layout, made, item}
use Rattle.mlp_layout.specs.Combined.{series}
use Rattle.mlp_residual.specs.Coding.{Spells, code_with, length_of}
use Rattle.mlp_residual.specs.Frames.{code, code_at, no_code}
use Rattle.mlp_residual.specs.declared.frames.ChannelCode.{ChannelCode}
use Rattle.mlp_residual.proofs.Counting.{spelled_fits}
use Rattle.mlp_search.specs.Cost.{code_for, bits_for, sum_of}
use Rattle.mlp_search.proofs.CodeLaws.{code_judged}
use Rattle.mlp_encode.specs.Coding.{code_by}

-- ---- a list of values of which each fits

pub series_all : {A : Type 0} (l : Layout A) (f : ℕ → A) (a n : ℕ) (before : List A) → ((i : ℕ) → a ≤ i → i < a + n → l.Fits (f i)) → (series (λ _. l) n before).Fits (map f (range_with_len a n))
unfolding series item made
series_all l f a zero before h = refl
series_all l f a (suc n) before h = (h a (omega arith) (omega arith), series_all l f (a + 1) n (before ++ f a ∷ []) (λ i from to. h i (omega (arith, from)) (omega (arith, to))))

pub codes_fit : (k : ℕ → ChannelCode) (f : ℕ → Code) (channels : List ChannelCode) (a n m : ℕ) (before : List Code) → length before ≡ m → ((i : ℕ) → i < n → get_or channels (m + i) no_code ≡ k (a + i))
    → ((c : ℕ) → a ≤ c → c < a + n → (code (k c)).Fits (f c)) → (series (code_at channels) n before).Fits (map f (range_with_len a n))
unfolding series item made
codes_fit k f channels a zero m before e same h = refl
codes_fit k f channels a (suc n) m before e same h =
    let z : m + 0 ≡ length before = omega (arith, e) in
    let y : a + 0 ≡ a = omega arith in
    let here : get_or channels (length before) no_code ≡ k a = ap (λ (i : ℕ). get_or channels i no_code) (sym z) ∙ same 0 (omega arith) ∙ ap k y in (
      subst (λ (c : ChannelCode). (code c).Fits (f a)) (sym here) (h a (omega arith) (omega arith)),
      codes_fit k f channels (a + 1) n (m + 1) (before ++ f a ∷ []) (omega (arith, e, length-append before (f a ∷ [])))
          (λ i lt. let p : m + 1 + i ≡ m + (i + 1) = omega arith in let q : a + (i + 1) ≡ a + 1 + i = omega arith in ap (λ (n : ℕ). get_or channels n no_code) p ∙ same (i + 1) (omega (arith, lt)) ∙ ap k q)
          (λ c from to. h c (omega (arith, from)) (omega (arith, to))),
    )

-- ---- codes that are counted

sum_there : (a b : Option ℕ) (n : ℕ) → sum_of a b ≡ Some n → (IsSome a) × ((m : ℕ) × (b ≡ Some m))
sum_there None b n e = absurd cc
sum_there (Some m) None n e = absurd cc
sum_there (Some m) (Some k) n e = (refl, (k, refl))

map_there : {A B : Type 0} (f : A → B) (o : Option A) → IsSome (option_map f o) → IsSome o
map_there f None h = h
map_there f (Some x) h = refl

-- each of counted residuals has a code
pub each_code : (book b : ℕ) (offset : ℤ) (step : ℕ) (rs : List ℤ) (n i : ℕ) → bits_for book b offset step rs ≡ Some n → i < length rs → IsSome (code_for book b offset step (get_or rs i (pos 0)))
each_code book b offset step [] n i e lt = absurd (omega (arith, lt))
each_code book b offset step (r ∷ rs) n zero e lt = map_there (length_of book b) (code_for book b offset step r) (sum_there (option_map (length_of book b) (code_for book b offset step r)) (bits_for book b offset step rs) n e).0
each_code book b offset step (r ∷ rs) n (suc i) e lt =
    let rest = (sum_there (option_map (length_of book b) (code_for book b offset step r)) (bits_for book b offset step rs) n e).1 in
    each_code book b offset step rs rest.0 i rest.1 (omega (arith, lt))

-- .. which fits
pub code_fits : (book b : ℕ) (offset : ℤ) (step : ℕ) (r : ℤ) → IsSome (code_for book b offset step r) → (code_with book b).Fits (code_by book b offset step r)
code_fits book b offset step r h = pick (code_for book b offset step r) h (code_judged book b offset step r).some
  where
    pick : (o : Option Code) → IsSome o → IfSome o (λ c. Spells book b offset step r c) → (code_with book b).Fits (unwrap_or o (record { symbol = 0; low = 0 }))
    pick None h s = absurd (let t : false ≡ true = h in cc)
    pick (Some c) h s = spelled_fits book b step offset r c s
