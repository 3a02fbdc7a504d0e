-- A player takes each unit that is sent.
use Rattle.std.proofs.Common.{◌≡◌, ℕ, ◌+◌, ◌/◌, ◌%◌, ◌^◌, ◌<◌, ◌≤◌, List, [], ◌∷◌, ◌++◌, map, length, drop, ℤ, Bool, false, Option, Some, None, Ok, refl, sym, ap, ◌∙◌, subst, arith}
use Rattle.std.specs.Prelude.{min, sum, IsOk, IfOk, ◌==◌, if◌then◌else◌}
use Rattle.std.proofs.lemmas.Bool.{ne_eqb}
use Rattle.std.proofs.lemmas.List.Sums.{sum_by-append}
use Rattle.std.proofs.lemmas.List.{append-nil, length-append, length-map, map-append, drop_all}
use Rattle.std.proofs.lemmas.List.Concat.{flat_map-append}
use Rattle.mlp_bits.specs.Bits.{bits_of}
use Rattle.mlp_bits.proofs.Words.{bits_of-append}
use Rattle.mlp_layout.specs.Streams.{IsNext, Has, Begins, spelling_of, rest_of, left_after}
use Rattle.mlp_layout.proofs.StreamLaws.{one_has, begins_more, begins_with_more, begins_one}
use Rattle.mlp_unit.specs.AccessUnit.{in_force, substreams_of as told}
use Rattle.mlp_walk.specs.declared.refusal.Refusal.{Refusal}
use Rattle.mlp_walk.specs.Next.{asked, next_of}
use Rattle.mlp_walk.proofs.NextLaws.{next_found}
use Rattle.mlp_pcm.specs.Samples.{packed, row_bytes}
use Rattle.mlp_contents.specs.Units.{Unit_of, start, whole, frames_out, after}
use Rattle.mlp_contents.specs.Units.{Left as Decoded}
use Rattle.mlp_contents.proofs.FormatLaws.{whole_is}
use Rattle.mlp_fold.specs.declared.profile.Profile.{Profile}
use Rattle.mlp_fold.specs.Mix.{channels_of, presented_of}
use Rattle.mlp_fold.specs.Substreams.{substreams_of}
use Rattle.mlp_present.specs.Parts.{Next}
use Rattle.mlp_present.specs.Decoding.{Held, opened, after_unit, after_units, next_unit, unless_refused}
use Rattle.mlp_present.specs.Laws.{HoldsUnits}
use Rattle.mlp_present.proofs.Histories.{holds_units, goes_on}
use Rattle.mlp_encode.specs.Numbers.{low_zeros}
use Rattle.mlp_encode.specs.Sync.{sync_of}
use Rattle.mlp_encode.specs.Left.{Left}
use Rattle.mlp_lossless.specs.Following.{Follows}
use Rattle.mlp_lossless.specs.Next.{IsFollowed}
use Rattle.mlp_extract.specs.Extract.{extract, extracted_bytes}
use Rattle.mlp_gen.specs.Player.{Played, sum_with, after_played, CanTake, Took}
use Rattle.mlp_gen.proofs.Taking.{none, none_some}

-- what a player of presentation k gave of bytes that are so many units, which show these frames
pub record IsPlayedTo (p : Profile) (k number : ℕ) (pcm : List (List ℤ)) (bytes : List ℕ) (x : Played) : Type 0 where
  pub us : List Unit_of
  pub held_is : x.held ≡ after_units (opened k) us
  pub count : length us ≡ number
  pub begins : Begins (whole k) (start k) (bits_of bytes) us []
  pub frames : x.frames ≡ length pcm
  pub sum : x.sum ≡ sum_with k 0 (map (presented_of p.mix (low_zeros p.depth) p.channels k) pcm)
  pub extracted : x.extracted ≡ length (extract k us)

abbrev taken_by : Held → ℕ → Unit_of → Next
taken_by held size u = Ok (record { size = size; unit = u })

-- ---- a decoder takes the next unit

-- the first unit tells the presentation
told_enough : (p : Profile) (k : ℕ) (us : List Unit_of) (d : Decoded) (bytes : List ℕ) (u : Unit_of) → k ≤ 2 → k < substreams_of p.channels → d ≡ left_after (whole k) (start k) us
    → IsNext (whole k) d (bits_of bytes) u → in_force d.sync u.outer.major ≡ Some (sync_of p)
    → (m have : ℕ) → asked (Some k) (length us) ≡ Some m → Has (whole k) d (bits_of bytes) have → have ≤ m → ⊥
told_enough p k (v ∷ us) d bytes u few there is next sync m have e has le =
    let later : (length (v ∷ us) == 0) ≡ false = ne_eqb (length (v ∷ us)) 0 (λ z. absurd (omega (arith, z))) in
    let w : none ≡ Some m = sym (ap (λ (b : Bool). if b then Some k else None) later) ∙ e in
    absurd (none_some m w)
told_enough p k [] d bytes u few there is next sync m have e has le =
    let same : k ≡ m = cc in
    let first : u.outer.major ≡ Some (sync_of p) = subst (λ (d : Decoded). in_force d.sync u.outer.major ≡ Some (sync_of p)) is sync in
    let subs : told u.outer.major ≡ substreams_of p.channels = ap told first in
    let number : have ≡ min 3 (told u.outer.major) = one_has (whole k) (whole_is k) d (bits_of bytes) have (min 3 (told u.outer.major)) has (u.outer, next.outer, refl) in
    omega (arith, same, subs, number, few, there, le)

pub next_taken : (p : Profile) (k : ℕ) (us : List Unit_of) (held : Held) (bytes : List ℕ) (u : Unit_of) → k ≤ 2 → k < substreams_of p.channels → held ≡ after_units (opened k) us
    → IsNext (whole k) held.left (bits_of bytes) u → in_force held.left.sync u.outer.major ≡ Some (sync_of p)
    → next_unit held bytes ≡ taken_by held (length (spelling_of (whole k) held.left u) / 8) u
next_taken p k us held bytes u few there is next sync =
    let h : HoldsUnits k us held = subst (HoldsUnits k us) (sym is) (holds_units k us) in
    ap (λ (r : Option Refusal). unless_refused r (next_of (whole held.k) (Some held.k) held.units held.left bytes)) h.none_refused
    ∙ ap (λ (j : ℕ). next_of (whole j) (Some j) held.units held.left bytes) h.k_is
    ∙ ap (λ (n : ℕ). next_of (whole k) (Some k) n held.left bytes) h.units_are
    ∙ next_found (whole k) (whole_is k) (Some k) (length us) held.left bytes u next (told_enough p k us held.left bytes u few there h.left_is next sync)

-- ---- what it gave

sums_add : (a b : ℕ) → ((0 + a) % 2 ^ 32 + b) % 2 ^ 32 ≡ (0 + (a + b)) % 2 ^ 32
sums_add a b = omega arith

sum_append : (xs ys : List ℕ) → sum (xs ++ ys) ≡ sum xs + sum ys
sum_append xs ys = sum_by-append (λ (x : ℕ). x) xs ys

sum_more : (k : ℕ) (f : List ℤ → List ℤ) (pcm frames : List (List ℤ)) → sum_with k (sum_with k 0 (map f pcm)) (map f frames) ≡ sum_with k 0 (map f (pcm ++ frames))
sum_more k f pcm frames =
    sums_add (sum (packed 24 (channels_of k) (map f pcm))) (sum (packed 24 (channels_of k) (map f frames)))
    ∙ ap (λ (n : ℕ). (0 + n) % 2 ^ 32) (sym (sum_append (packed 24 (channels_of k) (map f pcm)) (packed 24 (channels_of k) (map f frames)))
    ∙ ap (λ (xs : List ℕ). sum xs) (sym (flat_map-append (row_bytes 24 (channels_of k)) (map f pcm) (map f frames)))
    ∙ ap (λ (rows : List (List ℤ)). sum (packed 24 (channels_of k) rows)) (sym (map-append f pcm frames)))

module _ (p : Profile) (k number : ℕ) (few : k ≤ 2) (there : k < substreams_of p.channels) (pcm : List (List ℤ)) (sent : List ℕ) (x : Played) (h : IsPlayedTo p k number pcm sent x)
    (frames : List (List ℤ)) (last : Bool) (bytes : List ℕ) (left : Left) (f : IsFollowed p k x.held.left frames last bytes left) where
  abbrev show : List ℤ → List ℤ
  show = presented_of p.mix (low_zeros p.depth) p.channels k

  holds : HoldsUnits k h.us x.held
  holds = subst (HoldsUnits k h.us) (sym h.held_is) (holds_units k h.us)

  here : IsNext (whole k) x.held.left (bits_of bytes) f.unit
  here = subst (λ (b : List Bool). IsNext (whole k) x.held.left b f.unit) (append-nil (bits_of bytes)) (f.next [])

  taken : next_unit x.held bytes ≡ taken_by x.held (length (spelling_of (whole k) x.held.left f.unit) / 8) f.unit
  taken = next_taken p k h.us x.held bytes f.unit few there h.held_is here f.sync

  pub can_take : number < 2 ^ 40 → CanTake bytes x
  can_take lt = (subst (λ (r : Next). IsOk r) (sym taken) refl, omega (arith, lt, holds.units_are, h.count))

  none_left : rest_of (whole k) x.held.left (bits_of bytes) f.unit ≡ []
  none_left = ap (λ (b : List Bool). drop (length b) (bits_of bytes)) f.spelled ∙ drop_all (length (bits_of bytes)) (bits_of bytes) (omega arith)

  begins : Begins (whole k) (start k) (bits_of (sent ++ bytes)) (h.us ++ f.unit ∷ []) []
  begins =
      let d : Decoded = left_after (whole k) (start k) h.us in
      let one : Begins (whole k) x.held.left (bits_of bytes) (f.unit ∷ []) [] = subst (Begins (whole k) x.held.left (bits_of bytes) (f.unit ∷ [])) none_left (begins_one (whole k) (whole_is k) x.held.left (bits_of bytes) f.unit here) in
      subst (λ (b : List Bool). Begins (whole k) (start k) b (h.us ++ f.unit ∷ []) []) (sym (bits_of-append sent bytes))
      (begins_more (whole k) (whole_is k) (start k) (bits_of sent ++ bits_of bytes) h.us (bits_of bytes) (f.unit ∷ []) []
      (begins_with_more (whole k) (whole_is k) (start k) (bits_of sent) (bits_of bytes) h.us [] h.begins)
      (subst (λ (d : Decoded). Begins (whole k) d (bits_of bytes) (f.unit ∷ []) []) holds.left_is one))

  given : frames_out x.held.k x.held.left f.unit ≡ map show frames
  given = ap (λ (j : ℕ). frames_out j x.held.left f.unit) holds.k_is ∙ f.frames_are

  after_is : IsPlayedTo p k (number + 1) (pcm ++ frames) (sent ++ bytes) (after_played x f.unit)
  after_is = record {
    us = h.us ++ f.unit ∷ [];
    held_is = ap (λ (held : Held). after_unit held f.unit) h.held_is ∙ sym (goes_on k h.us f.unit);
    count = length-append h.us (f.unit ∷ []) ∙ ap (λ (n : ℕ). n + 1) h.count;
    begins = begins;
    frames = omega (arith, h.frames, ap (λ (rows : List (List ℤ)). length rows) given, length-map frames show, length-append pcm frames);
    sum = ap (λ (rows : List (List ℤ)). sum_with x.held.k x.sum rows) given ∙ ap (λ (j : ℕ). sum_with j x.sum (map show frames)) holds.k_is
        ∙ ap (λ (n : ℕ). sum_with k n (map show frames)) h.sum ∙ sum_more k show pcm frames;
    extracted = ap (λ (j : ℕ). x.extracted + length (extracted_bytes j f.unit.outer)) holds.k_is ∙ ap (λ (n : ℕ). n + length (extracted_bytes k f.unit.outer)) h.extracted
        ∙ sym (ap (λ (xs : List ℕ). length xs) (flat_map-append (λ u. extracted_bytes k u.outer) h.us (f.unit ∷ []))
        ∙ length-append (extract k h.us) (extract k (f.unit ∷ [])) ∙ ap (λ (xs : List ℕ). length (extract k h.us) + length xs) (append-nil (extracted_bytes k f.unit.outer)));
  }

  became : (y : Played) → Took bytes x y → y ≡ after_played x f.unit
  became y t = subst (λ (r : Next). IfOk r (λ t. y ≡ after_played x t.unit)) taken t

  pub played_on : (y : Played) → Took bytes x y → IsPlayedTo p k (number + 1) (pcm ++ frames) (sent ++ bytes) y
  played_on y t = subst (IsPlayedTo p k (number + 1) (pcm ++ frames) (sent ++ bytes)) (sym (became y t)) after_is

  pub follows_on : (y : Played) → Took bytes x y → last ≡ false → Follows k f.e y.held.left
  follows_on y t e =
      let left_is : y.held.left ≡ after k x.held.left f.unit = ap (λ (z : Played). z.held.left) (became y t) ∙ ap (λ (j : ℕ). after j x.held.left f.unit) holds.k_is in
      subst (Follows k f.e) (sym left_is) (f.follows e)
