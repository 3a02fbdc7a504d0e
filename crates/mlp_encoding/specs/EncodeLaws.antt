-- The session that encodes is one: what a trait asks of it, with its proof.
use Rattle.std.proofs.Common.{◌≡◌, ℕ, zero, suc, ◌+◌, ◌-◌, ◌<◌, ◌≤◌, ◌++◌, Bool, true, false, not, List, [], ◌∷◌, length, take, Option, None, Some, Result, Ok, Err, inl, inr, refl, sym, ap, subst, ◌∙◌, arith, length-append, length-take}
use Rattle.std.specs.Prelude.{is_none, ◌&&◌, ◌||◌, min, nat_le, nat_lt, if◌then◌else◌}
use Rattle.std.proofs.lemmas.Bool.{cases_lt, cases_order, lt-ltb, le-ltb, le-leb, lt-leb, leb-true}
use Rattle.std.proofs.lemmas.List.{append-nil, take-append-le, take_all, nil_from_length}
use Rattle.std.proofs.Math.Seq.{take-append-add}
use Rattle.mlp_syntax.specs.declared.refusal.NoRoom.{NoRoom}
use Rattle.mlp_syntax.specs.declared.refusal.PcmFault.{PcmFault}
use Rattle.mlp_syntax.specs.declared.refusal.ProfileFault.{ProfileFault}
use Rattle.mlp_stream.specs.Moves.{Move, Waits, Takes, IsMove, TakesWithin, IsSession}
use Rattle.mlp_stream.specs.Sizes.{most_of_unit}
use Rattle.mlp_fold.specs.declared.profile.Profile.{Profile}
use Rattle.mlp_fold.specs.Profile.{checked}
use Rattle.mlp_encode.specs.Left.{Going, Left}
use Rattle.mlp_encode.specs.Unit.{next_sent}
use Rattle.mlp_encoding.specs.Pcm.{full_size, frames_in, first_padded, data_in, is_seen}
use Rattle.mlp_encoding.specs.Encoding.{Encoding, page, passed_over, part_of, is_last, is_open, fault_by, fault_in, on_sent, on_fault, sends, unit_step, data_step, on_profile, on_left, encode_step, encode_count}
use Rattle.mlp_encoding.specs.Sizes.{sizes}

-- ---- it moves

sent_moves : (s : Encoding) (n : ℕ) (r : Result (List ℕ × Left) NoRoom) → IsMove (on_sent s n r)
sent_moves s n (Ok x) = tt
sent_moves s n (Err e) = tt

fault_moves : (s : Encoding) (g : Going) (part : List ℕ) (last : Bool) (o : Option PcmFault)
    → IsMove (on_fault s g part last o)
fault_moves s g part last (Some fault) = tt
fault_moves s g part last None = sent_moves s (length part) (next_sent (Ok g) (frames_in g.profile part) last)

-- by whether it waits
abbrev pub step_by : Encoding → Going → List ℕ → Bool → Move Encoding
step_by s g pcm waits = if waits then Waits else sends s g (part_of g.profile pcm) (is_last g.profile pcm)

pub unit_moves : (s : Encoding) (g : Going) (seen : Bool) (pcm : List ℕ)
    → is_open g.profile seen pcm ≡ false → IsMove (unit_step s g seen pcm)
unit_moves s g seen pcm e =
    subst (λ (b : Bool). IsMove (step_by s g pcm b)) (sym e)
    (fault_moves s g (part_of g.profile pcm) (is_last g.profile pcm)
    (fault_in g.profile g.units (part_of g.profile pcm) (is_last g.profile pcm)))

-- ---- whether the next unit is open

abbrev opens : Bool → Bool → Bool → Bool → Bool
opens seen last short clear = not seen && last && (short || clear)

long_closed : (seen short clear : Bool) → opens seen false short clear ≡ false
long_closed true short clear = refl
long_closed false short clear = refl

padded_closed : (seen last : Bool) → opens seen last false false ≡ false
padded_closed true last = refl
padded_closed false true = refl
padded_closed false false = refl

pub closed_long : (p : Profile) (seen : Bool) (pcm : List ℕ) → full_size p < length pcm → is_open p seen pcm ≡ false
closed_long p seen pcm lt =
    ap (λ (b : Bool). opens seen b (nat_lt (length pcm) (full_size p))
    (is_none (first_padded p pcm))) (lt-leb (length pcm) (full_size p) lt)
    ∙ long_closed seen (nat_lt (length pcm) (full_size p)) (is_none (first_padded p pcm))

pub closed_padded : (p : Profile) (seen : Bool) (pcm : List ℕ) (frame : ℕ)
    → full_size p ≤ length pcm → first_padded p pcm ≡ Some frame → is_open p seen pcm ≡ false
closed_padded p seen pcm frame ge e =
    ap (λ (b : Bool). opens seen (is_last p pcm) b (is_none (first_padded p pcm)))
    (le-ltb (length pcm) (full_size p) ge)
    ∙ ap (λ (o : Option ℕ). opens seen (is_last p pcm) false (is_none o)) e ∙ padded_closed seen (is_last p pcm)

pub open_short : (p : Profile) (pcm : List ℕ) → length pcm < full_size p → is_open p false pcm ≡ true
open_short p pcm lt =
    ap (λ (b : Bool). opens false b (nat_lt (length pcm) (full_size p))
    (is_none (first_padded p pcm))) (le-leb (length pcm) (full_size p) (omega (arith, lt)))
    ∙ ap (λ (b : Bool). opens false true b (is_none (first_padded p pcm))) (lt-ltb (length pcm) (full_size p) lt)

pub open_clear : (p : Profile) (pcm : List ℕ) → length pcm ≡ full_size p → first_padded p pcm ≡ None
    → is_open p false pcm ≡ true
open_clear p pcm size e =
    ap (λ (b : Bool). opens false b (nat_lt (length pcm) (full_size p))
    (is_none (first_padded p pcm))) (le-leb (length pcm) (full_size p) (omega (arith, size)))
    ∙ ap (λ (b : Bool). opens false true b (is_none (first_padded p pcm)))
    (le-ltb (length pcm) (full_size p) (omega (arith, size)))
    ∙ ap (λ (o : Option ℕ). opens false true false (is_none o)) e

-- ---- more bytes change nothing

waits_not : (s : Encoding) (g : Going) (pcm : List ℕ) → is_open g.profile false pcm ≡ true
    → IsMove (unit_step s g false pcm) → ⊥
waits_not s g pcm e m = subst (λ (b : Bool). IsMove (step_by s g pcm b)) e m

-- low bits are refused whatever comes
padded_same : (s : Encoding) (g : Going) (part : List ℕ) (a b : Bool) (frame : ℕ)
    → first_padded g.profile part ≡ Some frame → sends s g part a ≡ sends s g part b
padded_same s g part a b frame e =
    ap (λ (o : Option ℕ). on_fault s g part a (fault_by g.profile g.units part a o)) e
    ∙ ap (λ (o : Option ℕ). on_fault s g part b (fault_by g.profile g.units part b o)) (sym e)

module _ (s : Encoding) (g : Going) (more : Bool) (pcm extra : List ℕ) where
  long_settled : full_size g.profile < length pcm → unit_step s g more (pcm ++ extra) ≡ unit_step s g false pcm
  long_settled lt =
      let lt2 : full_size g.profile < length (pcm ++ extra) = omega (arith, lt, length-append pcm extra) in
      ap (step_by s g (pcm ++ extra)) (closed_long g.profile more (pcm ++ extra) lt2)
      ∙ ap (λ (b : Bool). sends s g (part_of g.profile (pcm ++ extra)) b)
      (lt-leb (length (pcm ++ extra)) (full_size g.profile) lt2)
      ∙ ap (λ (xs : List ℕ). sends s g xs false) (take-append-le (full_size g.profile) pcm extra (omega (arith, lt)))
      ∙ ap (λ (b : Bool). sends s g (part_of g.profile pcm) b) (sym (lt-leb (length pcm) (full_size g.profile) lt))
      ∙ ap (step_by s g pcm) (sym (closed_long g.profile false pcm lt))

  more_closed : (frame : ℕ) → length pcm ≡ full_size g.profile
      → first_padded g.profile pcm ≡ Some frame → is_open g.profile more (pcm ++ extra) ≡ false
  more_closed frame size e = elim (cases_lt 0 (length extra)) [
    | inl some ↦ closed_long g.profile more (pcm ++ extra) (omega (arith, some, size, length-append pcm extra))
    | inr none ↦ (
        let nil : extra ≡ [] = nil_from_length extra (omega (arith, none)) in
        let same : pcm ++ extra ≡ pcm = ap (λ (xs : List ℕ). pcm ++ xs) nil ∙ append-nil pcm in
        ap (is_open g.profile more) same ∙ closed_padded g.profile more pcm frame (omega (arith, size)) e)
  ]

  padded_settled : (frame : ℕ) → length pcm ≡ full_size g.profile
      → first_padded g.profile pcm ≡ Some frame
      → unit_step s g more (pcm ++ extra) ≡ unit_step s g false pcm
  padded_settled frame size e =
      let first : part_of g.profile (pcm ++ extra) ≡ pcm =
      take-append-le (full_size g.profile) pcm extra (omega (arith, size))
      ∙ take_all (full_size g.profile) pcm (omega (arith, size)) in
      let part : part_of g.profile pcm ≡ pcm = take_all (full_size g.profile) pcm (omega (arith, size)) in
      ap (step_by s g (pcm ++ extra)) (more_closed frame size e)
      ∙ ap (λ (xs : List ℕ). sends s g xs (is_last g.profile (pcm ++ extra))) first
      ∙ padded_same s g pcm (is_last g.profile (pcm ++ extra)) (is_last g.profile pcm) frame e
      ∙ ap (λ (xs : List ℕ). sends s g xs (is_last g.profile pcm)) (sym part)
      ∙ ap (step_by s g pcm) (sym (closed_padded g.profile false pcm frame (omega (arith, size)) e))

  full_settled : (o : Option ℕ) → first_padded g.profile pcm ≡ o → length pcm ≡ full_size g.profile
      → IsMove (unit_step s g false pcm)
      → unit_step s g more (pcm ++ extra) ≡ unit_step s g false pcm
  full_settled (Some frame) e size m = padded_settled frame size e
  full_settled None e size m = absurd (waits_not s g pcm (open_clear g.profile pcm size e) m)

  open_settled : IsMove (unit_step s g false pcm) → unit_step s g more (pcm ++ extra) ≡ unit_step s g false pcm
  open_settled m = elim (cases_order (length pcm) (full_size g.profile)) [
    | inl size ↦ full_settled (first_padded g.profile pcm) refl size m
    | inr (inl lt) ↦ absurd (waits_not s g pcm (open_short g.profile pcm lt) m)
    | inr (inr gt) ↦ long_settled gt
  ]

unit_settled : (s : Encoding) (g : Going) (seen more : Bool) (pcm extra : List ℕ)
    → (seen ≡ true → (more ≡ true) × (extra ≡ [])) → IsMove (unit_step s g seen pcm)
    → unit_step s g more (pcm ++ extra) ≡ unit_step s g seen pcm
unit_settled s g true more pcm extra same m =
    let h = same refl in
    ap (λ (b : Bool). unit_step s g b (pcm ++ extra)) h.0
    ∙ ap (unit_step s g true) (ap (λ (xs : List ℕ). pcm ++ xs) h.1 ∙ append-nil pcm)
unit_settled s g false more pcm extra same m = open_settled s g more pcm extra m

abbrev pages : Encoding → Bool → List ℕ → Move Encoding
pages s go bytes = if go then Takes (min page (length bytes)) [] (record s { moves = s.moves + 1 }) else Waits

passed_settled : (s : Encoding) (ended : Bool) (next more : List ℕ)
    → IsMove (passed_over s false next)
    → passed_over s ended (next ++ more) ≡ passed_over s false next
passed_settled s ended next more m = elim (cases_lt (length next) page) [
  | inl lt ↦ absurd (subst (λ (b : Bool). IsMove (pages s b next)) (lt-leb page (length next) lt) m)
  | inr ge ↦ (
      let there : (ended || nat_le page (length (next ++ more))) ≡ true =
      on ended (le-leb page _ (omega (arith, ge, length-append next more))) in
      let same : min page (length (next ++ more)) ≡ min page (length next) =
      omega (arith, ge, length-append next more) in
      ap (λ (b : Bool). pages s b (next ++ more)) there
      ∙ ap (λ (n : ℕ). Takes n [] (record s { moves = s.moves + 1 })) same
      ∙ ap (λ (b : Bool). pages s b next) (sym (le-leb page (length next) ge)))
]
  where
    on : (b : Bool) {c : Bool} → c ≡ true → (b || c) ≡ true
    on true e = refl
    on false e = e

-- the data of more bytes are those of the first ones and some more, none once their end was seen
data_more : (n : ℕ) (next more : List ℕ)
    → data_in (Some n) (next ++ more) ≡ data_in (Some n) next ++ take (n - length next) more
data_more n next more = elim (cases_lt n (length next)) [
  | inl lt ↦ (
      let none : n - length next ≡ 0 = omega (arith, lt) in
      take-append-le n next more (omega (arith, lt)) ∙ sym (append-nil (take n next))
      ∙ ap (λ (k : ℕ). take n next ++ take k more) (sym none))
  | inr ge ↦ (
      let sum : n ≡ length next + (n - length next) = omega (arith, ge) in
      ap (λ (k : ℕ). take k (next ++ more)) sum ∙ take-append-add next more (n - length next)
      ∙ ap (λ (xs : List ℕ). xs ++ take (n - length next) more) (sym (take_all n next ge)))
]

data_settled : (s : Encoding) (g : Going) (o : Option ℕ) (next more : List ℕ) (ended : Bool)
    → IsMove (data_step s g o false next)
    → data_step s g o ended (next ++ more) ≡ data_step s g o false next
data_settled s g None next more ended m = unit_settled s g false ended next more (λ e. absurd cc) m
data_settled s g (Some zero) next more ended m = passed_settled s ended next more m
data_settled s g (Some (suc n)) next more ended m =
    ap (unit_step s g (is_seen (Some (suc n)) ended (next ++ more))) (data_more (suc n) next more)
    ∙ unit_settled s g (is_seen (Some (suc n)) false next)
    (is_seen (Some (suc n)) ended (next ++ more)) (data_in (Some (suc n)) next)
    (take (suc n - length next) more)
    (λ e. let le : suc n ≤ length next = leb-true (suc n) (length next) e in (
      on ended (le-leb (suc n) _ (omega (arith, le, length-append next more))),
      ap (λ (k : ℕ). take k more) (let z : suc n - length next ≡ 0 = omega (arith, le) in z),
    )) m
  where
    on : (b : Bool) {c : Bool} → c ≡ true → (b || c) ≡ true
    on true e = refl
    on false e = e

profile_settled : (s : Encoding) (g : Going) (r : Result Unit ProfileFault) (next more : List ℕ)
    (ended : Bool) → IsMove (on_profile s g r false next)
    → on_profile s g r ended (next ++ more) ≡ on_profile s g r false next
profile_settled s g (Ok x) next more ended m = data_settled s g s.to_come next more ended m
profile_settled s g (Err e) next more ended m = refl

left_settled : (s : Encoding) (l : Left) (next more : List ℕ) (ended : Bool)
    → IsMove (on_left s l false next) → on_left s l ended (next ++ more) ≡ on_left s l false next
left_settled s (Ok g) next more ended m = profile_settled s g (checked g.profile) next more ended m
left_settled s (Err e) next more ended m = refl

settled : (s : Encoding) (next more : List ℕ) (ended : Bool) → IsMove (encode_step s false next)
    → encode_step s ended (next ++ more) ≡ encode_step s false next
unfolding encode_step
settled s [] more ended m = absurd m
settled s (b ∷ next) more ended m = left_settled s s.left (b ∷ next) more ended m

-- ---- it doesn't wait for long

pages_move : (s : Encoding) (bytes : List ℕ) (go : Bool) → go ≡ true → IsMove (pages s go bytes)
pages_move s bytes true e = tt
pages_move s bytes false e = absurd cc

data_enough : (s : Encoding) (g : Going) (o : Option ℕ) (next : List ℕ) → full_size g.profile < 8190
    → 8190 ≤ length next → IsMove (data_step s g o false next)
data_enough s g None next few long =
    unit_moves s g false next (closed_long g.profile false next (omega (arith, few, long)))
data_enough s g (Some zero) next few long = pages_move s next _ (le-leb page (length next) (omega (arith, long)))
data_enough s g (Some (suc n)) next few long = elim (cases_lt (length next) (suc n)) [
  | inl lt ↦ unit_moves s g _ (data_in (Some (suc n)) next)
      (closed_long g.profile _ _ (omega (arith, few, long, lt, length-take (suc n) next)))
  | inr ge ↦ unit_moves s g _ (data_in (Some (suc n)) next)
      (ap (λ (b : Bool). is_open g.profile b (data_in (Some (suc n)) next))
      (le-leb (suc n) (length next) ge))
]

profile_enough : (s : Encoding) (g : Going) (r : Result Unit ProfileFault) (next : List ℕ)
    → checked g.profile ≡ r → 8190 ≤ length next → IsMove (on_profile s g r false next)
profile_enough s g (Ok x) next e long =
    data_enough s g s.to_come next (let z = (sizes g.profile e).full_most in omega (arith, z)) long
profile_enough s g (Err f) next e long = tt

left_enough : (s : Encoding) (l : Left) (next : List ℕ) → 8190 ≤ length next → IsMove (on_left s l false next)
left_enough s (Ok g) next long = profile_enough s g (checked g.profile) next refl long
left_enough s (Err e) next long = tt

enough : (s : Encoding) (next : List ℕ) → most_of_unit ≤ length next → IsMove (encode_step s false next)
unfolding encode_step
enough s [] long = absurd (omega (arith, long))
enough s (b ∷ next) long = left_enough s s.left (b ∷ next) long

-- ---- nor at the end

data_ends : (s : Encoding) (g : Going) (o : Option ℕ) (next : List ℕ) → IsMove (data_step s g o true next)
data_ends s g None next = unit_moves s g true next refl
data_ends s g (Some zero) next = tt
data_ends s g (Some (suc n)) next = unit_moves s g true (data_in (Some (suc n)) next) refl

profile_ends : (s : Encoding) (g : Going) (r : Result Unit ProfileFault) (next : List ℕ)
    → IsMove (on_profile s g r true next)
profile_ends s g (Ok x) next = data_ends s g s.to_come next
profile_ends s g (Err f) next = tt

left_ends : (s : Encoding) (l : Left) (next : List ℕ) → IsMove (on_left s l true next)
left_ends s (Ok g) next = profile_ends s g (checked g.profile) next
left_ends s (Err e) next = tt

ends : (s : Encoding) (next : List ℕ) → 0 < length next → IsMove (encode_step s true next)
unfolding encode_step
ends s [] some = absurd (omega (arith, some))
ends s (b ∷ next) some = left_ends s s.left (b ∷ next)

-- ---- what it takes is there

sent_within : (s : Encoding) (next : List ℕ) (n : ℕ) (r : Result (List ℕ × Left) NoRoom) → 0 < n
    → n ≤ length next → TakesWithin encode_count s next (on_sent s n r)
sent_within s next n (Ok x) some most = (some, most, refl)
sent_within s next n (Err e) some most = tt

fault_within : (s : Encoding) (g : Going) (next part : List ℕ) (last : Bool) (o : Option PcmFault)
    → 0 < length part → length part ≤ length next
    → TakesWithin encode_count s next (on_fault s g part last o)
fault_within s g next part last (Some fault) some most = tt
fault_within s g next part last None some most =
    sent_within s next (length part) (next_sent (Ok g) (frames_in g.profile part) last) some most

short_within : (s : Encoding) (g : Going) (waits : Bool) (next pcm : List ℕ)
    → 0 < full_size g.profile → 0 < length pcm → length pcm ≤ length next
    → TakesWithin encode_count s next (step_by s g pcm waits)
short_within s g true next pcm full some most = tt
short_within s g false next pcm full some most =
    let size = length-take (full_size g.profile) pcm in
    fault_within s g next (part_of g.profile pcm) (is_last g.profile pcm) _
    (omega (arith, size, full, some)) (omega (arith, size, most))

pages_within : (s : Encoding) (next : List ℕ) (go : Bool) → 0 < length next
    → TakesWithin encode_count s next (pages s go next)
pages_within s next true some = (omega (arith, some), omega arith, refl)
pages_within s next false some = tt

data_within : (s : Encoding) (g : Going) (o : Option ℕ) (next : List ℕ) (ended : Bool)
    → 0 < full_size g.profile → 0 < length next
    → TakesWithin encode_count s next (data_step s g o ended next)
data_within s g None next ended full some = short_within s g _ next next full some (omega arith)
data_within s g (Some zero) next ended full some = pages_within s next _ some
data_within s g (Some (suc n)) next ended full some =
    short_within s g _ next (data_in (Some (suc n)) next) full
    (omega (arith, some, length-take (suc n) next)) (omega (arith, length-take (suc n) next))

profile_within : (s : Encoding) (g : Going) (r : Result Unit ProfileFault) (next : List ℕ)
    (ended : Bool) → checked g.profile ≡ r → 0 < length next
    → TakesWithin encode_count s next (on_profile s g r ended next)
profile_within s g (Ok x) next ended e some = data_within s g s.to_come next ended (sizes g.profile e).full_some some
profile_within s g (Err f) next ended e some = tt

left_within : (s : Encoding) (l : Left) (next : List ℕ) (ended : Bool) → 0 < length next
    → TakesWithin encode_count s next (on_left s l ended next)
left_within s (Ok g) next ended some = profile_within s g (checked g.profile) next ended refl some
left_within s (Err e) next ended some = tt

within : (s : Encoding) (next : List ℕ) (ended : Bool) → TakesWithin encode_count s next (encode_step s ended next)
unfolding encode_step
within s [] ended = tt
within s (b ∷ next) ended = left_within s s.left (b ∷ next) ended (omega arith)

pub encode_lawful : IsSession encode_step encode_count
encode_lawful = record { settled = settled; enough = enough; ends = ends; within = within }
