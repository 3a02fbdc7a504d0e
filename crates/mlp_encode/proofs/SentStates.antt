-- What is in force behind the parameters of a block that is sent.
use Rattle.std.proofs.Common.{◌≡◌, ℕ, zero, suc, ◌+◌, ◌-◌, ◌<◌, ◌≤◌, Bool, true, false, List, [], ◌∷◌, ◌++◌, take, drop, map, length, get_or, Option, Some, None, refl, sym, ap, ◌∙◌, arith}
use Rattle.std.specs.Prelude.{◌||◌, nat_le, is_some, unwrap_or, if◌then◌else◌}
use Rattle.std.specs.List.{list_any, range_with_len}
use Rattle.std.proofs.lemmas.Bool.{and_from, le-leb}
use Rattle.std.proofs.lemmas.List.{drop_more, drop_all, take-append-drop}
use Rattle.mlp_syntax.specs.declared.params.ChannelParams.{ChannelParams}
use Rattle.mlp_syntax.specs.declared.params.Params.{Params}
use Rattle.mlp_params.specs.declared.state.ChannelState.{ChannelState}
use Rattle.mlp_params.specs.declared.state.State.{State}
use Rattle.mlp_params.specs.Applied.{channel_applied, channels_applied, applied}
use Rattle.mlp_residual.specs.Frames.{channel_codes, steps_within}
use Rattle.mlp_residual.specs.declared.frames.ChannelCode.{ChannelCode}
use Rattle.mlp_encode.specs.Blocks.{gives, params_with, behind_params}

pub or_parts : (a b : Bool) → (a || b) ≡ false → (a ≡ false) × (b ≡ false)
or_parts true b e = absurd (let t : true ≡ false = e in cc)
or_parts false b e = (refl, e)

none_is : {A : Type 0} (o : Option A) → is_some o ≡ false → o ≡ None
none_is None e = refl
none_is (Some x) e = absurd (let t : true ≡ false = e in cc)

-- ---- parameters that give nothing change nothing

all_none : (ss : List ChannelState) (gs : List (Option ChannelParams)) → list_any is_some gs ≡ false → channels_applied ss gs ≡ ss
all_none [] gs e = refl
all_none (s ∷ ss) [] e = refl
all_none (s ∷ ss) (None ∷ gs) e = ap (λ (xs : List ChannelState). s ∷ xs) (all_none ss gs e)
all_none (s ∷ ss) (Some g ∷ gs) e = absurd (let t : true ≡ false = e in cc)

nothing_given : (s : State) (p : Params) → p.presence ≡ None → p.shifts ≡ None → gives p ≡ false → applied s p ≡ s
nothing_given s p presence shifts e =
    let a = or_parts (is_some p.block_size || is_some p.matrices || is_some p.steps) (list_any is_some p.channels.items) e in
    let b = or_parts (is_some p.block_size || is_some p.matrices) (is_some p.steps) a.0 in
    let c = or_parts (is_some p.block_size) (is_some p.matrices) b.0 in
    let low : List ChannelState = take s.restart.min s.channels.items in
    let high : List ChannelState = drop s.restart.min s.channels.items in
    ap (λ o. record (applied s p) { presence = unwrap_or o s.presence }) presence
    ∙ ap (λ o. record (applied s p) { presence = s.presence; block_size = unwrap_or o s.block_size }) (none_is p.block_size c.0)
    ∙ ap (λ o. record (applied s p) { presence = s.presence; block_size = s.block_size; rows = unwrap_or o s.rows }) (none_is p.matrices c.1)
    ∙ ap (λ o. record (applied s p) { presence = s.presence; block_size = s.block_size; rows = s.rows; shifts = unwrap_or o s.shifts }) shifts
    ∙ ap (λ o. record (applied s p) { presence = s.presence; block_size = s.block_size; rows = s.rows; shifts = s.shifts; steps = unwrap_or o s.steps }) (none_is p.steps b.1)
    ∙ ap (λ (xs : List ChannelState). record s { channels = record { items = low ++ xs } }) (all_none high p.channels.items a.1)
    ∙ ap (λ (xs : List ChannelState). record s { channels = record { items = xs } }) (take-append-drop s.restart.min s.channels.items)

pub given_applies : (restarts : Bool) (p : Params) (s : State) → p.presence ≡ None → p.shifts ≡ None → behind_params (params_with restarts p) s ≡ applied s p
given_applies restarts p s presence shifts = pick (restarts || gives p) refl
  where
    pick : (t : Bool) → (restarts || gives p) ≡ t → behind_params (if t then Some p else None) s ≡ applied s p
    pick true e = refl
    pick false e = sym (nothing_given s p presence shifts (or_parts restarts (gives p) e).1)

-- ---- the channels behind parameters for each from one on

pub applied_over : (all : List ChannelState) (d : ChannelState) (f : ℕ → Option ChannelParams) (a n : ℕ) → a + n ≡ length all
    → channels_applied (drop a all) (map f (range_with_len a n)) ≡ map (λ c. channel_applied (get_or all c d) (f c)) (range_with_len a n)
applied_over all d f a zero e = ap (λ (ss : List ChannelState). channels_applied ss []) (drop_all a all (omega (arith, e)))
applied_over all d f a (suc n) e =
    let lt : a < length all = omega (arith, e) in
    ap (λ (ss : List ChannelState). channels_applied ss (f a ∷ map f (range_with_len (a + 1) n))) (drop_more all a d lt)
    ∙ ap (λ (ss : List ChannelState). channel_applied (get_or all a d) (f a) ∷ ss) (applied_over all d f (a + 1) n (omega (arith, e)))

-- the items of a list from one on
pub items_over : {A : Type 0} (all : List A) (d : A) (a n : ℕ) → a + n ≡ length all → drop a all ≡ map (λ c. get_or all c d) (range_with_len a n)
items_over all d a zero e = drop_all a all (omega (arith, e))
items_over {A} all d a (suc n) e =
    let lt : a < length all = omega (arith, e) in
    drop_more all a d lt ∙ ap (λ (xs : List A). get_or all a d ∷ xs) (items_over all d (a + 1) n (omega (arith, e)))

pub codes_over : (b : ℕ → ChannelState) (t : ℕ → ℕ) (a n : ℕ) → channel_codes (map b (range_with_len a n)) (map t (range_with_len a n))
    ≡ map (λ c. let k : ChannelCode = record { book = (b c).book; low = (b c).low - t c } in k) (range_with_len a n)
codes_over b t a zero = refl
codes_over b t a (suc n) = ap (λ (ks : List ChannelCode). record { book = (b a).book; low = (b a).low - t a } ∷ ks) (codes_over b t (a + 1) n)

pub within_over : (b : ℕ → ChannelState) (t : ℕ → ℕ) (a n : ℕ) → ((c : ℕ) → a ≤ c → c < a + n → t c ≤ (b c).low) → steps_within (map t (range_with_len a n)) (map b (range_with_len a n)) ≡ true
within_over b t a zero h = refl
within_over b t a (suc n) h =
    and_from (nat_le (t a) (b a).low) (steps_within (map t (range_with_len (a + 1) n)) (map b (range_with_len (a + 1) n))) (le-leb (t a) (b a).low (h a (omega arith) (omega arith)))
    (within_over b t (a + 1) n (λ c from to. h c (omega (arith, from)) (omega (arith, to))))
