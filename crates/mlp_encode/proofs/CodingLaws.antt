-- What is sent of a channel is what the search gives.
use Rattle.std.proofs.Common.{◌≡◌, ℕ, zero, suc, ◌+◌, ◌-◌, ◌<◌, ℤ, pos, Bool, true, false, List, [], ◌∷◌, ◌++◌, take, drop, map, length, get_or, Option, Some, None, refl, sym, ap, ◌∙◌, arith, append_assoc, inl, inr}
use Rattle.std.specs.Prelude.{IfSome, IfNone, ◌==◌, ◌&&◌, unwrap_or, if◌then◌else◌}
use Rattle.std.specs.Ordering.{int_eq}
use Rattle.std.specs.Option.{option_and_then}
use Rattle.std.proofs.Math.ListN.{set, replicate}
use Rattle.std.proofs.lemmas.Bool.{and_parts, or_cases, eqb-true}
use Rattle.std.proofs.lemmas.Bool.Decides.{Decides-int_eq}
use Rattle.std.proofs.lemmas.List.{take_more_set, drop-set-lt, drop_more}
use Rattle.mlp_syntax.specs.declared.params.ChannelParams.{ChannelParams}
use Rattle.mlp_syntax.specs.declared.segment.Code.{Code}
use Rattle.mlp_syntax.specs.declared.segment.FrameCode.{FrameCode}
use Rattle.mlp_params.specs.declared.state.ChannelState.{ChannelState}
use Rattle.mlp_params.specs.Applied.{channel_applied}
use Rattle.mlp_params.specs.Filters.{order_of}
use Rattle.mlp_params.specs.States.{IsChannelState}
use Rattle.mlp_predict.specs.Prediction.{Past, Filters, with_state, residuals_of, past_of, latest}
use Rattle.mlp_predict.specs.Filters.{filters_of}
use Rattle.mlp_channels.specs.Channels.{state_of_channel, state_of_filter, of_state}
use Rattle.mlp_residual.specs.Coding.{Spells}
use Rattle.mlp_residual.proofs.Counting.{same_code}
use Rattle.mlp_search.specs.declared.pair.Pair.{Pair}
use Rattle.mlp_search.specs.declared.choice.Choice.{Choice}
use Rattle.mlp_search.specs.Candidates.{pair_of, past_for, residuals_for, past_behind}
use Rattle.mlp_search.specs.Given.{fir_stays, iir_stays, fir_given, iir_given, offset_given, with_zeros, codes_alike, all_stays, given, given_by}
use Rattle.mlp_search.specs.Cost.{code_for}
use Rattle.mlp_search.specs.Least.{chosen}
use Rattle.mlp_search.proofs.CodeLaws.{Judges, code_judged}
use Rattle.mlp_search.proofs.FilterLaws.{no_state}
use Rattle.mlp_search.proofs.GivenLaws.{pair_there, given_is_pair}
use Rattle.mlp_search.proofs.States.{put_is}
use Rattle.mlp_encode.specs.Coding.{code_by, code_of, past_with, residuals, codes_of, past_behind as left_behind, Sent, sent_by, channel_sent}
use Rattle.mlp_encode.specs.Pushed.{with_code, with_codes}

-- ---- codes

-- the code that was found is the one by division
pub code_same : (book b : ℕ) (offset : ℤ) (step : ℕ) (r : ℤ) (o : Option Code) → IfSome o (λ c. Spells book b offset step r c) → IfNone o ((code : Code) → Spells book b offset step r code → ⊥) → o ≡ code_for book b offset step r
code_same book b offset step r o some none = both o (code_for book b offset step r) some none (code_judged book b offset step r)
  where
    both : (o p : Option Code) → IfSome o (λ c. Spells book b offset step r c) → IfNone o ((code : Code) → Spells book b offset step r code → ⊥) → Judges book b offset step r p → o ≡ p
    both (Some c) (Some d) some none j = ap Some (same_code book b step offset r c d some j.some)
    both (Some c) None some none j = absurd (j.none c some)
    both None (Some d) some none j = absurd (none d j.some)
    both None None some none j = refl

-- one code more is put behind those of its frame
pub codes_more : (g : ℤ → Code) (rs : List ℤ) (fs whole : List FrameCode) (i : ℕ) (x : FrameCode) (r d : ℤ) (f : FrameCode) → i < length rs → i < length fs → r ≡ get_or rs i d → f ≡ get_or fs i f → x ≡ with_code (g r) f
    → take i fs ++ with_codes (map g (drop i rs)) (drop i fs) ≡ whole → take (i + 1) (set fs i x) ++ with_codes (map g (drop (i + 1) rs)) (drop (i + 1) (set fs i x)) ≡ whole
codes_more g rs fs whole i x r d f lr lf er ef ex e =
    let rest : List FrameCode = with_codes (map g (drop (i + 1) rs)) (drop (i + 1) fs) in
    let residual : drop i rs ≡ r ∷ drop (i + 1) rs = drop_more rs i d lr ∙ ap (λ (y : ℤ). y ∷ drop (i + 1) rs) (sym er) in
    let frame : drop i fs ≡ f ∷ drop (i + 1) fs = drop_more fs i f lf ∙ ap (λ (y : FrameCode). y ∷ drop (i + 1) fs) (sym ef) in
    let later : drop (i + 1) (set fs i x) ≡ drop (i + 1) fs = drop-set-lt (i + 1) fs i x (omega arith) in
    let here : with_codes (map g (drop i rs)) (drop i fs) ≡ x ∷ rest =
    ap (λ (ys : List ℤ). with_codes (map g ys) (drop i fs)) residual
    ∙ ap (λ (gs : List FrameCode). with_codes (map g (r ∷ drop (i + 1) rs)) gs) frame
    ∙ ap (λ (y : FrameCode). y ∷ rest) (sym ex) in
    ap (λ (gs : List FrameCode). gs ++ with_codes (map g (drop (i + 1) rs)) (drop (i + 1) (set fs i x))) (take_more_set fs i x lf)
    ∙ ap (λ (gs : List FrameCode). (take i fs ++ x ∷ []) ++ with_codes (map g (drop (i + 1) rs)) gs) later
    ∙ append_assoc (take i fs) (x ∷ []) rest
    ∙ ap (λ (gs : List FrameCode). take i fs ++ gs) (sym here)
    ∙ e

-- ---- what is in force behind the parameters of a choice

module _ (force : ChannelState) (pair : Pair) (c : Choice) where
  abbrev behind : Option ChannelParams → ChannelState
  behind g = channel_applied force g

  abbrev all : ChannelParams
  all = record { fir = fir_given force c.filter pair; iir = iir_given force c.filter pair; offset = offset_given force c.offset; book = c.book; low = c.low }

  alike : codes_alike force c ≡ true → (c.offset ≡ force.offset) × (c.book ≡ force.book) × (c.low ≡ force.low)
  alike e =
      let p = and_parts (int_eq c.offset force.offset && (c.book == force.book)) (c.low == force.low) e in
      let q = and_parts (int_eq c.offset force.offset) (c.book == force.book) p.0 in
      ((Decides-int_eq c.offset force.offset).0 q.0, eqb-true c.book force.book q.1, eqb-true c.low force.low p.1)

  stay_alike : all_stays force pair c ≡ true → codes_alike force c ≡ true
  stay_alike e = (and_parts (fir_stays force c.filter pair && iir_stays force c.filter pair) (codes_alike force c) e).1

  pub book_behind : (behind (given force pair c)).book ≡ c.book
  book_behind = pick (all_stays force pair c) refl
    where
      pick : (t : Bool) → all_stays force pair c ≡ t → (behind (if t then None else Some all)).book ≡ c.book
      pick true e = sym (alike (stay_alike e)).1
      pick false e = refl

  pub low_behind : (behind (given force pair c)).low ≡ c.low
  low_behind = pick (all_stays force pair c) refl
    where
      pick : (t : Bool) → all_stays force pair c ≡ t → (behind (if t then None else Some all)).low ≡ c.low
      pick true e = sym (alike (stay_alike e)).2
      pick false e = refl

  pub offset_behind : (behind (given force pair c)).offset ≡ c.offset
  offset_behind = pick (all_stays force pair c) refl
    where
      other : (t : Bool) → int_eq c.offset force.offset ≡ t → unwrap_or (if t then None else Some c.offset) force.offset ≡ c.offset
      other true e = sym ((Decides-int_eq c.offset force.offset).0 e)
      other false e = refl

      pick : (t : Bool) → all_stays force pair c ≡ t → (behind (if t then None else Some all)).offset ≡ c.offset
      pick true e = sym (alike (stay_alike e)).0
      pick false e = other (int_eq c.offset force.offset) refl

  -- ---- the past with its state

  no_order : iir_stays force c.filter pair ≡ true → (if c.filter == 0 then 0 else order_of pair.iir) ≡ 0
  no_order e = pick (c.filter == 0) refl
    where
      pick : (t : Bool) → (c.filter == 0) ≡ t → (if t then 0 else order_of pair.iir) ≡ 0
      pick true n = refl
      pick false n = elim (or_cases (c.filter == 0) ((order_of pair.iir == 0) && (order_of force.iir == 0)) e) [
        | inl z ↦ absurd (let w : true ≡ false = sym z ∙ n in cc)
        | inr both ↦ eqb-true (order_of pair.iir) 0 (and_parts (order_of pair.iir == 0) (order_of force.iir == 0) both).0
      ]

  stays_past : (past : Past) → iir_stays force c.filter pair ≡ true → past ≡ past_for c.filter pair past
  stays_past past e = ap (λ (n : ℕ). with_state (replicate n (pos 0)) past) (sym (no_order e))

  positive : iir_stays force c.filter pair ≡ false → 0 < c.filter
  positive e = above c.filter refl
    where
      above : (n : ℕ) → c.filter ≡ n → 0 < c.filter
      above zero z = absurd (let t : iir_stays force 0 pair ≡ false = ap (λ (k : ℕ). iir_stays force k pair) (sym z) ∙ e in cc)
      above (suc n) z = omega (arith, z)

  given_past : (past : Past) → pair.iir.state ≡ None → iir_stays force c.filter pair ≡ false → with_state (of_state (with_zeros pair.iir).state) past ≡ past_for c.filter pair past
  given_past past none e = pick (order_of pair.iir == 0) refl
    where
      pick : (t : Bool) → (order_of pair.iir == 0) ≡ t
          → with_state (of_state (if t then pair.iir else record (pair.iir) { state = Some (record { bits = 0; shift = 0; values = record { items = replicate (order_of pair.iir) (pos 0) } }) }).state) past ≡ past_for c.filter pair past
      pick true z = ap (λ o. with_state (of_state o) past) none ∙ sym (ap (λ (n : ℕ). with_state (replicate n (pos 0)) past) (zero_order (c.filter == 0) (eqb-true (order_of pair.iir) 0 z)))
        where
          zero_order : (t : Bool) → order_of pair.iir ≡ 0 → (if t then 0 else order_of pair.iir) ≡ 0
          zero_order true z = refl
          zero_order false z = z
      pick false z = put_is c.filter pair past _ (positive e) refl

  pub state_behind : (past : Past) → pair.iir.state ≡ None → with_state (state_of_channel (given force pair c)) past ≡ past_for c.filter pair past
  state_behind past none = pick (all_stays force pair c) refl
    where
      filter : (t : Bool) → iir_stays force c.filter pair ≡ t → with_state (state_of_filter (if t then None else Some (with_zeros pair.iir))) past ≡ past_for c.filter pair past
      filter true e = stays_past past e
      filter false e = given_past past none e

      pick : (t : Bool) → all_stays force pair c ≡ t → with_state (state_of_channel (if t then None else Some all)) past ≡ past_for c.filter pair past
      pick true e =
          let p = and_parts (fir_stays force c.filter pair && iir_stays force c.filter pair) (codes_alike force c) e in
          stays_past past (and_parts (fir_stays force c.filter pair) (iir_stays force c.filter pair) p.0).1
      pick false e = filter (iir_stays force c.filter pair) refl

-- ---- a channel

module _ (force : ChannelState) (past : Past) (step : ℕ) (samples : List ℤ) (c : Choice) (pair : Pair) (s : IsChannelState force) (there : pair_of force step samples c.filter ≡ Some pair) where
  pub given_is : given_by force step samples c ≡ given force pair c
  given_is = ap (λ (o : Option Pair). option_and_then (λ pair. given force pair c) o) there

  none_there : pair.iir.state ≡ None
  none_there = no_state 4 pair.iir (pair_there force step samples c.filter pair s there).iir

  abbrev g : Option ChannelParams
  g = given force pair c

  filters_same : filters_of (channel_applied force g).fir (channel_applied force g).iir ≡ filters_of pair.fir pair.iir
  filters_same = given_is_pair force step samples c pair s there

  residuals_are : residuals (channel_applied force g) g past step samples ≡ residuals_for past step samples c.filter pair
  residuals_are =
      ap (λ (f : Filters). residuals_of f (past_with g past) step samples) filters_same
      ∙ ap (λ (p : Past). residuals_of (filters_of pair.fir pair.iir) p step samples) (state_behind force pair c past none_there)

  pub past_is : left_behind (channel_applied force g) g past samples ≡ past_behind past samples c.filter pair
  past_is =
      ap (λ (f : Filters). latest 8 4 (past_of f (past_with g past) samples)) filters_same
      ∙ ap (λ (p : Past). latest 8 4 (past_of (filters_of pair.fir pair.iir) p samples)) (state_behind force pair c past none_there)

  pub codes_are : codes_of (channel_applied force g) g past step samples ≡ map (code_by c.book (c.low - step) c.offset step) (residuals_for past step samples c.filter pair)
  codes_are =
      ap (λ (rs : List ℤ). map (code_of (channel_applied force g) step) rs) residuals_are
      ∙ ap (λ (k : ℕ). map (code_by k ((channel_applied force g).low - step) (channel_applied force g).offset step) (residuals_for past step samples c.filter pair)) (book_behind force pair c)
      ∙ ap (λ (k : ℕ). map (code_by c.book (k - step) (channel_applied force g).offset step) (residuals_for past step samples c.filter pair)) (low_behind force pair c)
      ∙ ap (λ (z : ℤ). map (code_by c.book (c.low - step) z step) (residuals_for past step samples c.filter pair)) (offset_behind force pair c)

  pub sent_is : sent_by force (given_by force step samples c) past step samples
      ≡ record { given = g; codes = map (code_by c.book (c.low - step) c.offset step) (residuals_for past step samples c.filter pair); past = past_behind past samples c.filter pair }
  sent_is =
      ap (λ (o : Option ChannelParams). sent_by force o past step samples) given_is
      ∙ ap (λ (cs : List Code). let x : Sent = record { given = g; codes = cs; past = left_behind (channel_applied force g) g past samples } in x) codes_are
      ∙ ap (λ (p : Past). let x : Sent = record { given = g; codes = map (code_by c.book (c.low - step) c.offset step) (residuals_for past step samples c.filter pair); past = p } in x) past_is

-- the same of the choice that is taken
pub channel_is : (force : ChannelState) (past : Past) (step : ℕ) (filters : Bool) (samples : List ℤ) (c : Choice) (pair : Pair) → IsChannelState force → c ≡ chosen force past step filters samples
    → pair_of force step samples c.filter ≡ Some pair
    → channel_sent force past step filters samples
    ≡ record { given = given_by force step samples c; codes = map (code_by c.book (c.low - step) c.offset step) (residuals_for past step samples c.filter pair); past = past_behind past samples c.filter pair }
unfolding channel_sent
channel_is force past step filters samples c pair s e there =
    ap (λ (d : Choice). sent_by force (given_by force step samples d) past step samples) (sym e)
    ∙ sent_is force past step samples c pair s there
    ∙ ap (λ (o : Option ChannelParams). let x : Sent = record { given = o; codes = map (code_by c.book (c.low - step) c.offset step) (residuals_for past step samples c.filter pair); past = past_behind past samples c.filter pair } in x)
    (sym (given_is force past step samples c pair s there))
