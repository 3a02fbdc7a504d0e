-- Choices of the filters on trial that leave the best as it is.
use Rattle.std.proofs.Common.{◌≡◌, ℕ, zero, suc, ◌+◌, ◌-◌, ◌*◌, ◌/◌, ◌^◌, ◌<◌, ◌≤◌, ℤ, pos, Bool, true, false, List, [], ◌∷◌, length, map, Option, Some, None, arith, refl, sym, ◌∙◌, ap, subst, inl, inr}
use Rattle.std.specs.Prelude.{if◌then◌else◌}
use Rattle.std.specs.List.{flat_map, range_with_len}
use Rattle.std.proofs.lemmas.Bool.{cases_lt, ltb-true, ltb-false, le-ltb}
use Rattle.std.proofs.lemmas.List.{length-map}
use Rattle.std.proofs.Math.Nat.{mul-le-mul_left}
use Rattle.mlp_params.specs.declared.state.ChannelState.{ChannelState}
use Rattle.mlp_residual.specs.Coding.{symbols_of}
use Rattle.mlp_search.specs.declared.choice.Choice.{Choice}
use Rattle.mlp_search.specs.declared.trial.Trial.{Trial}
use Rattle.mlp_search.specs.declared.sides.Side.{Side}
use Rattle.mlp_search.specs.declared.sides.Sides.{Sides}
use Rattle.mlp_search.specs.Cost.{most_low, bits_for, parameter_sum, cost_over}
use Rattle.mlp_search.specs.Folded.{stepped, symbol_bits, all_folded, top_of, all_symbol_bits}
use Rattle.mlp_search.specs.Least.{is_better, better, least_from, choice_of, with_offsets, with_lows}
use Rattle.mlp_search.specs.Trial.{Writes, IsSide, IsFewest, AreSides}
use Rattle.mlp_search.proofs.CandidateLaws.{ranges}
use Rattle.mlp_search.proofs.CodeBits.{never_better}
use Rattle.mlp_search.proofs.CostLaws.{costs_from, parameters_is, offset_fits}
use Rattle.mlp_search.proofs.FoldSums.{none_fit, all_fit, least_symbols}
use Rattle.mlp_search.proofs.Scanning.{Along, along_range, kept_scanned}

-- ---- bounds

-- a bound that isn't better than the best isn't better than what comes in its place
better_stays : (m n : ℕ) (best : Option Choice) (c : Choice) (t : Bool) → is_better n best ≡ t → is_better m best ≡ false → is_better m (if t then Some (record c { bits = n }) else best) ≡ false
better_stays m n None c t e h = absurd cc
better_stays m n (Some b) c false e h = h
better_stays m n (Some b) c true e h =
    let less : n < b.bits = ltb-true n b.bits e in
    le-ltb m n (omega (arith, less, ltb-false m b.bits h))

one_stays : (m : ℕ) (best : Option Choice) (c : Choice) (o : Option ℕ) → is_better m best ≡ false → is_better m (better best c o) ≡ false
one_stays m best c None h = h
one_stays m best c (Some n) h = better_stays m n best c (is_better n best) refl h

pub never_again : (cost : Choice → Option ℕ) (m : ℕ) (best : Option Choice) (cs : List Choice) → is_better m best ≡ false → is_better m (least_from cost best cs) ≡ false
never_again cost m best [] h = h
never_again cost m best (c ∷ cs) h = never_again cost m (better best c (cost c)) cs (one_stays m best c (cost c) h)

-- a choice whose cost, where it has one, is no less than a bound that isn't better
pub bounded : (cost : Choice → Option ℕ) (m : ℕ) (best : Option Choice) (c : Choice) → is_better m best ≡ false → ((k : ℕ) → cost c ≡ Some k → m ≤ k) → better best c (cost c) ≡ best
bounded cost m best c h bound = pick (cost c) refl
  where
    pick : (o : Option ℕ) → cost c ≡ o → better best c o ≡ best
    pick None e = refl
    pick (Some k) e = ap (λ (t : Bool). if t then Some (record c { bits = k }) else best) (never_better m k best (bound k e) h)

pub some_symbols : (book : ℕ) → 0 < symbols_of book
some_symbols zero = omega arith
some_symbols (suc zero) = omega arith
some_symbols (suc (suc zero)) = omega arith
some_symbols (suc (suc (suc book))) = omega arith

pub most_below_all : (book : ℕ) → most_low book ≤ 31
most_below_all zero = omega arith
most_below_all (suc book) = omega arith

-- ---- what the choices cost

module _ (force : ChannelState) (step : ℕ) (t : Trial) (vs : List ℤ) (w : Writes force t) where
  -- what a cost is made of
  record Priced (c : Choice) (k : ℕ) : Type 0 where
    from : step ≤ c.low
    most : c.low ≤ most_low c.book
    codes : ℕ
    taken : bits_for c.book (c.low - step) c.offset step (map (stepped step) vs) ≡ Some codes
    total : k ≡ parameter_sum force t.pair c + codes

  priced : (c : Choice) (k : ℕ) → cost_over force step true t.pair (map (stepped step) vs) c ≡ Some k → Priced c k
  priced c k e =
      let h = costs_from force step true t.pair (map (stepped step) vs) c k e in
      let r = ranges step true c h.range in
      let is = parameters_is force t.pair c w.pair (offset_fits step (map (stepped step) vs) c.offset h.offset) in
      record { from = r.from; most = r.low; codes = h.codes; taken = h.taken; total = omega (arith, h.total, is) }

  -- low bits that are no candidates
  pub kept_outside : (c : Choice) (best : Option Choice) → (step ≤ c.low → c.low ≤ most_low c.book → ⊥) → better best c (cost_over force step true t.pair (map (stepped step) vs) c) ≡ best
  kept_outside c best out = never (cost_over force step true t.pair (map (stepped step) vs) c) refl
    where
      never : (o : Option ℕ) → cost_over force step true t.pair (map (stepped step) vs) c ≡ o → better best c o ≡ best
      never None e = refl
      never (Some k) e = absurd (let p = priced c k e in out p.from p.most)

  module _ (s : Side) (is : IsSide force step t vs s) where
    -- a value without a code
    pub kept_none : (c : Choice) (best : Option Choice) → c.offset ≡ s.offset → 0 < symbols_of c.book → symbols_of c.book ≤ s.top / 2 ^ (c.low - step) → better best c (cost_over force step true t.pair (map (stepped step) vs) c) ≡ best
    kept_none c best at some le = never (cost_over force step true t.pair (map (stepped step) vs) c) refl
      where
        beyond : symbols_of c.book ≤ top_of (all_folded c.offset vs) / 2 ^ (c.low - step)
        beyond = subst (λ (z : ℤ). symbols_of c.book ≤ top_of (all_folded z vs) / 2 ^ (c.low - step)) (sym at) (omega (arith, le, ap (λ (n : ℕ). n / 2 ^ (c.low - step)) is.top))

        never : (o : Option ℕ) → cost_over force step true t.pair (map (stepped step) vs) c ≡ o → better best c o ≡ best
        never None e = refl
        never (Some k) e =
            absurd (
            let p = priced c k e in
            let none = none_fit c.book (c.low - step) step c.offset vs beyond some in
            let both : Some p.codes ≡ None = sym p.taken ∙ none in
            cc
            )

    -- what codes there are
    codes_are : (c : Choice) (k : ℕ) (p : Priced c k) → c.offset ≡ s.offset → 0 < symbols_of c.book
        → (top_of (all_folded s.offset vs) / 2 ^ (c.low - step) < symbols_of c.book) × (p.codes ≡ length vs * (c.low - step) + all_symbol_bits c.book (c.low - step) (all_folded s.offset vs))
    codes_are c k p at some = elim (cases_lt (top_of (all_folded c.offset vs) / 2 ^ (c.low - step)) (symbols_of c.book)) [
      | inl lt ↦
          let all = all_fit c.book (c.low - step) step c.offset vs lt in
          let both : Some p.codes ≡ Some (length vs * (c.low - step) + all_symbol_bits c.book (c.low - step) (all_folded c.offset vs)) = sym p.taken ∙ all in
          let same : p.codes ≡ length vs * (c.low - step) + all_symbol_bits c.book (c.low - step) (all_folded c.offset vs) = cc in (
            subst (λ (z : ℤ). top_of (all_folded z vs) / 2 ^ (c.low - step) < symbols_of c.book) at lt,
            same ∙ ap (λ (z : ℤ). length vs * (c.low - step) + all_symbol_bits c.book (c.low - step) (all_folded z vs)) at,
          )
      | inr ge ↦
          absurd (
          let none = none_fit c.book (c.low - step) step c.offset vs ge some in
          let both : Some p.codes ≡ None = sym p.taken ∙ none in
          cc
          )
    ]

    -- the bits of the codes, where there are any
    pub code_bound : (c : Choice) (k m : ℕ) → c.filter ≡ t.number → c.offset ≡ s.offset → 0 < symbols_of c.book
        → (top_of (all_folded s.offset vs) / 2 ^ (c.low - step) < symbols_of c.book → m ≤ s.base + length vs * (c.low - step) + all_symbol_bits c.book (c.low - step) (all_folded s.offset vs))
        → cost_over force step true t.pair (map (stepped step) vs) c ≡ Some k → m ≤ k
    code_bound c k m number at some le e =
        let p = priced c k e in
        let codes = codes_are c k p at some in
        omega (arith, p.total, is.base c number at, codes.1, le codes.0)

  -- ---- both offsets

  module _ (z m : Side) (zis : IsSide force step t vs z) (mis : IsSide force step t vs m) (zat : z.offset ≡ pos 0) (mat : m.offset ≡ t.middle) where
    -- below the low bits from which on there are codes
    pub none_before : (book first j : ℕ) (best : Option Choice) → j < first → ((b : ℕ) → step + b < first → (symbols_of book ≤ z.top / 2 ^ b) × (symbols_of book ≤ m.top / 2 ^ b))
        → Along (λ c. better best c (cost_over force step true t.pair (map (stepped step) vs) c) ≡ best) (with_offsets t.number t.middle book j)
    none_before book first j best lt none = elim (cases_lt j step) [
      | inl under ↦ (
        kept_outside (choice_of t.number book j (pos 0)) best (λ from most. absurd (omega (arith, from, under))),
        (kept_outside (choice_of t.number book j t.middle) best (λ from most. absurd (omega (arith, from, under))), tt),
      )
      | inr from ↦
          let both = none (j - step) (omega (arith, from, lt)) in (
            kept_none z zis (choice_of t.number book j (pos 0)) best (sym zat) (some_symbols book) both.0,
            (kept_none m mis (choice_of t.number book j t.middle) best (sym mat) (some_symbols book) both.1, tt),
          )
    ]

    -- beyond the most low bits
    pub none_behind : (book j : ℕ) (best : Option Choice) → most_low book < j → Along (λ c. better best c (cost_over force step true t.pair (map (stepped step) vs) c) ≡ best) (with_offsets t.number t.middle book j)
    none_behind book j best over = (
      kept_outside (choice_of t.number book j (pos 0)) best (λ from most. absurd (omega (arith, most, over))),
      (kept_outside (choice_of t.number book j t.middle) best (λ from most. absurd (omega (arith, most, over))), tt),
    )

    more_low : (s : Side) (book base low j symbol : ℕ) → base ≤ s.base → low ≤ j → ((p : ℕ) → symbol ≤ symbol_bits book p)
        → base + length vs * (low - step + symbol) ≤ s.base + length vs * (j - step) + all_symbol_bits book (j - step) (all_folded s.offset vs)
    more_low s book base low j symbol le up each =
        let count : length (all_folded s.offset vs) ≡ length vs = length-map vs _ in
        let symbols = least_symbols book (j - step) symbol (all_folded s.offset vs) each in
        omega (arith, le, symbols, ap (λ (n : ℕ). n * symbol) count, mul-le-mul_left (length vs) (let l : low - step ≤ j - step = omega (arith, up) in l))

    -- from low bits on that take as many bits as the best with the least symbols
    pub low_behind : (book base low j symbol : ℕ) (best : Option Choice) → low ≤ j → base ≤ z.base → base ≤ m.base → ((p : ℕ) → symbol ≤ symbol_bits book p) → is_better (base + length vs * (low - step + symbol)) best ≡ false
        → Along (λ c. better best c (cost_over force step true t.pair (map (stepped step) vs) c) ≡ best) (with_offsets t.number t.middle book j)
    low_behind book base low j symbol best up zle mle each h = (
      bounded (cost_over force step true t.pair (map (stepped step) vs)) (base + length vs * (low - step + symbol)) best (choice_of t.number book j (pos 0)) h
          (λ k e. code_bound z zis (choice_of t.number book j (pos 0)) k (base + length vs * (low - step + symbol)) refl (sym zat) (some_symbols book) (λ codes. more_low z book base low j symbol zle up each) e),
      (
        bounded (cost_over force step true t.pair (map (stepped step) vs)) (base + length vs * (low - step + symbol)) best (choice_of t.number book j t.middle) h
            (λ k e. code_bound m mis (choice_of t.number book j t.middle) k (base + length vs * (low - step + symbol)) refl (sym mat) (some_symbols book) (λ codes. more_low m book base low j symbol mle up each) e),
        tt,
      ),
    )

    -- a book in which all take as many bits as the best
    book_kept : (book bits : ℕ) (best : Option Choice) → 0 < book → book ≤ 3 → IsFewest vs z bits → IsFewest vs m bits → is_better bits best ≡ false
        → Along (λ c. better best c (cost_over force step true t.pair (map (stepped step) vs) c) ≡ best) (with_lows t.number t.middle book)
    book_kept book bits best some three zle mle h =
        along_range (λ c. better best c (cost_over force step true t.pair (map (stepped step) vs) c) ≡ best) (with_offsets t.number t.middle book) 0 32 (λ low from to. (
          bounded (cost_over force step true t.pair (map (stepped step) vs)) bits best (choice_of t.number book low (pos 0)) h
              (λ k e. code_bound z zis (choice_of t.number book low (pos 0)) k bits refl (sym zat) (some_symbols book) (zle book (low - step) some three) e),
          (
            bounded (cost_over force step true t.pair (map (stepped step) vs)) bits best (choice_of t.number book low t.middle) h
                (λ k e. code_bound m mis (choice_of t.number book low t.middle) k bits refl (sym mat) (some_symbols book) (mle book (low - step) some three) e),
            tt,
          ),
        ))

    fewer : (s : Side) (a b : ℕ) → a ≤ b → IsFewest vs s b → IsFewest vs s a
    fewer s a b le h = λ book low some three codes. omega (arith, le, h book low some three codes)

    pub books_kept : (bits zbits mbits : ℕ) (best : Option Choice) → IsFewest vs z zbits → IsFewest vs m mbits → bits ≤ zbits → bits ≤ mbits → is_better bits best ≡ false
        → best ≡ least_from (cost_over force step true t.pair (map (stepped step) vs)) best (flat_map (with_lows t.number t.middle) (range_with_len 1 3))
    books_kept bits zbits mbits best zf mf zle mle h =
        sym (kept_scanned (cost_over force step true t.pair (map (stepped step) vs)) best (flat_map (with_lows t.number t.middle) (range_with_len 1 3))
        (along_range (λ c. better best c (cost_over force step true t.pair (map (stepped step) vs) c) ≡ best) (with_lows t.number t.middle) 1 3
        (λ book from to. book_kept book bits best (omega (arith, from)) (omega (arith, to)) (fewer z bits zbits zle zf) (fewer m bits mbits mle mf) h)))

-- ---- sides with other bounds

side_with : (force : ChannelState) (step : ℕ) (t : Trial) (vs : List ℤ) (s : Side) (least : ℕ) → IsSide force step t vs s → IsFewest vs s least → IsSide force step t vs (record s { least = least })
side_with force step t vs s least is few = record { offset = is.offset; top = is.top; under = is.under; base = is.base; least = few }

pub sides_with : (force : ChannelState) (step : ℕ) (t : Trial) (vs : List ℤ) (s : Sides) (z m : Side) (zleast mleast : ℕ) → AreSides force step t vs s → IsFewest vs s.zero zleast → IsFewest vs s.middle mleast
    → z ≡ record s.zero { least = zleast } → m ≡ record s.middle { least = mleast } → AreSides force step t vs (record { zero = z; middle = m })
sides_with force step t vs s z m zleast mleast are zf mf ze me =
    subst (λ (x : Side). AreSides force step t vs (record { zero = x; middle = m })) (sym ze)
    (subst (λ (y : Side). AreSides force step t vs (record { zero = record s.zero { least = zleast }; middle = y })) (sym me)
    (record {
      zero = side_with force step t vs s.zero zleast are.zero zf;
      zero_small = record { base = are.zero_small.base; width = are.zero_small.width };
      at_zero = are.at_zero;
      middle = side_with force step t vs s.middle mleast are.middle mf;
      middle_small = record { base = are.middle_small.base; width = are.middle_small.width };
      at_middle = are.at_middle;
    }))
