-- What an interval says of the bytes from its first on, and that no other begins there.
use Rattle.std.proofs.Common.{◌≡◌, ◌≢◌, ℕ, ◌+◌, ◌*◌, ◌<◌, ◌≤◌, not, Bool, true, false, List, [], ◌∷◌, ◌++◌, length, drop, get_or, Err, Option, Some, None, inl, inr, refl, sym, ap, subst, ◌∙◌, arith, length-drop}
use Rattle.std.specs.Prelude.{IsTrue, is_some, is_none, slice_range, All}
use Rattle.std.proofs.lemmas.Bool.{cases_lt}
use Rattle.std.proofs.lemmas.List.{get_or-append-add, length-append}
use Rattle.std.proofs.lemmas.List.Folds.{drop_split}
use Rattle.mlp_syntax.specs.declared.major.MajorSync.{MajorSync}
use Rattle.mlp_bits.specs.Bits.{bits_of}
use Rattle.mlp_bits.proofs.Words.{bits_of-append}
use Rattle.mlp_bits.proofs.BitLists.{length-bits_of}
use Rattle.mlp_layout.specs.Layout.{tested}
use Rattle.mlp_layout.specs.Streams.{IsNext, Begins, Exists, Has, Stream}
use Rattle.mlp_layout.proofs.Settled.{found_more}
use Rattle.mlp_layout.proofs.StreamLaws.{same_unit, has_bits, one_has, begins_same, begins_with_more}
use Rattle.mlp_walk.specs.declared.refusal.Refusal.{Refusal}
use Rattle.mlp_walk.specs.Meaning.{HasTaken}
use Rattle.mlp_walk.specs.Next.{next_of}
use Rattle.mlp_walk.proofs.WalkLaws.{longer, begins_behind, first_next, some_bits, next_there, units_some}
use Rattle.mlp_contents.specs.Units.{Left, Unit_of, start, whole}
use Rattle.mlp_contents.proofs.FormatLaws.{whole_is}
use Rattle.mlp_recover.specs.Interval.{HasNoSync, Interval, NoneAt}
use Rattle.mlp_samples.specs.Behind.{left_behind}
use Rattle.mlp_recover.proofs.Fronts.{begins_front}

-- ---- bytes and their bits

pub split_bits : (bytes : List ℕ) (first past : ℕ) → first ≤ past → bits_of (slice_range bytes first past) ++ bits_of (drop past bytes) ≡ bits_of (drop first bytes)
split_bits bytes first past le = sym (bits_of-append (slice_range bytes first past) (drop past bytes)) ∙ ap bits_of (sym (drop_split bytes first past le))

length_left : (bytes : List ℕ) (past : ℕ) → past ≤ length bytes → length (bits_of (drop past bytes)) + 8 * past ≡ 8 * length bytes
length_left bytes past le = omega (arith, length-bits_of (drop past bytes), length-drop past bytes)

-- the same bits are left at one place alone
pub same_place : (bytes : List ℕ) (p q : ℕ) → p ≤ length bytes → q ≤ length bytes → bits_of (drop p bytes) ≡ bits_of (drop q bytes) → p ≡ q
same_place bytes p q a b e = omega (arith, length_left bytes p a, length_left bytes q b, ap length e)

none_left : (bytes : List ℕ) (past : ℕ) → past ≡ length bytes → length (bits_of (drop past bytes)) ≡ 0
none_left bytes past e = omega (arith, length_left bytes past (omega arith))

-- ---- major syncs

not_both : (o : Option MajorSync) → is_some o ≡ true → is_none o ≡ true → ⊥
not_both None a b = cc
not_both (Some m) a b = cc

behind_first : (P : Unit_of → Type 0) (us : List Unit_of) (u : Unit_of) (more : List Unit_of) → All P (us ++ u ∷ more) → P u
behind_first P us u more h =
    let at = h (length us) u (omega (arith, length-append us (u ∷ more))) in
    subst P (ap (λ (i : ℕ). get_or (us ++ u ∷ more) i u) (sum (length us)) ∙ get_or-append-add us (u ∷ more) 0 u) at
  where
    sum : (n : ℕ) → n ≡ n + 0
    sum n = omega arith

-- only the first of several units may have one
later_unit : (us : List Unit_of) (u : Unit_of) (more : List Unit_of) → us ≢ [] → All HasNoSync (drop 1 (us ++ u ∷ more)) → HasNoSync u
later_unit [] u more some h = absurd (some refl)
later_unit (v ∷ us) u more some h = behind_first HasNoSync us u more h

module _ (k : ℕ) (bytes : List ℕ) (first : ℕ) where
  abbrev pub Taken : List Unit_of → ℕ → Type 0
  Taken us past = HasTaken (whole k) (start k) (Some k) (drop first bytes) us (drop past bytes)

  pub interval_some : (past : ℕ) (us : List Unit_of) → Interval k bytes first past us → us ≢ []
  interval_some past us i = units_some (whole k) (whole_is k) (start k) (Some k) (slice_range bytes first past) us i.stream

  -- its units begin the bytes from its first on
  pub interval_taken : (past : ℕ) (us : List Unit_of) → Interval k bytes first past us → Taken us past
  interval_taken past us i =
      let here = bits_of (slice_range bytes first past) in
      let rest = bits_of (drop past bytes) in
      let all = split_bits bytes first past (omega (arith, i.some)) in
      let e = i.stream.exists in
      let has : Has (whole k) (start k) (here ++ rest) e.0 = (e.1.0, found_more ((whole k).outer (start k)) here rest 0 e.1.0 e.1.1, e.1.2) in
      let there : Exists (whole k) (start k) k (here ++ rest) = (e.0, has, e.2) in
      record {
        begins = subst (λ (t : List Bool). Begins (whole k) (start k) t us rest) all (begins_with_more (whole k) (whole_is k) (start k) here rest us [] i.stream.units.begins);
        there = λ some. subst (λ (t : List Bool). Exists (whole k) (start k) k t) all there;
      }

  -- the presentation exists already where its first unit ends
  exists_in : (here : List Bool) (vs : List Unit_of) → vs ≢ [] → Begins (whole k) (start k) here vs [] → (rest : List Bool) → Exists (whole k) (start k) k (here ++ rest) → Exists (whole k) (start k) k here
  unfolding Begins
  exists_in here [] some b rest e = absurd (some refl)
  exists_in here (v ∷ vs) some b rest e =
      let has : Has (whole k) (start k) (here ++ rest) ((whole k).presentations v.outer) = (v.outer, found_more ((whole k).outer (start k)) here rest 0 v.outer b.0.outer, refl) in
      let same : e.0 ≡ (whole k).presentations v.outer = one_has (whole k) (whole_is k) (start k) (here ++ rest) e.0 ((whole k).presentations v.outer) e.1 has in
      ((whole k).presentations v.outer, (v.outer, b.0.outer, refl), omega (arith, same, e.2))

  -- units that begin there are a stream by themselves
  pub taken_stream : (past : ℕ) (us : List Unit_of) → first < past → past ≤ length bytes → us ≢ [] → Taken us past → Stream (whole k) (start k) k (bits_of (slice_range bytes first past)) us
  taken_stream past us lt le some t =
      let here = bits_of (slice_range bytes first past) in
      let rest = bits_of (drop past bytes) in
      let all = split_bits bytes first past (omega (arith, lt)) in
      let begins = begins_front (whole k) (whole_is k) (start k) here rest us (subst (λ (s : List Bool). Begins (whole k) (start k) s us rest) (sym all) t.begins) in
      record {
        units = record { begins = begins; some = some_bits (whole k) (whole_is k) (start k) here us [] begins some };
        exists = exists_in here us some begins rest (subst (λ (s : List Bool). Exists (whole k) (start k) k s) (sym all) (t.there some));
      }

  -- ---- where an interval ends no unit without a major sync follows

  ended_none : (ended : Bool) → ended ≡ true → IsTrue (not ended) → ⊥
  ended_none true e h = cc
  ended_none false e h = cc

  none_behind_end : (left : Left) (all : List Bool) (u : Unit_of) → left.ended ≡ true → IsNext (whole k) left all u → ⊥
  unfolding tested
  none_behind_end left all u e next = ended_none left.ended e next.outer.meets.0

  none_without_bits : (left : Left) (past : ℕ) (u : Unit_of) → past ≡ length bytes → IsNext (whole k) left (bits_of (drop past bytes)) u → ⊥
  none_without_bits left past u e next =
      omega (arith, none_left bytes past e, next.outer.stands.within, has_bits (whole k) (whole_is k) left (bits_of (drop past bytes)) u next)

  pub stops : (past : ℕ) (us : List Unit_of) (u : Unit_of) → Interval k bytes first past us → IsNext (whole k) (left_behind k us) (bits_of (drop past bytes)) u → HasNoSync u → ⊥
  stops past us u i next alone = elim i.ends [
    | inl all ↦ none_without_bits (left_behind k us) past u all next
    | inr behind ↦ elim behind [
      | inl ended ↦ none_behind_end (left_behind k us) (bits_of (drop past bytes)) u ended next
      | inr more ↦ (let same = same_unit (whole k) (whole_is k) (left_behind k us) (bits_of (drop past bytes)) more.unit u more.next next in
          not_both u.outer.major (subst (λ (v : Unit_of). is_some v.outer.major ≡ true) same more.major) alone)
    ]
  ]

  -- so of two lists of units that begin there, none but the first with a major sync, the shorter is no interval
  pub no_longer : (p q : ℕ) (us vs : List Unit_of) → Interval k bytes first p us → Taken vs q → All HasNoSync (drop 1 vs) → length us < length vs → ⊥
  no_longer p q us vs i t alone lt =
      let start_at = bits_of (drop first bytes) in
      let mine = interval_taken p us i in
      let go = longer (whole k) (whole_is k) (start k) (start k) start_at us vs (bits_of (drop p bytes)) (bits_of (drop q bytes)) mine.begins t.begins lt in
      let begins = subst (λ (ws : List Unit_of). Begins (whole k) (start k) start_at ws (bits_of (drop q bytes))) go.2 t.begins in
      let behind = begins_behind (whole k) (whole_is k) (start k) (start k) start_at us (go.0 ∷ go.1) (bits_of (drop p bytes)) (bits_of (drop q bytes)) begins mine.begins in
      let next = first_next (whole k) (whole_is k) (start k) (left_behind k us) (bits_of (drop p bytes)) go.0 go.1 (bits_of (drop q bytes)) behind in
      let none = later_unit us go.0 go.1 (interval_some p us i) (subst (λ (ws : List Unit_of). All HasNoSync (drop 1 ws)) go.2 alone) in
      stops p us go.0 i next none

  same_length : (p q : ℕ) (us vs : List Unit_of) → p ≤ length bytes → q ≤ length bytes → Taken us p → Taken vs q → length us ≡ length vs → (p ≡ q) × (us ≡ vs)
  same_length p q us vs a b s t e =
      let same = begins_same (whole k) (whole_is k) (start k) (bits_of (drop first bytes)) us vs (bits_of (drop p bytes)) (bits_of (drop q bytes)) e s.begins t.begins in
      (same_place bytes p q a b same.1, same.0)

  -- at most one interval begins there
  pub one_interval : (p q : ℕ) (us vs : List Unit_of) → Interval k bytes first p us → Interval k bytes first q vs → (p ≡ q) × (us ≡ vs)
  one_interval p q us vs i j = elim (cases_lt (length us) (length vs)) [
    | inl less ↦ absurd (no_longer p q us vs i (interval_taken q vs j) j.alone less)
    | inr more ↦ elim (cases_lt (length vs) (length us)) [
      | inl less ↦ absurd (no_longer q p vs us j (interval_taken p us i) i.alone less)
      | inr most ↦ same_length p q us vs i.within j.within (interval_taken p us i) (interval_taken q vs j) (omega arith)
    ]
  ]

  -- ---- where units go on to be read and the next is refused, no interval begins

  refused_none : (past : ℕ) (us : List Unit_of) (r : Refusal) → Taken us past → Exists (whole k) (start k) k (bits_of (drop first bytes))
      → next_of (whole k) (Some k) (length us) (left_behind k us) (drop past bytes) ≡ Err r → (u : Unit_of) → IsNext (whole k) (left_behind k us) (bits_of (drop past bytes)) u → ⊥
  refused_none past us r t told e u next =
      let there = next_there (whole k) (whole_is k) (start k) (Some k) (drop first bytes) us (drop past bytes) u t told next in
      let both = sym e ∙ there in cc

  pub refused_at : (past : ℕ) (us : List Unit_of) (r : Refusal) → Taken us past → All HasNoSync (drop 1 us) → past < length bytes → (us ≢ [] → (left_behind k us).ended ≡ false)
      → next_of (whole k) (Some k) (length us) (left_behind k us) (drop past bytes) ≡ Err r → NoneAt k bytes first
  refused_at past us r t alone more going e q vs i =
      let other = interval_taken q vs i in
      let told = other.there (interval_some q vs i) in
      let none = refused_none past us r t told e in
      let start_at = bits_of (drop first bytes) in
      elim (cases_lt (length us) (length vs)) [
        | inl less ↦ (let go = longer (whole k) (whole_is k) (start k) (start k) start_at us vs (bits_of (drop past bytes)) (bits_of (drop q bytes)) t.begins other.begins less in
            let begins = subst (λ (ws : List Unit_of). Begins (whole k) (start k) start_at ws (bits_of (drop q bytes))) go.2 other.begins in
            let behind = begins_behind (whole k) (whole_is k) (start k) (start k) start_at us (go.0 ∷ go.1) (bits_of (drop past bytes)) (bits_of (drop q bytes)) begins t.begins in
            none go.0 (first_next (whole k) (whole_is k) (start k) (left_behind k us) (bits_of (drop past bytes)) go.0 go.1 (bits_of (drop q bytes)) behind))
        | inr most ↦ elim (cases_lt (length vs) (length us)) [
          | inl less ↦ no_longer q past vs us i t alone less
          | inr same ↦ (let at = same_length past q us vs (omega (arith, more)) i.within t other (omega arith) in
              refused_same past us more going none (subst (λ (n : ℕ). Interval k bytes first n us) (sym at.0) (subst (Interval k bytes first q) (sym at.1) i)))
        ]
      ]
    where
      refused_same : (n : ℕ) (ws : List Unit_of) → n < length bytes → (ws ≢ [] → (left_behind k ws).ended ≡ false) → ((u : Unit_of) → IsNext (whole k) (left_behind k ws) (bits_of (drop n bytes)) u → ⊥) → Interval k bytes first n ws → ⊥
      refused_same n ws more going none i = elim i.ends [
        | inl all ↦ omega (arith, all, more)
        | inr behind ↦ elim behind [
          | inl ended ↦ (let not_ended = going (interval_some n ws i) in cc)
          | inr goes ↦ none goes.unit goes.next
        ]
      ]
